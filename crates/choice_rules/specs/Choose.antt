-- Document 01, section The choice: the outcome bytes, the margin, what is chosen, and the refusals 9, 8, 7, 4 in this order.
use Rattle.std.specs.Prelude.{ℕ, suc, Bool, cond, ◌&&◌, ◌||◌, List, [], ◌∷◌, get_or, length, ℤ, pos, eqb, leb}
use Rattle.std.proofs.Math.Option.{Option, none, some}
use Rattle.std.specs.Int.Signed.{le_z}
use Rattle.refusal.specs.declared.Refusal.TheVariants.{SweepUnfinished, ParameterOutOfRange, OutcomesFaulty, RecordNotWellFormed}
use Rattle.refusal.specs.Told.{Told, gives, provided}
use Rattle.sweep_rules.specs.Map.{channels}
use Rattle.sweep_rules.specs.Record.{heard, every_channel, finished, well_formed}
use Rattle.sweep_rules.specs.declared.Sweep.{Sweep}
use Rattle.choice_rules.specs.Order.{search_order, near_part}

-- the outcome bytes; 2 is barred, 3 access class not allowed, 4 other network
abbrev pub not_read : ℕ
not_read = 0

abbrev pub suitable : ℕ
suitable = 1

abbrev pub unreadable : ℕ
unreadable = 5

-- no byte is above this one
abbrev pub highest_outcome : ℕ
highest_outcome = unreadable

-- the outcome byte of channel c
abbrev pub outcome_at : List ℕ → ℕ → ℕ
outcome_at o c = get_or o c 0

-- a string of 1,088 outcome bytes, each in range; those of channels not heard too
unfoldable pub outcomes_fine : List ℕ → Bool
outcomes_fine o = eqb (length o) channels && every_channel (λ c. leb (outcome_at o c) highest_outcome)

-- a margin (SB_SELECTION_POWER) of 0 to 6,000 hundredths
abbrev pub margin_lowest : ℤ
margin_lowest = pos 0

abbrev pub margin_highest : ℤ
margin_highest = pos 6000

abbrev pub margin_in_range : ℤ → Bool
margin_in_range m = le_z margin_lowest m && le_z m margin_highest

-- what is chosen: a channel to camp on or to read next, each with the number of beams tried, or no beam after so many tried
pub data Chosen : Type 0 where
  camp : ℕ → ℕ → Chosen
  read : ℕ → ℕ → Chosen
  no_beam : ℕ → Chosen

-- the first channel of a list with outcome 0 or 1
unfoldable pub first_open : (ℕ → ℕ) → List ℕ → Option ℕ
first_open outcome [] = none
first_open outcome (c ∷ cs) = cond (eqb (outcome c) not_read || eqb (outcome c) suitable) (some c) (first_open outcome cs)

-- the place of a channel in a list, counted from 1
unfoldable pub place_in : List ℕ → ℕ → ℕ
place_in [] c = 0
place_in (d ∷ ds) c = cond (eqb d c) 1 (suc (place_in ds c))

-- outcome 1: camp there. Outcome 0: read it next. The number tried is the place in the search order; for none, no beam, it is the length of the near part
unfoldable pub answer_of : (ℕ → ℕ) → List ℕ → List ℕ → Option ℕ → Chosen
answer_of outcome order near (some c) = cond (eqb (outcome c) suitable) (camp c (place_in order c)) (read c (place_in order c))
answer_of outcome order near none = no_beam (length near)

-- the choice among the channels that pass a test
unfoldable pub chosen_among : (ℕ → Bool) → Sweep → ℤ → List ℕ → Chosen
chosen_among test s m o = answer_of (outcome_at o) (search_order test s) (near_part test s m) (first_open (outcome_at o) (near_part test s m))

-- the choice among the heard channels
unfoldable pub chosen : Sweep → ℤ → List ℕ → Chosen
chosen s m o = chosen_among (heard s) s m o

-- what the call answers
unfoldable pub choosing : Sweep → ℤ → List ℕ → Told Chosen
choosing s m o =
    provided (well_formed s) RecordNotWellFormed
    (provided (outcomes_fine o) OutcomesFaulty
    (provided (margin_in_range m) ParameterOutOfRange
    (provided (finished s) SweepUnfinished
    (gives (chosen s m o)))))
