-- What is claimed of the choice beyond the call's contract, in document 01's words and numbers; each is proved in `proofs/` under its name
-- in snake case.
use Rattle.std.specs.Prelude.{ℕ, suc, ◌≤◌, ◌<◌, ◌≡◌, Bool, true, ◌↔◌, ◌⊎◌, get_or, length, ℤ, pos, ◌-ℤ◌, ◌≤ℤ◌, ◌<ℤ◌, Ok, Err}
use mathlib.Core.List.{List, Memᴰ, IsPrefix}
use Rattle.refusal.specs.declared.Refusal.{Refusal}
use Rattle.refusal.specs.declared.Reason.{Reason}
use Rattle.refusal.specs.declared.Reason.TheVariants.{Alone}
use Rattle.refusal.specs.Number.{reason_of}
use Rattle.refusal.specs.Told.{refused, gives}
use Rattle.refusal.specs.Claims.{OneToOne}
use Rattle.readings_rules.specs.Claims.{Between}
use Rattle.sweep_rules.specs.Record.{heard, level_at}
use Rattle.sweep_rules.specs.Claims.{WellFormed, Finished}
use Rattle.sweep_rules.specs.declared.Sweep.{Sweep}
use Rattle.choice_rules.specs.Order.{search_order, near_part}
use Rattle.choice_rules.specs.Choose.{Chosen, camp, read, no_beam, choosing}
use Rattle.choice_rules.specs.Told.{told_choice}
use Rattle.choice_rules.specs.declared.Choice.TheVariants as choice

-- ---- the refusals in document 01's words

-- "a lent string of 1,088 outcome bytes", that of channel c at place c: each 0 to 5, those of channels not heard too
pub record OutcomesInRange (o : List ℕ) : Type 0 where
  pub long : length o ≡ 1088
  pub bytes : (c : ℕ) → c < 1088 → get_or o c 0 ≤ 5

-- "a margin of 0 to 6,000 hundredths"
abbrev pub MarginInRange : ℤ → Type 0
MarginInRange = Between (pos 0) (pos 6000)

-- the table: a choice is refused with this number, and no place is told. "Several at once: 9, 8, 7, .. 4, ..": a later number only where no
-- earlier one is given
pub data Refuses (s : Sweep) (m : ℤ) (o : List ℕ) : Reason → Type 0 where
  -- 9: "a record not well formed"
  unformed : ¬ (WellFormed s) → Refuses s m o (Alone 9)
  -- 8: "outcome string not 1,088 long, or a byte above 5"
  outcomes_faulty : WellFormed s → ¬ (OutcomesInRange o) → Refuses s m o (Alone 8)
  -- 7: "a margin .. out of range"
  margin_out_of_range : WellFormed s → OutcomesInRange o → ¬ (MarginInRange m) → Refuses s m o (Alone 7)
  -- 4: "a choice over an unfinished sweep"
  unfinished : WellFormed s → OutcomesInRange o → MarginInRange m → ¬ (Finished s) → Refuses s m o (Alone 4)

-- a choice is refused with a number exactly when the table says so
abbrev pub RefusalRule : Type 0
RefusalRule = (s : Sweep) (m : ℤ) (o : List ℕ) (n : Reason) → (choosing s m o ≡ refused n) ↔ Refuses s m o n

-- the table has no number for the choice
abbrev pub Accepts : Sweep → ℤ → List ℕ → Type 0
Accepts s m o = (n : Reason) → ¬ (Refuses s m o n)

-- ---- the search order, over the channels that pass a test

-- the channel is one of those
abbrev pub Passes : (ℕ → Bool) → ℕ → Type 0
Passes test c = (c < 1088) × (test c ≡ true)

-- by falling level, equal levels by rising channel number
abbrev pub Before : Sweep → ℕ → ℕ → Type 0
Before s c d = (level_at s d <ℤ level_at s c) ⊎ ((level_at s c ≡ level_at s d) × (c < d))

pub record OrderRule (test : ℕ → Bool) (s : Sweep) : Type 0 where
  -- it holds exactly these channels
  pub exactly : (c : ℕ) → Memᴰ c (search_order test s) ↔ Passes test c
  -- each once: no two places hold the same
  pub once : (i j : ℕ) → i < j → j < length (search_order test s) → get_or (search_order test s) i 0 ≡ get_or (search_order test s) j 0 → ⊥
  -- and sorted: of two places the earlier one's comes before
  pub sorted : (i j : ℕ) → i < j → j < length (search_order test s) → Before s (get_or (search_order test s) i 0) (get_or (search_order test s) j 0)

abbrev pub SearchOrderRule : Type 0
SearchOrderRule = (s : Sweep) → OrderRule (heard s) s

-- ---- the near part, in terms of channels and levels alone

-- l is the strongest level of the channels that pass a test
pub record Strongest (test : ℕ → Bool) (s : Sweep) (l : ℤ) : Type 0 where
  pub reached : (c : ℕ) × Passes test c × (level_at s c ≡ l)
  pub highest : (c : ℕ) → Passes test c → level_at s c ≤ℤ l

-- the channel's level is at most the margin below the strongest
abbrev pub WithinMargin : (ℕ → Bool) → Sweep → ℤ → ℕ → Type 0
WithinMargin test s m c = (l : ℤ) × Strongest test s l × ((l -ℤ level_at s c) ≤ℤ m)

pub record NearRule (test : ℕ → Bool) (s : Sweep) (m : ℤ) : Type 0 where
  -- it is a beginning of the search order
  pub begins : IsPrefix (near_part test s m) (search_order test s)
  -- and holds exactly the channels at most the margin below the strongest
  pub exactly : (c : ℕ) → Memᴰ c (near_part test s m) ↔ (Passes test c × WithinMargin test s m c)

abbrev pub NearPartRule : Type 0
NearPartRule = (s : Sweep) (m : ℤ) → NearRule (heard s) s m

-- ---- the answer of an accepted choice

-- read, and not suitable: an outcome of 2 to 5
abbrev pub Unsuitable : List ℕ → ℕ → Type 0
Unsuitable o c = (2 ≤ get_or o c 0) × (get_or o c 0 ≤ 5)

-- n is the place of c in the search order, counted from 1, within the near part, and each channel before it was read and does not suit
pub record Named (s : Sweep) (m : ℤ) (o : List ℕ) (c n : ℕ) : Type 0 where
  pub near : Memᴰ c (near_part (heard s) s m)
  pub place : (j : ℕ) × (n ≡ suc j) × (j < length (near_part (heard s) s m)) × (get_or (search_order (heard s) s) j 0 ≡ c)
  pub first : (i : ℕ) → suc i < n → Unsuitable o (get_or (search_order (heard s) s) i 0)

-- "Take the first near channel with outcome 0 or 1.": each answer is given exactly when
pub record AnswerRule (s : Sweep) (m : ℤ) (o : List ℕ) : Type 0 where
  -- "Outcome 1: "camp there"."
  pub camps : (c n : ℕ) → (choosing s m o ≡ gives (camp c n)) ↔ (Accepts s m o × Named s m o c n × (get_or o c 0 ≡ 1))
  -- "Outcome 0: "read it next"."
  pub reads : (c n : ℕ) → (choosing s m o ≡ gives (read c n)) ↔ (Accepts s m o × Named s m o c n × (get_or o c 0 ≡ 0))
  -- "None: "no beam".", with "the length of the near part"
  pub none : (n : ℕ) → (choosing s m o ≡ gives (no_beam n))
      ↔ (Accepts s m o × ((c : ℕ) → Memᴰ c (near_part (heard s) s m) → Unsuitable o c) × (n ≡ length (near_part (heard s) s m)))
  -- "0 if nothing was heard"
  pub silent : Accepts s m o → ((c : ℕ) → ¬ (Passes (heard s) c)) → choosing s m o ≡ gives (no_beam 0)

abbrev pub TriedIsPlace : Type 0
TriedIsPlace = (s : Sweep) (m : ℤ) (o : List ℕ) → AnswerRule s m o

-- demand 2: an accepted choice ends in no beam exactly when every heard channel at most the margin below the strongest was read and none suits
abbrev pub NoBeamExactly : Type 0
NoBeamExactly = (s : Sweep) (m : ℤ) (o : List ℕ) (a : Chosen) → choosing s m o ≡ gives a
    → ((n : ℕ) × (a ≡ no_beam n)) ↔ ((c : ℕ) → Passes (heard s) c → WithinMargin (heard s) s m c → Unsuitable o c)

-- "Bytes for channels not heard are checked for range only.": in range, they change nothing
abbrev pub UnheardBytes : Type 0
UnheardBytes = (s : Sweep) (m : ℤ) (o p : List ℕ) → OutcomesInRange o → OutcomesInRange p
    → ((c : ℕ) → Passes (heard s) c → get_or o c 0 ≡ get_or p c 0) → choosing s m o ≡ choosing s m p

-- ---- answers

-- what is told of an answer fixes its case and values
abbrev pub AnswersDiffer : Type 0
AnswersDiffer = OneToOne told_choice

-- and each case is told as what it says, a refusal as its number and, where it has one, its place
pub record AnswersTold : Type 0 where
  pub camps : (c n : ℕ) → told_choice (Ok (choice.Camp c n)) ≡ gives (camp c n)
  pub reads : (c n : ℕ) → told_choice (Ok (choice.Read c n)) ≡ gives (read c n)
  pub none : (n : ℕ) → told_choice (Ok (choice.NoBeam n)) ≡ gives (no_beam n)
  pub refuses : (r : Refusal) → told_choice (Err r) ≡ refused (reason_of r)
