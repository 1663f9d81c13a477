-- What the calls make of a watch as a list of rows, a row for each channel under watch: the serving channel, then its list in order.
-- Document 01, section The watch.
use Rattle.std.specs.Prelude.{ℕ, cond, List, [], ◌∷◌, ◌++◌, map, eqb, ℤ}
use Rattle.std.proofs.Math.Option.{Option, none, some}
use Rattle.refusal.specs.Told.{Told, refused, gives}
use Rattle.readings_rules.specs.Burst.{BurstResult, heard, missed, burst_of}
use Rattle.watch_rules.specs.Lists.{mem, last_n}
use Rattle.watch_rules.specs.Told.{Call, start, new_beam, file, ask, verdict}
use Rattle.watch_rules.specs.Rules.{View}

-- a channel with its levels, oldest first
pub record Row : Type 0 where
  pub channel : ℕ
  pub levels : List ℤ

abbrev pub row : ℕ → List ℤ → Row
row c ls = record { channel = c; levels = ls }

abbrev pub channels : List Row → List ℕ
channels rs = map (λ (r : Row). r.channel) rs

-- the levels that a channel has; none where it has no row
abbrev pub levels_of : ℕ → List Row → List ℤ
levels_of c [] = []
levels_of c (r ∷ rs) = cond (eqb r.channel c) r.levels (levels_of c rs)

-- the serving channel; none of an idle watch
abbrev pub first : List Row → Option ℕ
first [] = none
first (r ∷ rs) = some r.channel

-- the rows of the neighbours
abbrev pub rest : List Row → List Row
rest [] = []
rest (r ∷ rs) = rs

-- what rows show, at a depth
abbrev pub shown : ℕ → List Row → View
shown d rs = record { depth = d; serving = first rs; neighbour = λ c. mem c (channels (rest rs)); levels = λ c. levels_of c rs }

-- New beam: the serving channel and its list, in this order, each with the levels that it had, in whichever role
abbrev pub relisted : ℕ → List ℕ → List Row → List Row
relisted s l rs = map (λ c. row c (levels_of c rs)) (s ∷ l)

-- File: a heard level is added as the newest; beyond the depth the oldest goes
abbrev pub push : ℕ → ℤ → Row → Row
push d x r = row r.channel (last_n d (r.levels ++ x ∷ []))

abbrev pub push_at : ℕ → ℕ → ℤ → List Row → List Row
push_at d c x [] = []
push_at d c x (r ∷ rs) = cond (eqb r.channel c) (push d x r ∷ rs) (r ∷ push_at d c x rs)

abbrev pub filed_rows : ℕ → ℕ → Told BurstResult → List Row → List Row
filed_rows d c (gives (heard level quality)) rs = push_at d c level rs
filed_rows d c (gives missed) rs = rs
filed_rows d c (refused n) rs = rs

-- the rows after an accepted call, and the depth
abbrev pub changed_rows : ℕ → List Row → Call → List Row
changed_rows d rs (start c e) = row c [] ∷ []
changed_rows d rs (new_beam s l) = relisted s l rs
changed_rows d rs (file c b) = filed_rows d c (burst_of b) rs
changed_rows d rs (ask c) = rs
changed_rows d rs (verdict h) = rs

abbrev pub changed_depth : ℕ → Call → ℕ
changed_depth d (start c e) = e
changed_depth d (new_beam s l) = d
changed_depth d (file c b) = d
changed_depth d (ask c) = d
changed_depth d (verdict h) = d
