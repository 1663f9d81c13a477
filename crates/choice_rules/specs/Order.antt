-- Document 01, section The choice: the search order and its near part. Both take the channels that they are about by a test.
use Rattle.std.specs.Prelude.{ℕ, zero, suc, Bool, cond, not, ◌&&◌, ◌||◌, List, [], ◌∷◌, ℤ, ◌-ℤ◌, ltb}
use Rattle.std.specs.Int.Signed.{le_z, lt_z}
use Rattle.sweep_rules.specs.Map.{channels}
use Rattle.sweep_rules.specs.Record.{level_at}
use Rattle.sweep_rules.specs.declared.Sweep.{Sweep}

-- the n numbers from c on
unfoldable pub from : ℕ → ℕ → List ℕ
from zero c = []
from (suc n) c = c ∷ from n (suc c)

-- those of a list that pass a test
unfoldable pub keep : (ℕ → Bool) → List ℕ → List ℕ
keep p [] = []
keep p (c ∷ cs) = cond (p c) (c ∷ keep p cs) (keep p cs)

-- the beginning of a list, as far as each passes a test
unfoldable pub beginning : (ℕ → Bool) → List ℕ → List ℕ
beginning p [] = []
beginning p (c ∷ cs) = cond (p c) (c ∷ beginning p cs) []

-- a number put before the first that it comes before
unfoldable pub insert_by : (ℕ → ℕ → Bool) → ℕ → List ℕ → List ℕ
insert_by lt c [] = c ∷ []
insert_by lt c (d ∷ ds) = cond (lt c d) (c ∷ d ∷ ds) (d ∷ insert_by lt c ds)

-- a list in the order of `lt`
unfoldable pub sort_by : (ℕ → ℕ → Bool) → List ℕ → List ℕ
sort_by lt [] = []
sort_by lt (c ∷ cs) = insert_by lt c (sort_by lt cs)

-- by falling level, equal levels by rising channel number: c comes before d
abbrev pub comes_before : (ℕ → ℤ) → ℕ → ℕ → Bool
comes_before level c d = lt_z (level d) (level c) || (not (lt_z (level c) (level d)) && ltb c d)

-- the channels that pass a test, by rising number
abbrev pub channels_that : (ℕ → Bool) → List ℕ
channels_that test = keep test (from channels 0)

-- the search order: the channels that pass a test, in that order
unfoldable pub search_order : (ℕ → Bool) → Sweep → List ℕ
search_order test s = sort_by (comes_before (level_at s)) (channels_that test)

-- a level is at most the margin below the strongest
abbrev pub at_most_below : ℤ → ℤ → ℤ → Bool
at_most_below margin strongest level = le_z (strongest -ℤ level) margin

-- the near part of a search order is its beginning: the channels whose level is at most the margin below that of the first, the strongest
unfoldable pub near_of : (ℕ → ℤ) → ℤ → List ℕ → List ℕ
near_of level margin [] = []
near_of level margin (c ∷ cs) = beginning (λ d. at_most_below margin (level c) (level d)) (c ∷ cs)

-- the near part of the search order over the channels that pass a test
unfoldable pub near_part : (ℕ → Bool) → Sweep → ℤ → List ℕ
near_part test s margin = near_of (level_at s) margin (search_order test s)
