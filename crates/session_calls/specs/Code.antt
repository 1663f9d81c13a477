-- What the private functions go through.
use Rattle.std.specs.Prelude.{ℕ, List, Option}
use Rattle.std.specs.Borrow.{Bor}
use Rattle.std.specs.Iterator.{AlwaysYields}

-- the words that an iterator has left
abbrev pub WordsOf : {S : Type 0} → (S → Option (Bor (List ℕ)) → S → Type 0) → S → List (List ℕ) → Type 0
WordsOf steps s ws = AlwaysYields steps (λ w. w.now) s ws
