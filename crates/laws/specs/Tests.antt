-- Tests of numbers: where one follows from another, over all numbers below a bound, and how many of these pass.
use Rattle.std.specs.Prelude.{ℕ, zero, suc, Bool, true, false, ◌&&◌, cond}

-- where a holds, b does
abbrev pub implies : Bool → Bool → Bool
implies true b = b
implies false b = true

-- a test holds of every number below n
unfoldable pub all_below : ℕ → (ℕ → Bool) → Bool
all_below zero p = true
all_below (suc n) p = all_below n p && p n

-- how many numbers below n pass a test
unfoldable pub how_many : ℕ → (ℕ → Bool) → ℕ
how_many zero p = 0
how_many (suc n) p = cond (p n) (suc (how_many n p)) (how_many n p)
