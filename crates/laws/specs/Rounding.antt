-- Rounding down, in words: the greatest whole number that is not above a quotient.
use Rattle.std.specs.Prelude.{ℕ, ℤ, pos, ◌*ℤ◌, ◌≤ℤ◌}

-- k is the greatest whole number that is not above n / d
pub record RoundedDown (n : ℤ) (d : ℕ) (k : ℤ) : Type 0 where
  pub not_above : (k *ℤ pos d) ≤ℤ n
  pub greatest : (j : ℤ) → (j *ℤ pos d) ≤ℤ n → j ≤ℤ k
