-- Document 01, section Readings: "the whole number nearest ..; an exact half goes to the lower number", of a fraction n / d.
use Rattle.std.specs.Prelude.{ℕ, ◌*◌, ◌≤◌, ◌≡◌, ℤ, pos, neg_ℤ, nat_abs, ◌-ℤ◌, ◌*ℤ◌, ◌≤ℤ◌}
use Rattle.std.specs.Int.Signed.{shr_z}

-- how far the whole number k is from n / d, in d-ths
abbrev pub distance : ℤ → ℕ → ℤ → ℕ
distance n d k = nat_abs (n -ℤ k *ℤ pos d)

-- k is the whole number nearest to n / d, and of two that are as near the lower one. `Claims.RoundingRule`: for each fraction there is
-- exactly one such number
pub record NearestLower (n : ℤ) (d : ℕ) (k : ℤ) : Type 0 where
  pub nearest : (j : ℤ) → distance n d k ≤ distance n d j
  pub lower : (j : ℤ) → distance n d j ≡ distance n d k → k ≤ℤ j

-- that number, worked out: n / d less a half, rounded up. `shr_z` rounds down, so it is minus the quotient of d - 2 n by 2 d
unfoldable pub nearest_lower : ℤ → ℕ → ℤ
nearest_lower n d = neg_ℤ (shr_z (pos d -ℤ pos 2 *ℤ n) (2 * d))
