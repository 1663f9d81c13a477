-- What the private functions of the conversion speak of: an f32's bits, and the rounding rule by two bounds. No reader of the public
-- contracts needs this file.
use Rattle.std.specs.Prelude.{ℕ, zero, suc, ◌+◌, ◌*◌, ◌^◌, ◌≤◌, ◌<◌, Bool, true, false, ltb, Float}
use Rattle.std.specs.Float.{nan, inf, fin}
use Rattle.std.specs.Float.Ieee.{up, down}

-- k is n / d to the nearest whole number: of two that are as near the lower one, or for -n / d the higher one, so that -k is the lower
abbrev pub Near : Bool → ℕ → ℕ → ℕ → Type 0
Near false n d k = (2 * n ≤ 2 * (k * d) + d) × (2 * (k * d) < 2 * n + d)
Near true n d k = (2 * (k * d) ≤ 2 * n + d) × (2 * n < 2 * (k * d) + d)

-- the size that an exponent's field and the digits' field stand for, in units of 2 ^ -149
unfoldable pub in_units : ℕ → ℕ → ℕ
in_units zero t = t
in_units (suc y) t = (8388608 + t) * 2 ^ y

-- finite, and below 2 ^ 23 in size
unfoldable pub small : Float → Bool
small nan = false
small (inf s) = false
small (fin s m e) = ltb (m * up e) (8388608 * down e)
