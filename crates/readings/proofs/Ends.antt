-- The ends of a range, and a number, are read from their bits as they are.
use Rattle.std.proofs.Common.{◌≡◌, ◌<◌, arith, ℤ, nat_abs, FitsSigned, to_z, of_z, w32}
use Rattle.std.proofs.lemmas.Int.{fits_signed_from_abs}
use mir.ValLaws.{to_z-of_z}

-- an i32 as it is read from its bits
abbrev pub read : ℤ → ℤ
read z = to_z w32 (of_z w32 z)

-- the end of a range fits
pub end_fits : (z : ℤ) → nat_abs z < 656 → FitsSigned w32 z
end_fits z h = fits_signed_from_abs w32 z (omega arith)

pub end_read : (z : ℤ) → nat_abs z < 656 → read z ≡ z
end_read z h = to_z-of_z w32 z (end_fits z h)
