-- Signed machine numbers: cast from one width to another where both hold the number, and -n at an i32.
use Prim.Native.Nat.{ℕ, zero, suc, ◌<◌}
use mathlib.Core.Path.{◌≡◌, sym, ap, ◌∙◌, subst}
use native.Mathlib.Omega.{arith}
use lib.IntN.{ℤ, pos, negsuc, neg_ℤ, ◌-ℤ◌, +ℤ_idl}
use lib.Signed.{mag}
use mir.Syntax.{Width, w16, w32}
use mir.Val.{SFits, to_z, of_z}
use mir.Facts.{to_z-of_z}
use mir.ValLaws.{to_z_pos}

-- a number that both widths hold, from the first to the second
module _ {v w : Width} (x : ℤ) (f : SFits v x) (g : SFits w x) where
  pub recast_fits : SFits w (to_z v (of_z v x))
  recast_fits = subst (SFits w) (sym (to_z-of_z f)) g

  pub recast : to_z w (of_z w (to_z v (of_z v x))) ≡ x
  recast = to_z-of_z recast_fits ∙ to_z-of_z f

pub fits_wider : (x : ℤ) → SFits w16 x → SFits w32 x
fits_wider (pos n) f = record { sfits = omega (arith, f.sfits) }
fits_wider (negsuc n) f = record { sfits = omega (arith, f.sfits) }

-- ---- -n at an i32
pub negated : (n : ℕ) → n < 2147483648 → pos 0 -ℤ to_z w32 n ≡ neg_ℤ (pos n)
negated n h = ap (λ (z : ℤ). pos 0 -ℤ z) (to_z_pos w32 n h) ∙ +ℤ_idl (neg_ℤ (pos n))

pub negated_fits : (n : ℕ) → n < 2147483648 → SFits w32 (pos 0 -ℤ to_z w32 n)
negated_fits n h = subst (λ (z : ℤ). SFits w32 z) (sym (negated n h)) (record { sfits = in_range n h })
  where
    in_range : (n : ℕ) → n < 2147483648 → mag (neg_ℤ (pos n)) < 2147483648
    in_range zero h = h
    in_range (suc n) h = omega arith
