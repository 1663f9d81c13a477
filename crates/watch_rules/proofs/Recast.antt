-- A level is held in 16 bits, which its range fits, and compared in 32. Cast from the one to the other it is the same number.
use mathlib.Core.Path.{◌≡◌, sym, ◌∙◌, subst}
use mathlib.Core.Bool.{true}
use native.Mathlib.Omega.{arith}
use lib.IntN.{ℤ, pos, negsuc}
use lib.Signed.{le_z}
use mir.Syntax.{Width, w16, w32}
use mir.Val.{SFits, to_z, of_z}
use mir.Facts.{to_z-of_z}
use borrow.Author.Tests.{leb-true}
use Rattle.readings_rules.specs.Ranges.{level_lowest, level_highest, level_in_range}
use Rattle.watch_rules.proofs.Laws.{and_left, and_right}

-- a number that both widths hold, from the first to the second
module _ {v w : Width} (x : ℤ) (f : SFits v x) (g : SFits w x) where
  pub recast_fits : SFits w (to_z v (of_z v x))
  recast_fits = subst (SFits w) (sym (to_z-of_z f)) g

  pub recast : to_z w (of_z w (to_z v (of_z v x))) ≡ x
  recast = to_z-of_z recast_fits ∙ to_z-of_z f

pub fits_wider : (x : ℤ) → SFits w16 x → SFits w32 x
fits_wider (pos n) f = record { sfits = omega (arith, f.sfits) }
fits_wider (negsuc n) f = record { sfits = omega (arith, f.sfits) }

-- the range of a level fits 16 bits
pub level_fits : (x : ℤ) → level_in_range x ≡ true → SFits w16 x
level_fits (pos n) e = record { sfits = omega (arith, leb-true n _ (and_right (le_z level_lowest (pos n)) (le_z (pos n) level_highest) e)) }
level_fits (negsuc n) e = record { sfits = omega (arith, leb-true n _ (and_left (le_z level_lowest (negsuc n)) (le_z (negsuc n) level_highest) e)) }
