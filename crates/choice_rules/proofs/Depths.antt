-- The depth of a level as the code computes it: the difference from the top of the range, which is not negative and small for a level in range.
use mathlib.Core.Path.{◌≡◌, sym, ap, ◌∙◌, subst}
use mathlib.Core.Bool.{true}
use native.Mathlib.Omega.{arith}
use lib.IntN.{ℤ, pos, nat_abs, ◌-ℤ◌}
use lib.Signed.{non_neg, pos-nat_abs}
use lib.Dec.{T}
use mir.Syntax.{w32}
use mir.Val.{SFits, to_z, of_z}
use mir.ValLaws.{to_z-of_z}
use Rattle.readings_rules.specs.Ranges.{level_highest, level_in_range}
use Rattle.choice_rules.specs.Code.{depth}
use Rattle.choice_rules.proofs.Whole.{sub_nonneg}
use Rattle.choice_rules.proofs.KeyOrder.{highest_of, depth_le}

-- y is the level, as it is read back from its bits
module _ (z y : ℤ) (q : y ≡ z) (r : level_in_range z ≡ true) where
  below_top : level_highest -ℤ y ≡ pos (depth z)
  below_top = ap (λ (x : ℤ). level_highest -ℤ x) q ∙ sym (pos-nat_abs (level_highest -ℤ z) (sub_nonneg level_highest z (highest_of z r)))

  pub depth_fits : SFits w32 (level_highest -ℤ y)
  depth_fits = subst (SFits w32) (sym below_top) (record { sfits = let h = depth_le z r in omega arith })

  back : to_z w32 (of_z w32 (level_highest -ℤ y)) ≡ pos (depth z)
  back = to_z-of_z w32 (level_highest -ℤ y) depth_fits ∙ below_top

  pub depth_nonneg : T (non_neg (to_z w32 (of_z w32 (level_highest -ℤ y))))
  depth_nonneg = subst (λ (x : ℤ). T (non_neg x)) (sym back) tt

  pub depth_is : nat_abs (to_z w32 (of_z w32 (level_highest -ℤ y))) ≡ depth z
  depth_is = ap nat_abs back
