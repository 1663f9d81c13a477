-- An i32 as a size with a sign: the machine's way from it to its size, and the text of either sign.
use Prim.Native.Nat.{zero, suc, ◌<◌}
use mathlib.Core.Path.{◌≡◌, refl, ap, subst, subst⁻¹, ◌∙◌}
use mathlib.Core.Bool.{Bool, true, false}
use mathlib.Core.List.{◌∷◌}
use native.Mathlib.Omega.{arith}
use lib.Dec.{T}
use lib.IntN.{ℤ, pos, negsuc, neg_ℤ, nat_abs, ◌-ℤ◌, +ℤ_idl}
use lib.Signed.{lt_z, mag, non_neg}
use mir.Syntax.{w32, w64}
use mir.Val.{Fits, SFits, to_z, of_z}
use mir.ValLaws.{to_z-of_z}
use borrow.Author.Tests.{ltb-true}
use Rattle.session_words.specs.Bytes.{minus}
use Rattle.session_texts.specs.Text.{decimal_text, signed_text}

module _ (z : ℤ) (f : SFits w32 z) where
  pub narrow : to_z w32 (of_z w32 z) ≡ z
  narrow = to_z-of_z w32 z f

  wide_fits : SFits w64 z
  wide_fits = let m : mag z < 2147483648 = f.sfits in record { sfits = omega arith }

  pub cast_fits : SFits w64 (to_z w32 (of_z w32 z))
  cast_fits = subst⁻¹ (SFits w64) narrow wide_fits

  wide : to_z w64 (of_z w64 (to_z w32 (of_z w32 z))) ≡ z
  wide = ap (λ y. to_z w64 (of_z w64 y)) narrow ∙ to_z-of_z w64 z wide_fits

  away : pos 0 -ℤ to_z w64 (of_z w64 (to_z w32 (of_z w32 z))) ≡ neg_ℤ z
  away = ap (λ y. pos 0 -ℤ y) wide ∙ +ℤ_idl (neg_ℤ z)

  neg-fits : SFits w64 (neg_ℤ z)
  neg-fits = record { sfits = go z f.sfits }
    where
      go : (z : ℤ) → mag z < 2147483648 → mag (neg_ℤ z) < 9223372036854775808
      go (pos zero) h = omega arith
      go (pos (suc n)) h = omega arith
      go (negsuc n) h = omega arith

  pub sub-fits : SFits w64 (pos 0 -ℤ to_z w64 (of_z w64 (to_z w32 (of_z w32 z))))
  sub-fits = subst⁻¹ (SFits w64) away neg-fits

  pub size_is : to_z w64 (of_z w64 (pos 0 -ℤ to_z w64 (of_z w64 (to_z w32 (of_z w32 z))))) ≡ neg_ℤ z
  size_is = ap (λ y. to_z w64 (of_z w64 y)) away ∙ to_z-of_z w64 (neg_ℤ z) neg-fits

-- a number below 0, by its size
pub below-zero : (z : ℤ) → lt_z z (pos 0) ≡ true → T (non_neg (neg_ℤ z))
below-zero (pos n) e = let z : ⊥ = omega (arith, ltb-true n 0 e) in absurd z
below-zero (negsuc n) e = tt

pub below_fits : (z : ℤ) → SFits w32 z → Fits w64 (nat_abs (neg_ℤ z))
below_fits z f = record { fits = go z f.sfits }
  where
    go : (z : ℤ) → mag z < 2147483648 → nat_abs (neg_ℤ z) < 18446744073709551616
    go (pos zero) h = omega arith
    go (pos (suc n)) h = omega arith
    go (negsuc n) h = omega arith

pub below_text : (z : ℤ) → lt_z z (pos 0) ≡ true → minus ∷ decimal_text (nat_abs z) ≡ signed_text z
below_text (pos n) e = let z : ⊥ = omega (arith, ltb-true n 0 e) in absurd z
below_text (negsuc n) e = refl

-- and any other
pub not-below : (z : ℤ) → lt_z z (pos 0) ≡ false → T (non_neg z)
not-below (pos n) e = tt
not-below (negsuc n) e = let z : ◌≡◌ {A = Bool} true false = e in subst T z tt

pub above_fits : (z : ℤ) → SFits w32 z → Fits w64 (nat_abs z)
above_fits z f = record { fits = go z f.sfits }
  where
    go : (z : ℤ) → mag z < 2147483648 → nat_abs z < 18446744073709551616
    go (pos n) h = omega arith
    go (negsuc n) h = omega arith

pub above_text : (z : ℤ) → lt_z z (pos 0) ≡ false → decimal_text (nat_abs z) ≡ signed_text z
above_text (pos n) e = refl
above_text (negsuc n) e = let z : ◌≡◌ {A = Bool} true false = e in absurd (subst T z tt)
