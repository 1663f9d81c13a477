-- The rules 2 and 4 as the code works them out: T fits in 32 bits, and bringing into a range is the library's.
use Rattle.std.proofs.Common.{◌≡◌, refl, sym, ap, ap₂, Bool, ◌∙◌, ℕ, ◌≤◌, true, ℤ, pos, negsuc, ◌-ℤ◌, ◌*ℤ◌, ◌≤ℤ◌, FitsSigned, w32, to_z, of_z, arith, lit<}
use native.Mathlib.Nat.{mul-le-mul}
use Rattle.std.proofs.lemmas.Int.{ints, fits_signed_mul, unsigned_abs-mul, to_z_pos, to_z-of_z}
use Rattle.std.specs.Int.{int_max, int_min}
use Rattle.std.specs.Int.Signed.{lt_z}
use Rattle.std.specs.Int.RustNames.{unsigned_abs}
use Rattle.readings_rules.specs.Ranges.{quality_in_range}
use Rattle.readings_rules.specs.Rounding.{nearest_lower}
use Rattle.power_rules.specs.PowerSteps.{brought_into}
use Rattle.power_rules.specs.Code.{nearest_code}
use Rattle.power_rules.proofs.Rules.{nearest_law}

-- ---- rule 2: T, of the PAN in use in thousandths, a gain, and the qualities aimed at and measured
module _ (u g t : ℕ) (z : ℤ) (in_use : u ≤ 24000) (gain : g ≤ 31) (aim : t ≤ 1260) (measured : quality_in_range z ≡ true) where
  -- what the code's test says of SQT and SQI
  pub tested : (b : Bool) → lt_z (to_z w32 t) (to_z w32 (of_z w32 z)) ≡ b → lt_z (pos t) z ≡ b
  tested b h =
      let fits : FitsSigned w32 z = grind (arith, ints) in
      ap₂ lt_z (sym (to_z_pos w32 t (omega arith))) (sym (to_z-of_z w32 z fits)) ∙ h

  distance : unsigned_abs (pos t -ℤ z) ≤ 4260
  distance = grind (arith, ints)

  distance_is : to_z w32 (of_z w32 (to_z w32 t -ℤ to_z w32 (of_z w32 z))) ≡ pos t -ℤ z
  distance_is = grind (arith, ints)

  product : unsigned_abs (pos g *ℤ (pos t -ℤ z)) ≤ 132060
  product = rw (unsigned_abs-mul (pos g) (pos t -ℤ z)) (mul-le-mul {n₂ = 31} {m₂ = 4260} gain distance)

  pub product_fits : FitsSigned w32 (to_z w32 g *ℤ to_z w32 (of_z w32 (to_z w32 t -ℤ to_z w32 (of_z w32 z))))
  product_fits = rw (distance_is, to_z_pos w32 g (omega arith)) (fits_signed_mul w32 (pos g) (pos t -ℤ z) 31 4260 gain distance (lit< tt))

  product_is : to_z w32 (of_z w32 (to_z w32 g *ℤ to_z w32 (of_z w32 (to_z w32 t -ℤ to_z w32 (of_z w32 z))))) ≡ pos g *ℤ (pos t -ℤ z)
  product_is =
      rw (distance_is, to_z_pos w32 g (omega arith))
      (to_z-of_z w32 (pos g *ℤ (pos t -ℤ z)) (fits_signed_mul w32 (pos g) (pos t -ℤ z) 31 4260 gain distance (lit< tt)))

  pub difference_fits :
      FitsSigned w32 (to_z w32 u -ℤ to_z w32 (of_z w32 (to_z w32 g *ℤ to_z w32 (of_z w32 (to_z w32 t -ℤ to_z w32 (of_z w32 z))))))
  difference_fits = rw product_is (let small : unsigned_abs (pos g *ℤ (pos t -ℤ z)) ≤ 132060 = product in omega (arith, ints))

  pub difference_is :
      to_z w32 (of_z w32 (to_z w32 u -ℤ to_z w32 (of_z w32 (to_z w32 g *ℤ to_z w32 (of_z w32 (to_z w32 t -ℤ to_z w32 (of_z w32 z)))))))
      ≡ pos u -ℤ pos g *ℤ (pos t -ℤ z)
  difference_is = rw (to_z-of_z w32 _ difference_fits, product_is, to_z_pos w32 u (omega arith))

-- ---- brought into a range
clamped : (high : ℕ) (z : ℤ) → int_max (pos 0) (int_min z (pos high)) ≡ brought_into (pos 0) (pos high) z
unfolding brought_into
clamped high z = grind (arith, ints)

natural : (z : ℤ) → pos 0 ≤ℤ z → z ≡ pos (unsigned_abs z)
natural (pos n) h = refl
natural (negsuc n) h = absurd (omega (arith, ints))

-- the PAR to send: the code nearest to T brought into 0 to 24,000
pub nearest_is : (z held : ℤ) → held ≡ int_max (pos 0) (int_min z (pos 24000)) → pos 0 ≤ℤ held
    → pos (nearest_code (unsigned_abs held)) ≡ nearest_lower (brought_into (pos 0) (pos 24000) z) 400
nearest_is z held e h = sym (nearest_law (unsigned_abs held)) ∙ ap (λ x. nearest_lower x 400) (sym (natural held h) ∙ e ∙ clamped 24000 z)
