-- The rules 2 and 4, which document 01 states in whole numbers with a sign, are what the code of `power` computes in natural numbers: a quality is
-- counted from the lowest, and the two gains are two cases by the order of SQT and SQI.
use mathlib.Core.Path.{◌≡◌, refl, ap, ◌∙◌}
use mathlib.Core.Bool.{true}
use Prim.Native.Nat.{ℕ, suc, ◌+◌, ◌-◌, ◌*◌, ◌/◌, ◌≤◌, ◌<◌}
use native.Mathlib.Omega.{arith}
use borrow.Author.Tests.{leb-true, lt-ltb, le-ltb}
use lib.IntN.{ℤ, pos, negsuc, ◌-ℤ◌}
use Rattle.readings_rules.specs.Ranges.{quality_lowest, quality_in_range}
use Rattle.readings_rules.specs.Rounding.{nearest_lower}
use Rattle.power_rules.specs.declared.PowerParameters.{PowerParameters}
use Rattle.power_rules.specs.declared.PowerRecord.{PowerRecord}
use Rattle.power_rules.specs.Constants.{numeric_highest, sqt_step, code_step, thousandths_highest}
use Rattle.power_rules.specs.PowerSteps.{brought_into, gain, thousandths, par_to_send, pan_to_send}
use Rattle.power_rules.specs.Code.{zero_quality, quality_span, above_lowest, held_at, nearest_code, par_at, pan_at}
use Rattle.power_rules.proofs.Whole.{both, by_order, sub-le, sub_lt, less_times_lt, less_times_le, held, held_sub, held_floor}

-- ---- a quality, counted from the lowest
pub record Above (z : ℤ) : Type 0 where
  pub n : ℕ
  pub is : z -ℤ quality_lowest ≡ pos n
  pub small : n ≤ quality_span

pub above : (z : ℤ) → quality_in_range z ≡ true → Above z
above (pos m) e = record { n = m + zero_quality; is = refl; small = omega (arith, leb-true m _ e) }
above (negsuc m) e =
    let h = leb-true m _ (both _ _ e).0 in
    record { n = zero_quality - suc m; is = rw (le-ltb zero_quality (suc m) (omega arith)); small = omega arith }

-- ---- rule 2
module _ (p : PowerParameters) (u : ℕ) (fits : u ≤ numeric_highest) where
  abbrev target : ℕ
  target = sqt_step * p.sqt

  abbrev In : ℤ → ℤ
  In = brought_into (pos 0) (pos thousandths_highest)

  down : (m : ℕ) → target < m → In (thousandths p u (pos m)) ≡ pos (held_at p u (m + zero_quality))
  unfolding thousandths gain
  down m h =
      let k : m + zero_quality - (target + zero_quality) ≡ m - target = omega arith in
      rw (lt-ltb target m h, lt-ltb (target + zero_quality) (m + zero_quality) (omega arith), k, less_times_lt (code_step * u) p.gaindn target m h, held 0 thousandths_highest (omega arith) (code_step * u + p.gaindn * (m - target))) (ap pos (omega arith))

  up : (m : ℕ) → m ≤ target → In (thousandths p u (pos m)) ≡ pos (held_at p u (m + zero_quality))
  unfolding thousandths gain
  up m h =
      let k : target + zero_quality - (m + zero_quality) ≡ target - m = omega arith in
      rw (le-ltb target m h, le-ltb (target + zero_quality) (m + zero_quality) (omega arith), k, less_times_le (code_step * u) p.gainup target m h, held_sub) (ap pos (omega arith))

  pub held_law : (z : ℤ) → quality_in_range z ≡ true → In (thousandths p u z) ≡ pos (held_at p u (above_lowest z))
  unfolding thousandths gain
  held_law (pos m) e = by_order target m (λ h. up m h) (λ h. down m h)
  held_law (negsuc m) e =
      let l = leb-true m _ (both _ _ e).0 in
      let k : target + zero_quality - (zero_quality - suc m) ≡ target + suc m = omega arith in
      rw (le-ltb zero_quality (suc m) (omega arith), le-ltb (target + zero_quality) (zero_quality - suc m) (omega arith), k, held_sub) (ap pos (omega arith))

  pub held_small : (n : ℕ) → held_at p u n ≤ thousandths_highest
  held_small n = by_order (target + zero_quality) n (λ h. rw (le-ltb (target + zero_quality) n h) (omega arith)) (λ h. rw (lt-ltb (target + zero_quality) n h) (omega arith))

-- the nearest code, half to the lower: up to half a code it is 0, above that `nearest_lower` and `nearest_code` divide the same
pub nearest_law : (t : ℕ) → nearest_lower (pos t) code_step ≡ pos (nearest_code t)
unfolding nearest_lower
nearest_law t =
    by_order code_step (2 * t)
    (λ h.
    let none : (code_step - 2 * t) / (2 * code_step) ≡ 0 = omega arith in
    rw (sub-le code_step (2 * t) h, none) (ap pos (omega arith)))
    (λ h. rw (sub_lt code_step (2 * t) h) (ap pos (omega arith)))

pub par_law : (p : PowerParameters) (u : ℕ) → u ≤ numeric_highest → (z : ℤ) → quality_in_range z ≡ true → par_to_send p u z ≡ pos (par_at p u (above_lowest z))
unfolding par_to_send
par_law p u fits z e = ap (λ (x : ℤ). nearest_lower x code_step) (held_law p u fits z e) ∙ nearest_law (held_at p u (above_lowest z))

-- ---- rule 4
pub pan_law : (p : PowerParameters) (r : PowerRecord) → p.panmin ≤ p.panmax → pan_to_send p r ≡ pos (pan_at p r)
unfolding pan_to_send
pan_law p r h = held_floor p.panmin p.panmax h (code_step * r.panbasic) r.increase
