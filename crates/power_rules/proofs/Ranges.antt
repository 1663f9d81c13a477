-- From the tests of range to facts, and what a step leaves of them: each number of a well-formed record stays in its range.
use mathlib.Core.Path.{◌≡◌, refl}
use mathlib.Core.Bool.{Bool, true, false, cond}
use Prim.Native.Nat.{ℕ, ◌-◌, ◌*◌, ◌%◌, ◌≤◌, ◌<◌, min}
use native.Mathlib.Nat.{mul-le-mul}
use native.Mathlib.Omega.{arith}
use borrow.Author.Tests.{leb-true, le-leb, lt-leb, eqb-true, eq-eqb}
use lib.Dec.{ltb}
use Rattle.power_rules.specs.declared.PowerParameters.{PowerParameters}
use Rattle.power_rules.specs.declared.PowerRecord.{PowerRecord}
use Rattle.power_rules.specs.declared.Decoded.{Decoded}
use Rattle.power_rules.specs.declared.Decoded.TheVariants.{Failed, Codes}
use Rattle.power_rules.specs.Constants.{numeric_highest, gain_up_highest, mestep_step, thousandths_highest}
use Rattle.power_rules.specs.PowerSteps.{numeric, parameters_in_range, well_formed, pan_use, pan_basic_after, par_save_after, increase_after, record_after}
use Rattle.power_rules.specs.Refusals.{InRange, WellFormed}
use Rattle.power_rules.specs.Code.{quality_span, gain_at}
use Rattle.power_rules.proofs.Whole.{both, and-true}

pub usable : (p : PowerParameters) → parameters_in_range p ≡ true → InRange p
usable p e =
    let mestep = both _ _ e in
    let gaindn = both _ _ mestep.0 in
    let gainup = both _ _ gaindn.0 in
    let limits = both _ _ gainup.0 in
    let panmax = both _ _ limits.0 in
    let panmin = both _ _ panmax.0 in
    let paninit = both _ _ panmin.0 in
    record {
      sqt = leb-true _ _ paninit.0;
      paninit = leb-true _ _ paninit.1;
      panmin = leb-true _ _ panmin.1;
      panmax = leb-true _ _ panmax.1;
      limits = leb-true _ _ limits.1;
      gainup = leb-true _ _ gainup.1;
      gaindn = leb-true _ _ gaindn.1;
      mestep = leb-true _ _ mestep.1;
    }

pub formed : (r : PowerRecord) → well_formed r ≡ true → WellFormed r
formed r e =
    let multiple = both _ _ e in
    let increase = both _ _ multiple.0 in
    let panbasic = both _ _ increase.0 in
    let parsave = both _ _ panbasic.0 in
    record { panlast = leb-true _ _ parsave.0; parsave = leb-true _ _ parsave.1; panbasic = leb-true _ _ panbasic.1; increase = leb-true _ _ increase.1; multiple = eqb-true _ _ multiple.1 }

pub well-formed : (r : PowerRecord) → WellFormed r → well_formed r ≡ true
well-formed r f = and-true _ _ (and-true _ _ (and-true _ _ (and-true _ _ (le-leb _ _ f.panlast) (le-leb _ _ f.parsave)) (le-leb _ _ f.panbasic)) (le-leb _ _ f.increase)) (eq-eqb _ _ f.multiple)

pub is_numeric : {code : ℕ} → code ≤ numeric_highest → numeric code ≡ true
is_numeric {code} h = le-leb code _ h

pub not_numeric : {code : ℕ} → numeric_highest < code → numeric code ≡ false
not_numeric {code} h = lt-leb code _ h

-- a gain times a distance of two qualities
pub product : (g n k : ℕ) → g ≤ gain_up_highest → n ≤ quality_span → g * (n - k) ≤ gain_up_highest * quality_span
product g n k a b = mul-le-mul {n₂ = gain_up_highest} {m₂ = quality_span} a (omega arith)

cond_below : (t : Bool) (a b k : ℕ) → (t ≡ true → a ≤ k) → b ≤ k → cond t a b ≤ k
cond_below true a b k h l = h refl
cond_below false a b k h l = l

pub gain_small : (p : PowerParameters) (target n : ℕ) → InRange p → gain_at p target n ≤ gain_up_highest
gain_small p target n u = cond_below (ltb target n) p.gaindn p.gainup _ (λ e. omega (arith, u.gaindn)) u.gainup

-- ---- the record after a step
pub use_below : (r : PowerRecord) (d : Decoded) → WellFormed r → pan_use r d ≤ numeric_highest
unfolding pan_use
use_below r Failed f = f.panlast
use_below r (Codes pan par) f = cond_below _ pan r.panlast _ (leb-true pan _) f.panlast

basic_below : (r : PowerRecord) (d : Decoded) → WellFormed r → pan_basic_after r d ≤ numeric_highest
unfolding pan_basic_after
basic_below r Failed f = f.panbasic
basic_below r (Codes pan par) f = cond_below (numeric par) (min par r.parsave) r.panbasic _ (λ e. omega (arith, f.parsave)) f.panbasic

save_below : (r : PowerRecord) (d : Decoded) → WellFormed r → par_save_after r d ≤ numeric_highest
unfolding par_save_after
save_below r Failed f = f.parsave
save_below r (Codes pan par) f = cond_below _ par r.parsave _ (leb-true par _) f.parsave

increase_in : (p : PowerParameters) (r : PowerRecord) (d : Decoded) → r.increase % mestep_step ≡ 0 → (increase_after p r d ≤ thousandths_highest) × (increase_after p r d % mestep_step ≡ 0)
unfolding increase_after
increase_in p r Failed e = (omega arith, omega arith)
increase_in p r (Codes pan par) e = (omega arith, refl)

pub formed_after : (p : PowerParameters) (r : PowerRecord) (d : Decoded) → WellFormed r → WellFormed (record_after p r d)
formed_after p r d f =
    let i = increase_in p r d f.multiple in
    record { panlast = use_below r d f; parsave = save_below r d f; panbasic = basic_below r d f; increase = i.0; multiple = i.1 }
