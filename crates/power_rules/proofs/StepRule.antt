-- The four rules of a step in document 01's words: each definition of `PowerSteps` by its cases, and the two roundings by their rules.
use Prim.Native.Nat.{ℕ, ◌*◌}
use mathlib.Core.Path.{◌≡◌, sym, ap, subst}
use mathlib.Core.Bool.{true, false, not}
use lib.Dec.{T, lit<}
use lib.IntN.{ℤ, pos, ◌-ℤ◌}
use lib.Signed.{lt_z, shr_z, ◌≤ℤ◌, ◌<ℤ◌, lt_z_yes, lt_z_no}
use Rattle.refusal.specs.Told.{gives}
use Rattle.refusal.proofs.OneToOne.{gives_refused}
use Rattle.readings_rules.proofs.Rule.{rounding_rule}
use Rattle.power_rules.specs.declared.PowerParameters.{PowerParameters}
use Rattle.power_rules.specs.declared.PowerRecord.{PowerRecord}
use Rattle.power_rules.specs.declared.Decoded.{Decoded}
use Rattle.power_rules.specs.declared.Decoded.TheVariants.{Failed, Codes}
use Rattle.power_rules.specs.Constants.{sqt_step, code_step, thousandths_highest}
use Rattle.power_rules.specs.PowerSteps.{brought_into, pan_use, gain, thousandths, par_to_send, pan_basic_after, par_save_after, increase_after, record_after, pan_to_send}
use Rattle.power_rules.specs.Calls.{HandedBack, ToSend, sending}
use Rattle.power_rules.specs.Claims.{Rule1, pan_numeric, pan_other, pan_failed, IsT, gain_down, gain_up, BroughtInto, below, above, within, Rule2, Rule3, par_numeric, par_other, par_failed, Rule4, ByTheRules, StepRule}
use Rattle.power_rules.proofs.Whole.{by_test, by_order}
use Rattle.power_rules.proofs.Ranges.{is_numeric, not_numeric}
use Rattle.power_rules.proofs.Steps.{step_cases}
use Rattle.power_rules.proofs.Claims.{rounds_down}

lt_yes : {a b : ℤ} → lt_z a b ≡ true → a <ℤ b
lt_yes e = lt_z_yes (subst T (sym e) tt)

lt_no : {a b : ℤ} → lt_z a b ≡ false → b ≤ℤ a
lt_no e = lt_z_no (subst T (sym (ap not e)) tt)

brought_into_lem : (low high z : ℤ) → BroughtInto low high z (brought_into low high z)
unfolding brought_into
brought_into_lem low high z =
    by_test (lt_z z low)
    (λ e. rw e (below (lt_yes e)))
    (λ e. by_test (lt_z high z) (λ f. rw (e, f) (above (lt_yes f))) (λ f. rw (e, f) (within (lt_no e) (lt_no f))))

module _ (p : PowerParameters) (r : PowerRecord) where
  rule1 : (d : Decoded) → Rule1 r d (pan_use r d)
  unfolding pan_use
  rule1 Failed = pan_failed
  rule1 (Codes pan par) = by_order 60 pan (λ h. rw (is_numeric h) (pan_numeric pan par h)) (λ h. rw (not_numeric h) (pan_other pan par h))

  is_t : (u : ℕ) (sqi : ℤ) → IsT p u sqi (thousandths p u sqi)
  unfolding thousandths gain
  is_t u sqi = by_test (lt_z (pos (sqt_step * p.sqt)) sqi) (λ e. rw e (gain_down (lt_yes e))) (λ e. rw e (gain_up (lt_no e)))

  rule2 : (u : ℕ) (sqi : ℤ) → Rule2 p u sqi (par_to_send p u sqi)
  unfolding par_to_send
  rule2 u sqi = record {
    t = thousandths p u sqi;
    is_t = is_t u sqi;
    held = brought_into (pos 0) (pos thousandths_highest) (thousandths p u sqi);
    brought = brought_into_lem (pos 0) (pos thousandths_highest) (thousandths p u sqi);
    nearest = (rounding_rule (brought_into (pos 0) (pos thousandths_highest) (thousandths p u sqi)) code_step (lit< tt)).exists;
  }

  rule3 : (d : Decoded) → Rule3 p r d (pan_basic_after r d) (par_save_after r d) (increase_after p r d)
  unfolding pan_basic_after par_save_after increase_after
  rule3 Failed = par_failed
  rule3 (Codes pan par) = by_order 60 par (λ h. rw (is_numeric h) (par_numeric pan par h)) (λ h. rw (not_numeric h) (par_other pan par h))

rule4 : (p : PowerParameters) (left : PowerRecord) → Rule4 p left (pan_to_send p left)
unfolding pan_to_send
rule4 p left =
    let exact = pos (code_step * left.panbasic) -ℤ pos left.increase in
    record {
      whole = shr_z exact code_step;
      rounded = rounds_down exact code_step (lit< tt);
      brought = brought_into_lem (pos p.panmin) (pos p.panmax) (shr_z exact code_step);
    }

pub step_rule : StepRule
unfolding sending
step_rule p r d sqi s =
    step_cases p r d sqi (λ (h : HandedBack ToSend). h.answer ≡ gives s → ByTheRules p r d sqi h.power s)
    (λ why e. absurd (gives_refused (sym e)))
    (λ f g q e.
    let is : record { par = par_to_send p (pan_use r d) sqi; pan = pan_to_send p (record_after p r d) } ≡ s = cc in
    subst (λ (x : ToSend). ByTheRules p r d sqi (record_after p r d) x) is
    (record { rule1 = rule1 p r d; rule2 = rule2 p r (pan_use r d) sqi; rule3 = rule3 p r d; rule4 = rule4 p (record_after p r d) }))
