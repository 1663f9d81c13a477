-- The refusals in document 01's words. The tests of `PowerSteps` are those words, decided; the calls go through them in the table's order.
use mathlib.Core.Path.{◌≡◌, refl, sym, ap, subst, ◌∙◌}
use mathlib.Core.Bool.{Bool, true, false, ◌&&◌}
use lib.Dec.{leb}
use lib.IntN.{ℤ}
use borrow.Author.Tests.{leb-true, le-leb}
use Rattle.refusal.specs.declared.Reason.{Reason}
use Rattle.refusal.specs.declared.Reason.TheVariants.{Alone}
use Rattle.refusal.specs.Told.{refused}
use Rattle.refusal.proofs.OneToOne.{gives_refused}
use Rattle.refusal.proofs.Provided.{same_reason}
use Rattle.readings_rules.specs.Ranges.{quality_in_range}
use Rattle.readings_rules.proofs.Ranges.{range_rule}
use Rattle.power_rules.specs.declared.PowerParameters.{PowerParameters}
use Rattle.power_rules.specs.declared.PowerRecord.{PowerRecord}
use Rattle.power_rules.specs.declared.Decoded.{Decoded}
use Rattle.power_rules.specs.declared.Decoded.TheVariants.{Failed, Codes}
use Rattle.power_rules.specs.PowerSteps.{parameters_in_range, codes_in_range, well_formed}
use Rattle.power_rules.specs.Calls.{started, tested, stepped}
use Rattle.power_rules.specs.Refusals.{InRange, CodesInRange, Refuses, unformed, parameter, code, quality}
use Rattle.power_rules.specs.Claims.{RefusalRule, StartRule}
use Rattle.power_rules.proofs.Whole.{both, and-true, by_test, never}
use Rattle.power_rules.proofs.Ranges.{usable, formed, well-formed}

-- ---- each test from its words, and the words from the test

in_range : (p : PowerParameters) → InRange p → parameters_in_range p ≡ true
in_range p u = and-true _ _ (and-true _ _ (and-true _ _ (and-true _ _
    (and-true _ _ (and-true _ _ (and-true _ _ (le-leb _ _ u.sqt) (le-leb _ _ u.paninit)) (le-leb _ _ u.panmin)) (le-leb _ _ u.panmax))
    (le-leb _ _ u.limits)) (le-leb _ _ u.gainup)) (le-leb _ _ u.gaindn)) (le-leb _ _ u.mestep)

codes_in : (d : Decoded) → codes_in_range d ≡ true → CodesInRange d
codes_in Failed e = tt
codes_in (Codes pan par) e = let h = both (leb pan 63) (leb par 63) e in (leb-true pan 63 h.0, leb-true par 63 h.1)

in_codes : (d : Decoded) → CodesInRange d → codes_in_range d ≡ true
in_codes Failed h = refl
in_codes (Codes pan par) h = and-true _ _ (le-leb _ _ h.0) (le-leb _ _ h.1)

-- a test that fails where its words do not hold, and the other way round
module _ {P : Type 0} (t : Bool) where
  fails : (t ≡ true → P) → ¬ P → t ≡ false
  fails f n = by_test t (λ e. absurd (n (f e))) (λ e. e)

  says_no : (P → t ≡ true) → t ≡ false → ¬ P
  says_no f e h = never (sym e ∙ f h)

-- ---- the answers, one after the other

module _ (p : PowerParameters) (r : PowerRecord) (d : Decoded) (sqi : ℤ) where
  says_9 : well_formed r ≡ false → (stepped p r d sqi).answer ≡ refused (Alone 9)
  unfolding stepped
  says_9 f = rw f

  says_7 : well_formed r ≡ true → (parameters_in_range p && codes_in_range d) ≡ false → (stepped p r d sqi).answer ≡ refused (Alone 7)
  unfolding stepped
  says_7 f g = rw (f, g)

  says_1 : well_formed r ≡ true → (parameters_in_range p && codes_in_range d) ≡ true → quality_in_range sqi ≡ false
      → (stepped p r d sqi).answer ≡ refused (Alone 1)
  unfolding stepped
  says_1 f g q = rw (f, g, q)

  not_refused : (n : Reason) → well_formed r ≡ true → (parameters_in_range p && codes_in_range d) ≡ true → quality_in_range sqi ≡ true
      → (stepped p r d sqi).answer ≡ refused n → ⊥
  unfolding stepped
  not_refused n f g q = rw (f, g, q) (λ e. gives_refused e)

  row_is : {a n : Reason} → (stepped p r d sqi).answer ≡ refused n → (stepped p r d sqi).answer ≡ refused a → Refuses p r d sqi a → Refuses p r d sqi n
  row_is e q row = subst (Refuses p r d sqi) (same_reason q e) row

  to_row : (n : Reason) → (stepped p r d sqi).answer ≡ refused n → Refuses p r d sqi n
  to_row n e = by_test (well_formed r) sound (λ f. row_is e (says_9 f) (unformed (says_no (well_formed r) (well-formed r) f)))
    where
      read : well_formed r ≡ true → (parameters_in_range p && codes_in_range d) ≡ true → Refuses p r d sqi n
      read f g =
          by_test (quality_in_range sqi)
          (λ q. absurd (not_refused n f g q e))
          (λ q.
          let given = both (parameters_in_range p) (codes_in_range d) g in
          row_is e (says_1 f g q)
          (quality (formed r f) (usable p given.0) (codes_in d given.1) (says_no (quality_in_range sqi) (range_rule.quality sqi).1 q)))

      given : well_formed r ≡ true → (parameters_in_range p && codes_in_range d) ≡ false → Refuses p r d sqi (Alone 7)
      given f g =
          by_test (parameters_in_range p)
          (λ a. code (formed r f) (λ h. never (sym g ∙ and-true (parameters_in_range p) (codes_in_range d) a (in_codes d h))))
          (λ a. parameter (formed r f) (says_no (parameters_in_range p) (in_range p) a))

      sound : well_formed r ≡ true → Refuses p r d sqi n
      sound f = by_test (parameters_in_range p && codes_in_range d) (read f) (λ g. row_is e (says_7 f g) (given f g))

  from_row : {n : Reason} → Refuses p r d sqi n → (stepped p r d sqi).answer ≡ refused n
  from_row (unformed w) = says_9 (fails (well_formed r) (formed r) w)
  from_row (parameter w a) = says_7 (well-formed r w) (fails (parameters_in_range p && codes_in_range d)
      (λ g. usable p (both (parameters_in_range p) (codes_in_range d) g).0) a)
  from_row (code w a) = says_7 (well-formed r w) (fails (parameters_in_range p && codes_in_range d)
      (λ g. codes_in d (both (parameters_in_range p) (codes_in_range d) g).1) a)
  from_row (quality w a b q) = says_1 (well-formed r w) (and-true _ _ (in_range p a) (in_codes d b)) (fails (quality_in_range sqi) (range_rule.quality sqi).0 q)

-- ---- a start, and the test of a record

start_7 : (p : PowerParameters) → parameters_in_range p ≡ false → (started p).answer ≡ refused (Alone 7)
unfolding started
start_7 p e = rw e

start_taken : (p : PowerParameters) (n : Reason) → parameters_in_range p ≡ true → (started p).answer ≡ refused n → ⊥
unfolding started
start_taken p n e = rw e (λ q. gives_refused q)

test_9 : (r : PowerRecord) → well_formed r ≡ false → (tested r).answer ≡ refused (Alone 9)
unfolding tested
test_9 r e = rw e

test_taken : (r : PowerRecord) (n : Reason) → well_formed r ≡ true → (tested r).answer ≡ refused n → ⊥
unfolding tested
test_taken r n e = rw e (λ q. gives_refused q)

pub refusal_rule : RefusalRule
refusal_rule = record {
  starts = λ p n. (
    λ e. by_test (parameters_in_range p)
        (λ t. absurd (start_taken p n t e))
        (λ t. (same_reason e (start_7 p t), says_no (parameters_in_range p) (in_range p) t)),
    λ h. start_7 p (fails (parameters_in_range p) (usable p) h.1) ∙ ap refused (sym h.0),
  );
  tests = λ r n. (
    λ e. by_test (well_formed r) (λ t. absurd (test_taken r n t e)) (λ t. (same_reason e (test_9 r t), says_no (well_formed r) (well-formed r) t)),
    λ h. test_9 r (fails (well_formed r) (formed r) h.1) ∙ ap refused (sym h.0),
  );
  steps = λ p r d sqi n. (to_row p r d sqi n, from_row p r d sqi);
}

pub start_rule : StartRule
unfolding started
start_rule p = record { accepted = λ u. rw (in_range p u); zeros = λ n. rw (fails (parameters_in_range p) (usable p) n) }
