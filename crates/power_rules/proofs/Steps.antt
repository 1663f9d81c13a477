-- The ends of a step: refused with 9, 7 or 1, or accepted. What holds of each holds of the step.
use mathlib.Core.Path.{◌≡◌}
use mathlib.Core.Bool.{true, ◌&&◌}
use lib.IntN.{ℤ}
use Rattle.refusal.specs.declared.Refusal.{Refusal}
use Rattle.refusal.specs.declared.Refusal.TheVariants.{ReadingOutOfRange, ParameterOutOfRange, RecordNotWellFormed}
use Rattle.refusal.specs.Told.{refused_for, gives}
use Rattle.readings_rules.specs.Ranges.{quality_in_range}
use Rattle.power_rules.specs.declared.PowerParameters.{PowerParameters}
use Rattle.power_rules.specs.declared.PowerRecord.{PowerRecord}
use Rattle.power_rules.specs.declared.Decoded.{Decoded}
use Rattle.power_rules.specs.PowerSteps.{parameters_in_range, codes_in_range, well_formed, record_after}
use Rattle.power_rules.specs.Calls.{HandedBack, ToSend, stepped, sending}
use Rattle.power_rules.proofs.Whole.{by_test}

module _ (p : PowerParameters) (r : PowerRecord) (d : Decoded) (sqi : ℤ) where
  -- what holds of every refusal, and of an accepted step where all tests are passed, holds of the step
  pub step_cases : (P : HandedBack ToSend → Type 0) → ((why : Refusal) → P (record { power = r; answer = refused_for why }))
      → (well_formed r ≡ true → (parameters_in_range p && codes_in_range d) ≡ true → quality_in_range sqi ≡ true
      → P (record { power = record_after p r d; answer = gives (sending p r d sqi) }))
      → P (stepped p r d sqi)
  unfolding stepped
  step_cases P refusal acceptance = by_test (well_formed r) formed_record (λ f. rw f (refusal RecordNotWellFormed))
    where
      read : well_formed r ≡ true → (parameters_in_range p && codes_in_range d) ≡ true → P (stepped p r d sqi)
      read f g = by_test (quality_in_range sqi) (λ q. rw (f, g, q) (acceptance f g q)) (λ q. rw (f, g, q) (refusal ReadingOutOfRange))

      formed_record : well_formed r ≡ true → P (stepped p r d sqi)
      formed_record f = by_test (parameters_in_range p && codes_in_range d) (read f) (λ g. rw (f, g) (refusal ParameterOutOfRange))
