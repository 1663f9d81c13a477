-- The claims on answers: what each tells, and that this fixes it, as there is a way back.
use Rattle.std.proofs.Common.{◌≡◌, ℤ, refl}
use Rattle.refusal.proofs.OneToOne.{told_differs, told_as_differs}
use Rattle.readings_rules.specs.declared.Burst.{Burst}
use Rattle.readings_rules.specs.declared.Burst.TheVariants.{Heard, Missed}
use Rattle.readings_rules.specs.Burst.{BurstResult, heard, missed}
use Rattle.readings_rules.specs.Told.{result_of}
use Rattle.readings_rules.specs.Claims.{AnswersTold, AnswersDiffer}

pub answers_told : AnswersTold
answers_told = record {
  value = λ h. refl;
  float = λ x. refl;
  reading = λ r. refl;
  nothing = refl;
  no_value = λ why. refl;
  no_float = λ why. refl;
  no_reading = λ why. refl;
}

-- the burst of a result
burst_from : BurstResult → Burst ℤ
burst_from (heard l q) = Heard (record { level = l; quality = q })
burst_from missed = Missed

burst_back : (b : Burst ℤ) → burst_from (result_of b) ≡ b
unfolding burst_from
burst_back (Heard r) = refl
burst_back Missed = refl

pub answers_differ : AnswersDiffer
answers_differ =
    record {
      hundredths = told_differs;
      shown = told_differs;
      burst = told_as_differs result_of burst_from burst_back;
    }
