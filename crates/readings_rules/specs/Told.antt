-- The answer of a burst in document 01's terms: what is told of a refusal, or the values. Those of a level, of a quality and of a float are told
-- by `told` of `refusal` as they are.
use Rattle.std.specs.Prelude.{ℤ, Result}
use Rattle.refusal.specs.declared.Refusal.{Refusal}
use Rattle.refusal.specs.Told.{Told, told_as}
use Rattle.readings_rules.specs.declared.Burst.{Burst}
use Rattle.readings_rules.specs.declared.Burst.TheVariants.{Heard, Missed}
use Rattle.readings_rules.specs.Burst.{BurstResult, heard, missed}

-- a burst's result, of the burst in hundredths
abbrev pub result_of : Burst ℤ → BurstResult
result_of (Heard r) = heard r.level r.quality
result_of Missed = missed

abbrev pub told_burst : Result (Burst ℤ) Refusal → Told BurstResult
told_burst answer = told_as result_of answer
