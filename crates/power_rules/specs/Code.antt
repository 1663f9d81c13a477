-- The power steps in natural numbers, as the code works them out: what the private functions of `power` return. `proofs/Rules.antt` shows
-- that these are the numbers of `PowerSteps`. No reader of the public contracts needs this file.
use Rattle.std.specs.Prelude.{cond, ℕ, ◌+◌, ◌-◌, ◌*◌, ◌/◌, min, max, ltb, ℤ, ◌-ℤ◌, nat_abs}
use Rattle.readings_rules.specs.Ranges.{quality_lowest, quality_highest}
use Rattle.power_rules.specs.declared.PowerParameters.{PowerParameters}
use Rattle.power_rules.specs.declared.PowerRecord.{PowerRecord}
use Rattle.power_rules.specs.Constants.{sqt_step, code_step, thousandths_highest}

-- 0 dB and the highest quality, counted from the lowest
abbrev pub zero_quality : ℕ
zero_quality = nat_abs quality_lowest

abbrev pub quality_span : ℕ
quality_span = nat_abs (quality_highest -ℤ quality_lowest)

-- a quality, counted from the lowest
abbrev pub above_lowest : ℤ → ℕ
above_lowest q = nat_abs (q -ℤ quality_lowest)

-- SQT, counted as a quality is
abbrev pub target_at : PowerParameters → ℕ
target_at p = sqt_step * p.sqt + zero_quality

-- the gain at a quality of n above the lowest
abbrev pub gain_at : PowerParameters → ℕ → ℕ → ℕ
gain_at p target n = cond (ltb target n) p.gaindn p.gainup

-- T brought into 0 to 24,000
abbrev pub held_at : PowerParameters → ℕ → ℕ → ℕ
held_at p panuse n =
    cond (ltb (target_at p) n)
    (min thousandths_highest (code_step * panuse + gain_at p (target_at p) n * (n - target_at p)))
    (code_step * panuse - gain_at p (target_at p) n * (target_at p - n))

-- the nearest code, a half to the lower
abbrev pub nearest_code : ℕ → ℕ
nearest_code t = (t + (code_step / 2 - 1)) / code_step

abbrev pub par_at : PowerParameters → ℕ → ℕ → ℕ
par_at p panuse n = nearest_code (held_at p panuse n)

-- the whole codes in so many thousandths
abbrev pub whole_codes : ℕ → ℕ
whole_codes t = t / code_step

abbrev pub pan_at : PowerParameters → PowerRecord → ℕ
pan_at p r = max p.panmin (min p.panmax (whole_codes (code_step * r.panbasic - r.increase)))
