-- Document 01, sections Power steps and Refusal numbers, in its own words: the ranges by `≤`, without the tests of `PowerSteps`.
-- `Claims.RefusalRule` says that the calls refuse exactly so.
use Rattle.std.specs.Prelude.{◌≤◌, ◌%◌, ◌≡◌, ℤ}
use Rattle.refusal.specs.declared.Reason.{Reason}
use Rattle.refusal.specs.declared.Reason.TheVariants.{Alone}
use Rattle.readings_rules.specs.Claims.{QualityInRange}
use Rattle.power_rules.specs.declared.PowerParameters.{PowerParameters}
use Rattle.power_rules.specs.declared.PowerRecord.{PowerRecord}
use Rattle.power_rules.specs.declared.Decoded.{Decoded}
use Rattle.power_rules.specs.declared.Decoded.TheVariants.{Failed, Codes}

-- "SQT 0 to 126 .., PANinit, PANmin, PANmax 0 to 60 .., PANmin not above PANmax, GainUp 0 to 31 and GainDn 0 to 10 .., Mestep 0 to 15"
pub record InRange (p : PowerParameters) : Type 0 where
  pub sqt : p.sqt ≤ 126
  pub paninit : p.paninit ≤ 60
  pub panmin : p.panmin ≤ 60
  pub panmax : p.panmax ≤ 60
  pub limits : p.panmin ≤ p.panmax
  pub gainup : p.gainup ≤ 31
  pub gaindn : p.gaindn ≤ 10
  pub mestep : p.mestep ≤ 15

-- "failed, or a PAN and a PAR code, each 0 to 63"
abbrev pub CodesInRange : Decoded → Type 0
CodesInRange Failed = Unit {0}
CodesInRange (Codes pan par) = (pan ≤ 63) × (par ≤ 63)

-- "Well formed: codes 0 to 60, increase a multiple of 200 in 0 to 24,000."
pub record WellFormed (r : PowerRecord) : Type 0 where
  pub panlast : r.panlast ≤ 60
  pub parsave : r.parsave ≤ 60
  pub panbasic : r.panbasic ≤ 60
  pub increase : r.increase ≤ 24000
  pub multiple : r.increase % 200 ≡ 0

-- the table, for a step: it is refused with this number, and no place is told. "Several at once: 9, .. 7, .. 1.": a later number only where no
-- earlier one is given
pub data Refuses (p : PowerParameters) (r : PowerRecord) (d : Decoded) (sqi : ℤ) : Reason → Type 0 where
  -- 9: "a record not well formed"
  unformed : ¬ (WellFormed r) → Refuses p r d sqi (Alone 9)
  -- 7: "a .. power parameter out of range; PANmin above PANmax; a code above 63"
  parameter : WellFormed r → ¬ (InRange p) → Refuses p r d sqi (Alone 7)
  code : WellFormed r → ¬ (CodesInRange d) → Refuses p r d sqi (Alone 7)
  -- 1: "a .. quality .. in hundredths, is outside its range", "-3,000 to 4,000"
  quality : WellFormed r → InRange p → CodesInRange d → ¬ (QualityInRange sqi) → Refuses p r d sqi (Alone 1)
