-- What each call on a power record hands back. Document 01, sections Power steps and Refusal numbers.
use Rattle.std.specs.Prelude.{◌&&◌, ℤ}
use Rattle.refusal.specs.declared.Refusal.TheVariants.{ReadingOutOfRange, ParameterOutOfRange, RecordNotWellFormed}
use Rattle.refusal.specs.Told.{Told, accepted, provided, giving, unless_refused}
use Rattle.readings_rules.specs.Ranges.{quality_in_range}
use Rattle.power_rules.specs.declared.PowerParameters.{PowerParameters}
use Rattle.power_rules.specs.declared.PowerRecord.{PowerRecord}
use Rattle.power_rules.specs.declared.Decoded.{Decoded}
use Rattle.power_rules.specs.PowerSteps.{parameters_in_range, codes_in_range, well_formed, fresh_with, all_zeros, pan_use, par_to_send, pan_to_send, record_after}

-- a record beside what the call answers
pub record HandedBack (A : Type 0) : Type 0 where
  pub power : PowerRecord
  pub answer : Told A

-- the two codes that an accepted step answers
pub record ToSend : Type 0 where
  pub par : ℤ
  pub pan : ℤ

-- a call that is allowed hands back the record after it and answers this value; refused, the record before it
abbrev pub handing : {A : Type 0} → Told Unit → PowerRecord → PowerRecord → A → HandedBack A
handing allowed before after value = record { power = unless_refused allowed before after; answer = giving allowed value }

-- "A start of a power record is given none; refused, it returns one of all zeros." Refusal 7
unfoldable pub started : PowerParameters → HandedBack Unit
started p = handing (provided (parameters_in_range p) ParameterOutOfRange accepted) all_zeros (fresh_with p.paninit) tt

-- the test of a record: refusal 9, and the record it was given
unfoldable pub tested : PowerRecord → HandedBack Unit
tested r = handing (provided (well_formed r) RecordNotWellFormed accepted) r r tt

-- the codes that an accepted step sends
unfoldable pub sending : PowerParameters → PowerRecord → Decoded → ℤ → ToSend
sending p r d sqi = record { par = par_to_send p (pan_use r d) sqi; pan = pan_to_send p (record_after p r d) }

-- a step: refusals 9, 7, 1 in this order, each with the record it was given. SQI is tested also where decoding failed
unfoldable pub stepped : PowerParameters → PowerRecord → Decoded → ℤ → HandedBack ToSend
stepped p r d sqi =
    handing
    (provided (well_formed r) RecordNotWellFormed
    (provided (parameters_in_range p && codes_in_range d) ParameterOutOfRange
    (provided (quality_in_range sqi) ReadingOutOfRange accepted)))
    r (record_after p r d) (sending p r d sqi)
