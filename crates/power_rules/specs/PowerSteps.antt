-- Document 01, section Power steps, line by line: the ranges of the parameters and codes, the record at the start, the rules 1 to 4 of a
-- step, and when a record is well formed. Codes and the record's numbers are natural numbers; what can fall below 0 is in ℤ.
use Rattle.std.specs.Prelude.{ℕ, ◌+◌, ◌*◌, ◌%◌, min, Bool, true, ◌&&◌, cond, leb, eqb, ℤ, pos, ◌-ℤ◌, ◌*ℤ◌}
use Rattle.std.specs.Int.Signed.{lt_z, shr_z}
use Rattle.readings_rules.specs.Rounding.{nearest_lower}
use Rattle.power_rules.specs.declared.PowerParameters.{PowerParameters}
use Rattle.power_rules.specs.declared.PowerRecord.{PowerRecord}
use Rattle.power_rules.specs.declared.Decoded.{Decoded}
use Rattle.power_rules.specs.declared.Decoded.TheVariants.{Failed, Codes}
use Rattle.power_rules.specs.Constants.{sqt_highest, numeric_highest, code_highest, gain_up_highest, gain_dn_highest, mestep_highest, sqt_step, code_step, mestep_step, thousandths_highest}

-- a code that is numeric: 0 to 60
abbrev pub numeric : ℕ → Bool
numeric code = leb code numeric_highest

-- "SQT 0 to 126, PANinit, PANmin, PANmax 0 to 60, PANmin not above PANmax, GainUp 0 to 31 and GainDn 0 to 10, Mestep 0 to 15"
abbrev pub parameters_in_range : PowerParameters → Bool
parameters_in_range p =
    leb p.sqt sqt_highest
    && numeric p.paninit
    && numeric p.panmin
    && numeric p.panmax
    && leb p.panmin p.panmax
    && leb p.gainup gain_up_highest
    && leb p.gaindn gain_dn_highest
    && leb p.mestep mestep_highest

-- "The record starts with PANlast = PARsave = PANbasic = PANinit, increase 0"
abbrev pub fresh_with : ℕ → PowerRecord
fresh_with pan_init = record { panlast = pan_init; parsave = pan_init; panbasic = pan_init; increase = 0 }

-- the record of all zeros, which a refused start hands back
abbrev pub all_zeros : PowerRecord
all_zeros = record { panlast = 0; parsave = 0; panbasic = 0; increase = 0 }

-- "a decode outcome (failed, or a PAN and a PAR code, each 0 to 63 ..)"
abbrev pub codes_in_range : Decoded → Bool
codes_in_range Failed = true
codes_in_range (Codes pan par) = leb pan code_highest && leb par code_highest

-- z brought into low to high
unfoldable pub brought_into : ℤ → ℤ → ℤ → ℤ
brought_into low high z = cond (lt_z z low) low (cond (lt_z high z) high z)

-- ---- 1. "Decoded with PAN at most 60: PANuse = PANlast = that code. Else PANuse = PANlast."

-- PANuse
unfoldable pub pan_use : PowerRecord → Decoded → ℕ
pan_use r Failed = r.panlast
pan_use r (Codes pan par) = cond (numeric pan) pan r.panlast

-- the PANlast that the step leaves: PANuse in both cases
abbrev pub pan_last_after : PowerRecord → Decoded → ℕ
pan_last_after = pan_use

-- ---- 2. "In thousandths: T = 400 x PANuse - G x (10 x SQT - SQI), G = GainDn if 10 x SQT < SQI, else GainUp. Brought into 0 to 24,000,
-- divided by 400, nearest, half to the lower. This is the PAR to send."

-- G, in tenths; SQT and SQI are compared in hundredths
unfoldable pub gain : PowerParameters → ℤ → ℕ
gain p sqi = cond (lt_z (pos (sqt_step * p.sqt)) sqi) p.gaindn p.gainup

-- T: tenths times hundredths are thousandths
unfoldable pub thousandths : PowerParameters → ℕ → ℤ → ℤ
thousandths p panuse sqi = pos (code_step * panuse) -ℤ pos (gain p sqi) *ℤ (pos (sqt_step * p.sqt) -ℤ sqi)

-- the PAR to send. `nearest_lower n d` is the whole number nearest to n / d, of two the lower: `RoundingRule` of the readings' `Claims`
unfoldable pub par_to_send : PowerParameters → ℕ → ℤ → ℤ
par_to_send p panuse sqi = nearest_lower (brought_into (pos 0) (pos thousandths_highest) (thousandths p panuse sqi)) code_step

-- ---- 3. "Decoded with PAR at most 60: PANbasic = lesser of PAR and PARsave, then PARsave = PAR, increase 0. Decoded otherwise: increase 0.
-- Failed: increase grows by 200 x Mestep, at most 24,000."

-- the PANbasic that the step leaves; PARsave is the one before the step
unfoldable pub pan_basic_after : PowerRecord → Decoded → ℕ
pan_basic_after r Failed = r.panbasic
pan_basic_after r (Codes pan par) = cond (numeric par) (min par r.parsave) r.panbasic

-- the PARsave that the step leaves
unfoldable pub par_save_after : PowerRecord → Decoded → ℕ
par_save_after r Failed = r.parsave
par_save_after r (Codes pan par) = cond (numeric par) par r.parsave

-- the increase that the step leaves
unfoldable pub increase_after : PowerParameters → PowerRecord → Decoded → ℕ
increase_after p r Failed = min thousandths_highest (r.increase + mestep_step * p.mestep)
increase_after p r (Codes pan par) = 0

-- the record that a step leaves
abbrev pub record_after : PowerParameters → PowerRecord → Decoded → PowerRecord
record_after p r d = record { panlast = pan_last_after r d; parsave = par_save_after r d; panbasic = pan_basic_after r d; increase = increase_after p r d }

-- ---- 4. "PAN to send: (400 x PANbasic - increase) / 400 rounded down, brought into PANmin to PANmax", of the record that the step leaves

-- the PAN to send. `shr_z n d` is n / d rounded down: `RoundsDown` of `Claims`
unfoldable pub pan_to_send : PowerParameters → PowerRecord → ℤ
pan_to_send p r = brought_into (pos p.panmin) (pos p.panmax) (shr_z (pos (code_step * r.panbasic) -ℤ pos r.increase) code_step)

-- ---- "Well formed: codes 0 to 60, increase a multiple of 200 in 0 to 24,000."

abbrev pub well_formed : PowerRecord → Bool
well_formed r =
    numeric r.panlast
    && numeric r.parsave
    && numeric r.panbasic
    && leb r.increase thousandths_highest
    && eqb (r.increase % mestep_step) 0
