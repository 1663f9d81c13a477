-- Document 01, section Power steps: its numbers, each named once. Source document 000, clause 11.1, has the same ranges.
use Rattle.std.specs.Prelude.{ℕ}

-- SQT 0 to 126; 127 is null
abbrev pub sqt_highest : ℕ
sqt_highest = 126

-- a numeric PAN or PAR code is 0 to 60
abbrev pub numeric_highest : ℕ
numeric_highest = 60

-- a decoded code is 0 to 63
abbrev pub code_highest : ℕ
code_highest = 63

-- GainUp 0 to 31
abbrev pub gain_up_highest : ℕ
gain_up_highest = 31

-- GainDn 0 to 10
abbrev pub gain_dn_highest : ℕ
gain_dn_highest = 10

-- Mestep 0 to 15
abbrev pub mestep_highest : ℕ
mestep_highest = 15

-- one step of SQT is 0.1 dB, in hundredths
abbrev pub sqt_step : ℕ
sqt_step = 10

-- one code of a PAN or PAR is 0.4 dB, in thousandths
abbrev pub code_step : ℕ
code_step = 400

-- one step of Mestep is 0.2 dB, in thousandths
abbrev pub mestep_step : ℕ
mestep_step = 200

-- the greatest attenuation and the greatest increase, 24 dB in thousandths
abbrev pub thousandths_highest : ℕ
thousandths_highest = 24000
