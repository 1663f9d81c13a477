-- Document 01, section Readings: the ranges of a level and a quality. The one place where their ends stand but `Claims`, which pins them.
use Rattle.std.specs.Prelude.{Bool, ◌&&◌, ℤ, pos, neg_ℤ, ◌*ℤ◌}
use Rattle.std.specs.Int.Signed.{le_z}

-- a level lies in -150 to 0 dBm
abbrev pub level_low : ℤ
level_low = neg_ℤ (pos 150)

abbrev pub level_high : ℤ
level_high = pos 0

-- a quality lies in -30 to +40 dB
abbrev pub quality_low : ℤ
quality_low = neg_ℤ (pos 30)

abbrev pub quality_high : ℤ
quality_high = pos 40

-- whole dB in hundredths
abbrev pub in_hundredths : ℤ → ℤ
in_hundredths z = z *ℤ pos 100

abbrev pub level_lowest : ℤ
level_lowest = in_hundredths level_low

abbrev pub level_highest : ℤ
level_highest = in_hundredths level_high

abbrev pub quality_lowest : ℤ
quality_lowest = in_hundredths quality_low

abbrev pub quality_highest : ℤ
quality_highest = in_hundredths quality_high

-- hundredths lie from low to high dB, ends included
abbrev pub in_range : ℤ → ℤ → ℤ → Bool
in_range low high h = le_z (in_hundredths low) h && le_z h (in_hundredths high)

abbrev pub level_in_range : ℤ → Bool
level_in_range = in_range level_low level_high

abbrev pub quality_in_range : ℤ → Bool
quality_in_range = in_range quality_low quality_high
