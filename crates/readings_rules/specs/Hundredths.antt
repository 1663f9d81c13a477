-- Document 01, section Readings: from a float to hundredths, or refusal 1. `Claims.ConversionRule` says the same in the paper's words.
use Rattle.std.specs.Prelude.{ℕ, ◌*◌, Bool, true, false, ◌&&◌, ℤ, pos, neg_ℤ, ◌*ℤ◌, Float}
use Rattle.std.specs.Int.Signed.{le_z}
use Rattle.std.specs.Float.{nan, inf, fin}
use Rattle.std.specs.Float.Ieee.{up, down}
use Rattle.refusal.specs.declared.Refusal.TheVariants.{ReadingOutOfRange}
use Rattle.refusal.specs.Told.{Told, gives, provided}
use Rattle.readings_rules.specs.Ranges.{level_low, level_high, quality_low, quality_high}
use Rattle.readings_rules.specs.Rounding.{nearest_lower}

-- a size with a sign; true is minus
abbrev pub signed : Bool → ℕ → ℤ
signed false n = pos n
signed true n = neg_ℤ (pos n)

-- the exact float: a whole number m times a power of two 2 ^ e, as a fraction. It is numerator s m e / down e
abbrev pub numerator : Bool → ℕ → ℤ → ℤ
numerator s m e = signed s (m * up e)

-- the exact float lies from low to high dB, ends included; NaN and infinities lie outside
unfoldable pub within : ℤ → ℤ → Float → Bool
within low high nan = false
within low high (inf s) = false
within low high (fin s m e) = le_z (low *ℤ pos (down e)) (numerator s m e) && le_z (numerator s m e) (high *ℤ pos (down e))

-- the whole number nearest to 100 times the exact float, an exact half to the lower number; of no matter outside the range
unfoldable pub hundredths_of : Float → ℤ
unfolding nearest_lower
hundredths_of nan = pos 0
hundredths_of (inf s) = pos 0
hundredths_of (fin s m e) = nearest_lower (pos 100 *ℤ numerator s m e) (down e)

-- the hundredths where the float lies in the range, else refusal 1; the range is tested on the exact float, before rounding
unfoldable pub converted : ℤ → ℤ → Float → Told ℤ
unfolding within hundredths_of
converted low high x = provided (within low high x) ReadingOutOfRange (gives (hundredths_of x))

-- a level in hundredths
abbrev pub level_of : Float → Told ℤ
level_of = converted level_low level_high

-- a quality in hundredths
abbrev pub quality_of : Float → Told ℤ
quality_of = converted quality_low quality_high
