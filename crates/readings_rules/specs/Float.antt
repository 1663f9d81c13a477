-- Document 01, section Readings: hundredths shown again as a float, or refusal 1.
use Rattle.std.specs.Prelude.{ℤ, pos, Float}
use Rattle.std.specs.Float.{binary32}
use Rattle.std.specs.Float.Ieee.{of_int, div}
use Rattle.refusal.specs.declared.Refusal.TheVariants.{ReadingOutOfRange}
use Rattle.refusal.specs.Told.{Told, gives, provided}
use Rattle.readings_rules.specs.Ranges.{level_low, level_high, quality_low, quality_high, in_range}

-- the float h divided by 100, rounded once: `div` rounds the exact quotient to the nearest single float, as `Claims.ShownRule` says in the paper's words
unfoldable pub float_of : ℤ → Float
float_of h = div binary32 (of_int binary32 h) (of_int binary32 (pos 100))

-- that float where h lies in the range, else refusal 1
unfoldable pub shown : ℤ → ℤ → ℤ → Told Float
unfolding float_of
shown low high h = provided (in_range low high h) ReadingOutOfRange (gives (float_of h))

-- a level's hundredths as a float
abbrev pub level_shown : ℤ → Told Float
level_shown = shown level_low level_high

-- a quality's hundredths as a float
abbrev pub quality_shown : ℤ → Told Float
quality_shown = shown quality_low quality_high
