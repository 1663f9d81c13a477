-- Document 01, section Readings: "Read back, this gives h for every h in either range."
use Rattle.std.specs.Prelude.{ℤ}
use Rattle.refusal.specs.declared.Refusal.TheVariants.{ReadingOutOfRange}
use Rattle.refusal.specs.Told.{Told, gives, provided}
use Rattle.readings_rules.specs.Ranges.{level_in_range, quality_in_range}

-- a level's hundredths, shown and read again: h, or refusal 1 where h is outside the range
abbrev pub level_back : ℤ → Told ℤ
level_back h = provided (level_in_range h) ReadingOutOfRange (gives h)

-- the same for a quality
abbrev pub quality_back : ℤ → Told ℤ
quality_back h = provided (quality_in_range h) ReadingOutOfRange (gives h)
