-- Document 01, section Readings: one result per burst, in hundredths, or refusal 1. Both floats of a heard burst are tested.
use Rattle.std.specs.Prelude.{◌≡◌, true, ℤ, Float}
use Rattle.refusal.specs.Told.{Told, refused, gives}
use Rattle.readings_rules.specs.declared.Burst.{Burst}
use Rattle.readings_rules.specs.declared.Burst.TheVariants.{Heard, Missed}
use Rattle.readings_rules.specs.Ranges.{level_in_range, quality_in_range}
use Rattle.readings_rules.specs.Hundredths.{level_of, quality_of}

-- a burst in hundredths: heard, with a level and a quality, or missed with nothing
pub data BurstResult : Type 0 where
  heard : ℤ → ℤ → BurstResult
  missed : BurstResult

-- a heard burst is refused where one of the two is
abbrev pub both_of : Told ℤ → Told ℤ → Told BurstResult
both_of (gives level) (gives quality) = gives (heard level quality)
both_of (gives level) (refused n) = refused n
both_of (refused n) q = refused n

abbrev pub burst_of : Burst Float → Told BurstResult
burst_of (Heard r) = both_of (level_of r.level) (quality_of r.quality)
burst_of Missed = gives missed

-- the hundredths of a heard burst lie in their ranges
abbrev pub InRange : Told BurstResult → Type 0
InRange (gives (heard level quality)) = (level_in_range level ≡ true) × (quality_in_range quality ≡ true)
InRange (gives missed) = Unit
InRange (refused n) = Unit
