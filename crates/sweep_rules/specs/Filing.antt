-- Document 01, section The band sweep: filing a result for a channel, and its refusals 9, 2, 3, 1 in this order.
use Rattle.std.specs.Prelude.{ℕ, not, set, ℤ, Float}
use Rattle.refusal.specs.declared.Refusal.TheVariants.{ChannelOutOfRange, ChannelVisited, RecordNotWellFormed}
use Rattle.refusal.specs.Told.{Told, refused, gives, accepted, provided}
use Rattle.readings_rules.specs.declared.Burst.{Burst}
use Rattle.readings_rules.specs.Burst as readings
use Rattle.readings_rules.specs.Burst.{BurstResult, burst_of}
use Rattle.sweep_rules.specs.Map.{with_bit}
use Rattle.sweep_rules.specs.Record.{swept, visited, well_formed}
use Rattle.sweep_rules.specs.declared.Sweep.{Sweep}

-- missed: the channel is marked visited, and its level stays 0
unfoldable pub with_missed : Sweep → ℕ → Sweep
with_missed s c = record { levels = s.levels; visited = with_bit s.visited c; heard = s.heard }

-- heard: the channel is marked visited and heard, and the level is stored
unfoldable pub with_heard : Sweep → ℕ → ℤ → Sweep
with_heard s c level = record { levels = set s.levels c level; visited = with_bit s.visited c; heard = with_bit s.heard c }

-- what a burst's result in hundredths makes of the record; refused where the reading is
unfoldable pub with_burst : Sweep → ℕ → Told BurstResult → Told Sweep
with_burst s c (gives readings.missed) = gives (with_missed s c)
with_burst s c (gives (readings.heard level quality)) = gives (with_heard s c level)
with_burst s c (refused n) = refused n

-- the record that a filing leaves, or its refusal; whether it is accepted is the `acceptance` of this
unfoldable pub filing : Sweep → ℕ → Burst Float → Told Sweep
filing s c b =
    provided (well_formed s) RecordNotWellFormed
    (provided (swept c) ChannelOutOfRange
    (provided (not (visited s c)) ChannelVisited
    (with_burst s c (burst_of b))))

-- the record that a call hands back: refused, the very one that it was given
abbrev pub leaves : Sweep → Told Sweep → Sweep
leaves s (gives t) = t
leaves s (refused n) = s

-- the public test: accepted, or refusal 9
unfoldable pub checking : Sweep → Told Unit
checking s = provided (well_formed s) RecordNotWellFormed accepted
