-- A watch beside its answer, and places among tracks.
use Rattle.std.specs.Prelude.{ℕ, List, [], map}
use Rattle.refusal.specs.Told.{Told}
use Rattle.watch_rules.specs.declared.Track.{Track}
use Rattle.watch_rules.specs.declared.Watch.{Watch}
use Rattle.watch_rules.specs.Told.{Given, Called}

-- a watch beside its answer
abbrev pub back : Watch → Told Given → Called
back w a = record { watch = w; answer = a }

-- the channels of tracks
abbrev pub channels_of : List Track → List ℕ
channels_of ts = map (λ (t : Track). t.channel) ts

-- a track with nothing in it, for places outside a list
abbrev pub nothing : Track
nothing = record { channel = 0; count = 0; levels = [] }
