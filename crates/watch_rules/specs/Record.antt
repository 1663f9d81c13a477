-- The record: its rows, when it is well formed, and what each call hands back. Document 01, section The watch.
use Rattle.std.specs.Prelude.{ℕ, zero, suc, Bool, true, false, cond, ◌&&◌, List, [], ◌∷◌, map, eqb, leb, ℤ, pos, negsuc, length, take}
use Rattle.refusal.specs.declared.Refusal.TheVariants.{RecordNotWellFormed}
use Rattle.refusal.specs.Told.{Told, gives, refused_for, unless_refused}
use Rattle.readings_rules.specs.Ranges.{level_in_range}
use Rattle.watch_rules.specs.declared.Track.{Track}
use Rattle.watch_rules.specs.declared.Watch.{Watch}
use Rattle.watch_rules.specs.Lists.{distinct, pad_to}
use Rattle.readings_rules.specs.Channels.{channel_in_range}
use Rattle.watch_rules.specs.Limits.{depth_in_range, capacity, room}
use Rattle.watch_rules.specs.Told.{Call, Called, Given, accepted}
use Rattle.watch_rules.specs.Rules.{View, allowed, answer}
use Rattle.watch_rules.specs.Rows.{Row, row, channels, shown, changed_rows, changed_depth}

-- the row of a track, and the rows of a record
abbrev pub row_of : Track → Row
row_of t = row t.channel (take t.count t.levels)

abbrev pub rows : Watch → List Row
rows w = map row_of (take w.watched w.tracks)

-- what a record shows
abbrev pub view_of : Watch → View
view_of w = shown w.depth (rows w)

-- the track of a row, and the record of rows at a depth: levels that are not used are 0, and tracks that are not used are all zero
abbrev pub track_of : Row → Track
track_of r = record { channel = r.channel; count = length r.levels; levels = pad_to capacity (pos 0) r.levels }

abbrev pub unused : Track
unused = track_of (row 0 [])

abbrev pub record_of : ℕ → List Row → Watch
record_of d rs = record { watched = length rs; depth = d; tracks = pad_to room unused (map track_of rs) }

-- a fresh watch is idle, all zero
abbrev pub fresh : Watch
fresh = record_of 0 []

-- ---- well formed: `Claims.WellFormedIsReachable` says that this is the right test

abbrev pub is_zero : ℤ → Bool
is_zero (pos n) = eqb n 0
is_zero (negsuc n) = false

-- n levels in range, and zeros after them
abbrev pub levels_fine : ℕ → List ℤ → Bool
levels_fine zero [] = true
levels_fine (suc n) [] = false
levels_fine zero (x ∷ xs) = is_zero x && levels_fine zero xs
levels_fine (suc n) (x ∷ xs) = level_in_range x && levels_fine n xs

-- a channel in range, at most as many levels as the depth, in range, and zeros after them
abbrev pub track_fine : ℕ → Track → Bool
track_fine d t =
    channel_in_range t.channel && ((leb t.count d && eqb (length t.levels) capacity) && levels_fine t.count t.levels)

-- all zero
abbrev pub track_unused : ℕ → Track → Bool
track_unused d t = (eqb t.channel 0 && eqb t.count 0) && track_fine d t

-- n tracks that are fine, and unused ones after them
abbrev pub tracks_fine : ℕ → ℕ → List Track → Bool
tracks_fine d zero [] = true
tracks_fine d (suc n) [] = false
tracks_fine d zero (t ∷ ts) = track_unused d t && tracks_fine d zero ts
tracks_fine d (suc n) (t ∷ ts) = track_fine d t && tracks_fine d n ts

-- a depth in range where n tracks are in use, 0 where none is
abbrev pub depth_fine : ℕ → ℕ → Bool
depth_fine zero d = eqb d 0
depth_fine (suc n) d = depth_in_range d

-- the depth is fine, the tracks in use are fine, the others unused, and no channel is there twice
unfoldable pub well_formed : Watch → Bool
well_formed w =
    (eqb (length w.tracks) room && depth_fine w.watched w.depth)
    && (tracks_fine w.depth w.watched w.tracks && distinct (channels (rows w)))

-- ---- calls

-- the record after an accepted call
abbrev pub changed_record : ℕ → List Row → Call → Watch
changed_record d rs k = record_of (changed_depth d k) (changed_rows d rs k)

-- what a call on a well-formed record hands back: a refusal hands back the very record
abbrev pub handed : Watch → List Row → Call → Called
handed w rs k =
    record {
      watch = unless_refused (allowed (shown w.depth rs) k) w (changed_record w.depth rs k);
      answer = answer (shown w.depth rs) k;
    }

-- what it hands back on any other: the record, and refusal 9
abbrev pub returned : Watch → Called
returned w = record { watch = w; answer = refused_for RecordNotWellFormed }

-- what a call hands back
unfoldable pub called : Watch → Call → Called
called w k = cond (well_formed w) (handed w (rows w) k) (returned w)

-- what the test of well-formedness hands back
unfoldable pub tested : Watch → Called
tested w = cond (well_formed w) (record { watch = w; answer = gives accepted }) (returned w)

-- the answers to a sequence of calls, each given the watch as the one before left it, and the watch after the last of them
abbrev pub answers_from : Watch → List Call → List (Told Given)
answers_from w [] = []
answers_from w (k ∷ ks) = (called w k).answer ∷ answers_from (called w k).watch ks

abbrev pub after_from : Watch → List Call → Watch
after_from w [] = w
after_from w (k ∷ ks) = after_from (called w k).watch ks
