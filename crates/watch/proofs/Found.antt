-- What the place of a channel says of a well-formed watch: a place below the number of channels is that of a channel under watch, and the
-- track there has its levels.
use Prim.Native.Nat.{ℕ, ◌<◌}
use mathlib.Core.Path.{◌≡◌, sym, ap, ◌∙◌}
use mathlib.Core.Bool.{true, false}
use native.Mathlib.Omega.{arith}
use lib.ListN.{take, get_or}
use Rattle.watch_rules.specs.declared.Watch.{Watch}
use Rattle.watch_rules.specs.Lists.{mem}
use Rattle.watch_rules.specs.Rules.{watched}
use Rattle.watch_rules.specs.Rows.{Row, row, levels_of}
use Rattle.watch_rules.specs.Record.{view_of, row_of, rows, track_fine, well_formed}
use Rattle.watch_rules.proofs.Encode.{row_track}
use Rattle.watch_rules.proofs.Calls.{formed_tracks, fine_at, first_watched}
use Rattle.watch_record.specs.Code.{nothing, channels_of}
use Rattle.watch_record.proofs.Scan.{channels_rows}
use Rattle.std.specs.Prelude.{Option, Some, None}
use Rattle.std.specs.List.{position}
use Rattle.watch_record.proofs.Places.{has, place_none}
use Rattle.watch_record.proofs.Tracks.{place_among, place_outside}
use Rattle.watch_record.proofs.Watched.{place_in, found_place, found_below, found_track}

-- what was sought is sought in the watch itself
pub sought : (k : ℕ) {s w : Watch} {o r : Option ℕ} → s ≡ w → r ≡ position (has k) (take s.watched s.tracks) → r ≡ o
    → o ≡ position (has k) (take w.watched w.tracks)
sought k e f g = sym g ∙ f ∙ ap (λ (v : Watch). position (has k) (take v.watched v.tracks)) e

module _ (w : Watch) (c : ℕ) (formed : well_formed w ≡ true) where
  among : watched (view_of w) c ≡ mem c (channels_of (take w.watched w.tracks))
  among = first_watched w.depth (rows w) c ∙ ap (mem c) (channels_rows (take w.watched w.tracks))

  pub place_watched : place_in w c < w.watched → watched (view_of w) c ≡ true
  place_watched h = among ∙ place_among w.depth w.watched c w.tracks (formed_tracks w formed) h

  pub place_unwatched : place_in w c ≡ w.watched → watched (view_of w) c ≡ false
  place_unwatched h = among ∙ place_outside w.depth w.watched c w.tracks (formed_tracks w formed) (omega arith)

  pub unfound : None ≡ position (has c) (take w.watched w.tracks) → watched (view_of w) c ≡ false
  unfound e = among ∙ place_none c (take w.watched w.tracks) e

  -- what the code found, in these terms
  module _ {p : ℕ} (e : Some p ≡ position (has c) (take w.watched w.tracks)) where
    pub found_watched : watched (view_of w) c ≡ true
    found_watched = place_watched (found_place w c formed e)

    pub found_fine : track_fine w.depth (get_or w.tracks p nothing) ≡ true
    found_fine = fine_at w.depth w.watched p w.tracks nothing (formed_tracks w formed) (found_below w c formed e)

    -- the levels of a channel under watch are those of the track at its place
    pub found_levels : levels_of c (rows w) ≡ (row_of (get_or w.tracks p nothing)).levels
    found_levels = ap (λ (r : Row). r.levels) (sym (row_track (row c (levels_of c (rows w)))) ∙ ap row_of (sym (found_track w c formed e)))
