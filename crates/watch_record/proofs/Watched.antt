-- What the code finds in a well-formed watch: a place below the number of channels is that of a channel under watch, and a channel serves where
-- there is any.
use Prim.Native.Nat.{ℕ, ◌<◌}
use mathlib.Core.Path.{◌≡◌, refl, sym, ap, ◌∙◌}
use mathlib.Core.Bool.{true, false}
use mathlib.Core.List.{List, [], ◌∷◌}
use native.Mathlib.Omega.{arith}
use lib.ListN.{length, take, get_or}
use lib.Seq.{length-take-le, get_or-take}
use Rattle.std.specs.Prelude.{Some, None}
use Rattle.std.specs.List.{position}
use Rattle.watch_rules.specs.declared.Watch.{Watch}
use Rattle.watch_rules.specs.Lists.{mem}
use Rattle.watch_rules.specs.Rules.{serves}
use Rattle.watch_rules.specs.Rows.{Row, row, first, levels_of}
use Rattle.watch_rules.specs.Record.{rows, track_of, well_formed}
use Rattle.watch_rules.proofs.Laws.{levels_none}
use Rattle.watch_rules.proofs.Encode.{tracks_read}
use Rattle.watch_rules.proofs.Calls.{formed_tracks}
use Rattle.watch_record.specs.Code.{nothing, channels_of}
use Rattle.watch_record.proofs.Places.{has, place_of, place_some, place_none}
use Rattle.watch_record.proofs.Scan.{channels_rows}
use Rattle.watch_record.proofs.Tracks.{track_at, place_among}

-- the channel's place in a watch
abbrev pub place_in : Watch → ℕ → ℕ
place_in w c = place_of c (take w.watched w.tracks)

pub as_many_lem : (w : Watch) → well_formed w ≡ true → length (rows w) ≡ w.watched
as_many_lem w formed = (tracks_read w.depth w.watched w.tracks (formed_tracks w formed)).counted

-- what the search answered, in these terms
module _ (w : Watch) (c : ℕ) (formed : well_formed w ≡ true) where
  module _ {p : ℕ} (e : Some p ≡ position (has c) (take w.watched w.tracks)) where
    found : (p ≡ place_in w c) × (place_in w c < length (take w.watched w.tracks))
    found = place_some c p (take w.watched w.tracks) e

    pub found_at : p ≡ place_in w c
    found_at = found.0

    pub found_place : place_in w c < w.watched
    found_place =
        omega (arith, found.1, length-take-le w.watched w.tracks (tracks_read w.depth w.watched w.tracks (formed_tracks w formed)).within)

    pub found_below : p < w.watched
    found_below = omega (arith, found_at, found_place)

    -- the track there is that of the channel's row
    pub found_used : get_or (take w.watched w.tracks) p nothing ≡ get_or w.tracks p nothing
    found_used = get_or-take w.watched w.tracks p nothing found_below

    pub found_track : get_or w.tracks p nothing ≡ track_of (row c (levels_of c (rows w)))
    found_track =
        ap (λ (i : ℕ). get_or w.tracks i nothing) found_at
        ∙ sym (track_at w.depth w.watched c w.tracks (formed_tracks w formed)
        (place_among w.depth w.watched c w.tracks (formed_tracks w formed) found_place))

  -- a channel that has no place has no levels
  pub unfound_levels : None ≡ position (has c) (take w.watched w.tracks) → levels_of c (rows w) ≡ []
  unfound_levels e = levels_none c (rows w) (ap (mem c) (channels_rows (take w.watched w.tracks)) ∙ place_none c (take w.watched w.tracks) e)

module _ (w : Watch) (c : ℕ) (formed : well_formed w ≡ true) (there : place_in w c < w.watched) where
  pub member : mem c (channels_of (take w.watched w.tracks)) ≡ true
  member = place_among w.depth w.watched c w.tracks (formed_tracks w formed) there

-- ---- how many channels there are

-- one serves where there is any
serves_any : (rs : List Row) → (length rs ≡ 0 → ⊥) → serves (first rs) ≡ true
serves_any [] h = absurd (h refl)
serves_any (r ∷ rs) h = refl

serves_not : (rs : List Row) → length rs ≡ 0 → serves (first rs) ≡ false
serves_not [] e = refl
serves_not (r ∷ rs) e = absurd (omega arith)

module _ (w : Watch) (formed : well_formed w ≡ true) where
  pub serving_some : (w.watched ≡ 0 → ⊥) → serves (first (rows w)) ≡ true
  serving_some h = serves_any (rows w) (λ z. h (sym (as_many_lem w formed) ∙ z))

  pub serving_none : w.watched ≡ 0 → serves (first (rows w)) ≡ false
  serving_none e = serves_not (rows w) (as_many_lem w formed ∙ e)
