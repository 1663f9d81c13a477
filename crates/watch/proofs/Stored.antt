-- What a store at a channel's place makes of the rows: filing changes the channel's row and no other.
use Prim.Native.Nat.{ℕ, zero, suc, ◌<◌}
use mathlib.Core.Path.{◌≡◌, refl, sym, ap, ap₂, ◌∙◌}
use mathlib.Core.Bool.{true}
use mathlib.Core.List.{List, [], ◌∷◌, map}
use lib.Dec.{eqb}
use lib.IntN.{ℤ}
use lib.ListN.{length, take, get_or, set, length-map}
use Rattle.watch_rules.specs.declared.Track.{Track}
use Rattle.watch_rules.specs.declared.Watch.{Watch}
use Rattle.watch_rules.specs.Lists.{mem, pad_to}
use Rattle.watch_rules.specs.Rows.{Row, push, push_at}
use Rattle.watch_rules.specs.Record.{row_of, rows, track_of, unused, record_of, tracks_fine, track_fine, well_formed}
use Rattle.watch_rules.proofs.Laws.{by_case, clash, and_left, and_right, or_true_right, channels_push}
use Rattle.watch_rules.proofs.Encode.{track_read, tracks_read, watch_path}
use Rattle.watch_rules.proofs.Calls.{formed_tracks, formed_long}
use Rattle.watch_record.specs.Code.{nothing, channels_of}
use Rattle.watch_record.proofs.Places.{place_of}
use Rattle.watch_record.proofs.Tracks.{one-more}
use Rattle.watch_record.proofs.Watched.{place_in, member, as_many_lem}

-- a watch with another track at place p
abbrev pub with_track : Watch → ℕ → Track → Watch
with_track w p t = record { watched = w.watched; tracks = set w.tracks p t; depth = w.depth }

tracks_pushed : (d n c : ℕ) (x : ℤ) (ts : List Track) → tracks_fine d n ts ≡ true → mem c (channels_of (take n ts)) ≡ true
    → pad_to (length ts) unused (map track_of (push_at d c x (map row_of (take n ts))))
    ≡ set ts (place_of c (take n ts)) (track_of (push d x (row_of (get_or ts (place_of c (take n ts)) nothing))))
tracks_pushed d zero c x [] e h = clash h refl
tracks_pushed d zero c x (t ∷ ts) e h = clash h refl
tracks_pushed d (suc n) c x [] e h = clash e refl
tracks_pushed d (suc n) c x (t ∷ ts) e h =
    let f : tracks_fine d n ts ≡ true = and_right (track_fine d t) (tracks_fine d n ts) e in
    by_case (eqb t.channel c)
    (λ q. rw q (ap (◌∷◌ (track_of (push d x (row_of t)))) (tracks_read d n ts f).padded))
    (λ q. rw (q, one-more)
    (ap₂ ◌∷◌ (track_read d t (and_left (track_fine d t) (tracks_fine d n ts) e)).back
    (tracks_pushed d n c x ts f (or_true_right (eqb t.channel c) (mem c (channels_of (take n ts))) h q))))

length_pushed : (d c : ℕ) (x : ℤ) (rs : List Row) → length (push_at d c x rs) ≡ length rs
length_pushed d c x rs =
    sym (length-map (push_at d c x rs) (λ (r : Row). r.channel)) ∙ ap length (channels_push d c x rs) ∙ length-map rs (λ (r : Row). r.channel)

-- of a well-formed watch
module _ (w : Watch) (c : ℕ) (formed : well_formed w ≡ true) (there : place_in w c < w.watched) where
  pub watch_pushed : (x : ℤ)
      → with_track w (place_in w c) (track_of (push w.depth x (row_of (get_or w.tracks (place_in w c) nothing))))
      ≡ record_of w.depth (push_at w.depth c x (rows w))
  watch_pushed x =
      watch_path
      (sym (length_pushed w.depth c x (rows w) ∙ as_many_lem w formed))
      refl
      (sym (ap (λ (k : ℕ). pad_to k unused (map track_of (push_at w.depth c x (rows w)))) (sym (formed_long w formed))
      ∙ tracks_pushed w.depth w.watched c x w.tracks (formed_tracks w formed) (member w c formed there)))
