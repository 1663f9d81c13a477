-- A record and its rows. Written and read again, rows are the same, since `take` undoes the padding; and a well-formed record is that of
-- its rows, since all that it does not use is zero. So good rows and well-formed records answer each other one to one.
use Prim.Native.Nat.{ℕ, zero, suc, ◌≤◌}
use mathlib.Core.Path.{◌≡◌, refl, sym, ap, ap₂, ◌∙◌, subst}
use mathlib.Core.Bool.{true, ◌&&◌}
use mathlib.Core.List.{List, [], ◌∷◌, map}
use native.Mathlib.Omega.{arith}
use lib.Dec.{eqb, leb, leb-zero}
use lib.IntN.{ℤ, pos, negsuc}
use lib.ListN.{length, take, length-map}
use borrow.Author.Tests.{eqb-true, eq-eqb, le-leb, leb-true}
use Rattle.readings_rules.specs.Ranges.{level_in_range}
use Rattle.watch_rules.specs.declared.Track.{Track}
use Rattle.watch_rules.specs.declared.Watch.{Watch}
use Rattle.watch_rules.specs.Lists.{distinct, every, pad_to}
use Rattle.readings_rules.specs.Channels.{channel_in_range}
use Rattle.watch_rules.specs.Limits.{capacity, room}
use Rattle.watch_rules.specs.Rows.{Row, row, channels}
use Rattle.watch_rules.specs.Record.{row_of, rows, track_of, unused, record_of, is_zero, levels_fine, track_fine, track_unused, tracks_fine, depth_fine, well_formed}
use Rattle.watch_rules.proofs.Depth.{depth_within}
use Rattle.watch_rules.proofs.Laws.{clash, and_left, and_right, and_both, take_pad_to, length_pad_to, take_none}
use Rattle.watch_rules.proofs.Good.{levels_ok, row_fine, Good, good_fits, few_levels, ranged_levels}

-- ---- rows written and read again

pub row_track : (r : Row) → row_of (track_of r) ≡ r
row_track r = ap (row r.channel) (take_pad_to capacity (pos 0) r.levels)

pub rows_tracks : (rs : List Row) → map row_of (map track_of rs) ≡ rs
rows_tracks [] = refl
rows_tracks (r ∷ rs) = ap₂ ◌∷◌ (row_track r) (rows_tracks rs)

pub rows_record : (d : ℕ) (rs : List Row) → rows (record_of d rs) ≡ rs
rows_record d rs =
    ap (λ (n : ℕ). map row_of (take n (pad_to room unused (map track_of rs)))) (sym (length-map rs track_of))
    ∙ ap (map row_of) (take_pad_to room unused (map track_of rs))
    ∙ rows_tracks rs

-- what is written is fine
levels_padded : (n : ℕ) (ls : List ℤ) → every level_in_range ls ≡ true → levels_fine (length ls) (pad_to n (pos 0) ls) ≡ true
levels_padded zero [] e = refl
levels_padded zero (x ∷ xs) e =
    and_both (and_left (level_in_range x) (every level_in_range xs) e)
    (subst (λ (l : List ℤ). levels_fine (length xs) l ≡ true) (zero_pad xs)
    (levels_padded zero xs (and_right (level_in_range x) (every level_in_range xs) e)))
  where
    zero_pad : (l : List ℤ) → pad_to zero (pos 0) l ≡ l
    zero_pad [] = refl
    zero_pad (y ∷ ys) = refl
levels_padded (suc n) [] e = levels_padded n [] refl
levels_padded (suc n) (x ∷ xs) e =
    and_both (and_left (level_in_range x) (every level_in_range xs) e) (levels_padded n xs (and_right (level_in_range x) (every level_in_range xs) e))

pub track_fine_lem : (d : ℕ) (r : Row) → d ≤ capacity → row_fine d r ≡ true → track_fine d (track_of r) ≡ true
track_fine_lem d r w e =
    let f : levels_ok d r.levels ≡ true = and_right (channel_in_range r.channel) (levels_ok d r.levels) e in
    let s : length r.levels ≤ d = few_levels d r.levels f in
    let k : length (pad_to capacity (pos 0) r.levels) ≡ capacity = length_pad_to capacity (pos 0) r.levels (omega arith) in
    and_both (and_left (channel_in_range r.channel) (levels_ok d r.levels) e)
    (and_both (and_both (le-leb (length r.levels) d s) (eq-eqb (length (pad_to capacity (pos 0) r.levels)) capacity k))
    (levels_padded capacity r.levels (ranged_levels d r.levels f)))

-- an unused track is fine, and recognised
pub unused_fine : (d : ℕ) → d ≤ capacity → track_unused d unused ≡ true
unused_fine d w = track_fine_lem d (row 0 []) w (and_both (leb-zero d) refl)

tracks_padded : (d n : ℕ) (rs : List Row) → d ≤ capacity → every (row_fine d) rs ≡ true → length rs ≤ n
    → tracks_fine d (length rs) (pad_to n unused (map track_of rs)) ≡ true
tracks_padded d zero [] w e h = refl
tracks_padded d zero (r ∷ rs) w e h = absurd (omega arith)
tracks_padded d (suc n) [] w e h = and_both (unused_fine d w) (tracks_padded d n [] w refl (omega arith))
tracks_padded d (suc n) (r ∷ rs) w e h =
    and_both (track_fine_lem d r w (and_left (row_fine d r) (every (row_fine d) rs) e))
    (tracks_padded d n rs w (and_right (row_fine d r) (every (row_fine d) rs) e) (omega arith))

-- ---- a well-formed record is that of its rows, and they are good

zero_is : (x : ℤ) → is_zero x ≡ true → x ≡ pos 0
zero_is (pos n) e = ap pos (eqb-true n 0 e)
zero_is (negsuc n) e = clash e refl

pub record LevelsRead (n : ℕ) (ls : List ℤ) : Type 0 where
  pub padded : pad_to (length ls) (pos 0) (take n ls) ≡ ls
  pub counted : length (take n ls) ≡ n
  pub ranged : every level_in_range (take n ls) ≡ true
  pub within : n ≤ length ls

pub levels_read : (n : ℕ) (ls : List ℤ) → levels_fine n ls ≡ true → LevelsRead n ls
levels_read zero [] e = record { padded = refl; counted = refl; ranged = refl; within = omega arith }
levels_read (suc n) [] e = clash e refl
levels_read zero (x ∷ xs) e =
    let i : LevelsRead zero xs = levels_read zero xs (and_right (is_zero x) (levels_fine zero xs) e) in
    record {
      padded = ap₂ ◌∷◌ (sym (zero_is x (and_left (is_zero x) (levels_fine zero xs) e))) (ap (pad_to (length xs) (pos 0)) (sym (take_none xs)) ∙ i.padded);
      counted = refl;
      ranged = refl;
      within = omega arith;
    }
levels_read (suc n) (x ∷ xs) e =
    let i : LevelsRead n xs = levels_read n xs (and_right (level_in_range x) (levels_fine n xs) e) in
    record {
      padded = ap (◌∷◌ x) i.padded;
      counted = ap suc i.counted;
      ranged = and_both (and_left (level_in_range x) (levels_fine n xs) e) i.ranged;
      within = omega (arith, i.within);
    }

pub track_path : {t u : Track} → t.channel ≡ u.channel → t.count ≡ u.count → t.levels ≡ u.levels → t ≡ u
track_path p q r = λ i. record { channel = p i; count = q i; levels = r i }

pub record TrackRead (d : ℕ) (t : Track) : Type 0 where
  pub back : track_of (row_of t) ≡ t
  pub fine : row_fine d (row_of t) ≡ true

module _ (d : ℕ) (t : Track) (fine : track_fine d t ≡ true) where
  inner : ((leb t.count d && eqb (length t.levels) capacity) && levels_fine t.count t.levels) ≡ true
  inner = and_right (channel_in_range t.channel) _ fine

  outer : (leb t.count d && eqb (length t.levels) capacity) ≡ true
  outer = and_left (leb t.count d && eqb (length t.levels) capacity) _ inner

  pub track_count : t.count ≤ d
  track_count = leb-true t.count d (and_left (leb t.count d) (eqb (length t.levels) capacity) outer)

  pub track_long : length t.levels ≡ capacity
  track_long = eqb-true (length t.levels) capacity (and_right (leb t.count d) (eqb (length t.levels) capacity) outer)

  pub track_levels_fine : levels_fine t.count t.levels ≡ true
  track_levels_fine = and_right (leb t.count d && eqb (length t.levels) capacity) _ inner

  pub track_levels : LevelsRead t.count t.levels
  track_levels = levels_read t.count t.levels track_levels_fine

  pub track_read : TrackRead d t
  track_read =
      let i : LevelsRead t.count t.levels = track_levels in
      let s : length (take t.count t.levels) ≤ d = omega (arith, i.counted, track_count) in
      record {
        back =
            track_path refl i.counted
            (ap (λ (n : ℕ). pad_to n (pos 0) (take t.count t.levels)) (sym track_long) ∙ i.padded);
        fine =
            and_both (and_left (channel_in_range t.channel) _ fine)
            (and_both (le-leb (length (take t.count t.levels)) d s) i.ranged);
      }

pub unused_read : (d : ℕ) (t : Track) → track_unused d t ≡ true → t ≡ unused
unused_read d t e =
    let z : (eqb t.channel 0 && eqb t.count 0) ≡ true = and_left (eqb t.channel 0 && eqb t.count 0) _ e in
    let c : t.channel ≡ 0 = eqb-true t.channel 0 (and_left (eqb t.channel 0) _ z) in
    let n : t.count ≡ 0 = eqb-true t.count 0 (and_right (eqb t.channel 0) _ z) in
    let k : take t.count t.levels ≡ [] = ap (λ (m : ℕ). take m t.levels) n ∙ take_none t.levels in
    sym (track_read d t (and_right (eqb t.channel 0 && eqb t.count 0) _ e)).back
    ∙ ap₂ (λ (a : ℕ) (l : List ℤ). track_of (row a l)) c k

pub record TracksRead (d n : ℕ) (ts : List Track) : Type 0 where
  pub padded : pad_to (length ts) unused (map track_of (map row_of (take n ts))) ≡ ts
  pub counted : length (map row_of (take n ts)) ≡ n
  pub fine : every (row_fine d) (map row_of (take n ts)) ≡ true
  pub within : n ≤ length ts

pub tracks_read : (d n : ℕ) (ts : List Track) → tracks_fine d n ts ≡ true → TracksRead d n ts
tracks_read d zero [] e = record { padded = refl; counted = refl; fine = refl; within = omega arith }
tracks_read d (suc n) [] e = clash e refl
tracks_read d zero (t ∷ ts) e =
    let i : TracksRead d zero ts = tracks_read d zero ts (and_right (track_unused d t) (tracks_fine d zero ts) e) in
    record {
      padded =
          ap₂ ◌∷◌ (sym (unused_read d t (and_left (track_unused d t) (tracks_fine d zero ts) e)))
          (ap (λ (l : List Track). pad_to (length ts) unused (map track_of (map row_of l))) (sym (take_none ts)) ∙ i.padded);
      counted = refl;
      fine = refl;
      within = omega arith;
    }
tracks_read d (suc n) (t ∷ ts) e =
    let i : TracksRead d n ts = tracks_read d n ts (and_right (track_fine d t) (tracks_fine d n ts) e) in
    let r : TrackRead d t = track_read d t (and_left (track_fine d t) (tracks_fine d n ts) e) in
    record {
      padded = ap₂ ◌∷◌ r.back i.padded;
      counted = ap suc i.counted;
      fine = and_both r.fine i.fine;
      within = omega (arith, i.within);
    }

pub watch_path : {v w : Watch} → v.watched ≡ w.watched → v.depth ≡ w.depth → v.tracks ≡ w.tracks → v ≡ w
watch_path p d q = λ i. record { watched = p i; depth = d i; tracks = q i }

pub record Read (w : Watch) : Type 0 where
  pub back : record_of w.depth (rows w) ≡ w
  pub good : Good w.depth (rows w)

pub read_record : (w : Watch) → well_formed w ≡ true → Read w
unfolding well_formed
read_record w e =
    let a : (eqb (length w.tracks) room && depth_fine w.watched w.depth) ≡ true =
    and_left (eqb (length w.tracks) room && depth_fine w.watched w.depth) _ e in
    let l : length w.tracks ≡ room = eqb-true (length w.tracks) room (and_left (eqb (length w.tracks) room) _ a) in
    let f : (tracks_fine w.depth w.watched w.tracks && distinct (channels (rows w))) ≡ true =
    and_right (eqb (length w.tracks) room && depth_fine w.watched w.depth) _ e in
    let i : TracksRead w.depth w.watched w.tracks =
    tracks_read w.depth w.watched w.tracks (and_left (tracks_fine w.depth w.watched w.tracks) _ f) in
    let s : length (rows w) ≤ room = omega (arith, l, i.within, i.counted) in
    record {
      back = watch_path i.counted refl (ap (λ (n : ℕ). pad_to n unused (map track_of (rows w))) (sym l) ∙ i.padded);
      good =
          record {
            depth = ap (λ (n : ℕ). depth_fine n w.depth) i.counted ∙ and_right (eqb (length w.tracks) room) _ a;
            short = le-leb (length (rows w)) room s;
            apart = and_right (tracks_fine w.depth w.watched w.tracks) _ f;
            fine = i.fine;
          };
    }

-- ---- good rows make a well-formed record

pub well_formed_record : (d : ℕ) (rs : List Row) → Good d rs → well_formed (record_of d rs) ≡ true
unfolding well_formed
well_formed_record d rs g =
    let l : length (pad_to room unused (map track_of rs)) ≡ room =
    length_pad_to room unused (map track_of rs) (subst (λ (n : ℕ). n ≤ room) (sym (length-map rs track_of)) (good_fits rs g)) in
    and_both (and_both (eq-eqb _ room l) g.depth)
    (and_both (tracks_padded d room rs (depth_within (length rs) d g.depth) g.fine (good_fits rs g))
    (ap (λ (q : List Row). distinct (channels q)) (rows_record d rs) ∙ g.apart))

-- ---- a track that is fine at a depth is fine at any for which there is room

pub fine_within : (d e : ℕ) (t : Track) → d ≤ e → track_fine d t ≡ true → track_fine e t ≡ true
fine_within d e t h f =
    and_both (and_left (channel_in_range t.channel) _ f)
    (and_both (and_both (le-leb t.count e (omega (arith, track_count d t f)))
    (eq-eqb (length t.levels) capacity (track_long d t f))) (track_levels_fine d t f))
