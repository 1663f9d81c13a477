-- A channel's track is at its place, and it is the track of the channel's row. One track more stands behind those in use.
use Prim.Native.Nat.{ℕ, zero, suc, ◌≤◌, ◌<◌, ◌+◌}
use mathlib.Core.Path.{◌≡◌, refl, sym, ap, ◌∙◌}
use mathlib.Core.Bool.{true, false}
use mathlib.Core.List.{List, [], ◌∷◌, ◌++◌, map}
use native.Mathlib.Omega.{arith}
use lib.Dec.{eqb}
use lib.ListN.{length, take, get_or, set}
use lib.Seq.{length-take-le}
use borrow.Author.Tests.{eqb-true}
use Rattle.watch_rules.specs.declared.Track.{Track}
use Rattle.watch_rules.specs.Lists.{mem, pad_to}
use Rattle.watch_rules.specs.Rows.{row, levels_of}
use Rattle.watch_rules.specs.Record.{row_of, track_of, tracks_fine, track_fine}
use Rattle.watch_rules.proofs.Laws.{by_case, clash, and_left, and_right, or_true_right}
use Rattle.watch_rules.proofs.Encode.{track_read, tracks_read}
use Rattle.watch_record.specs.Code.{nothing, channels_of}
use Rattle.watch_record.proofs.Places.{place_of, place-within, place_without}

pub one-more : (k : ℕ) → 1 + k ≡ suc k
one-more k = omega arith

-- the track at the place of a channel is that of the channel's row
pub track_at : (d n c : ℕ) (ts : List Track) → tracks_fine d n ts ≡ true → mem c (channels_of (take n ts)) ≡ true
    → track_of (row c (levels_of c (map row_of (take n ts)))) ≡ get_or ts (place_of c (take n ts)) nothing
track_at d zero c [] e h = clash h refl
track_at d zero c (t ∷ ts) e h = clash h refl
track_at d (suc n) c [] e h = clash e refl
track_at d (suc n) c (t ∷ ts) e h =
    by_case (eqb t.channel c)
    (λ q. rw q (ap (λ (k : ℕ). track_of (row k (take t.count t.levels))) (sym (eqb-true t.channel c q))
    ∙ (track_read d t (and_left (track_fine d t) (tracks_fine d n ts) e)).back))
    (λ q. rw (q, one-more)
    (track_at d n c ts (and_right (track_fine d t) (tracks_fine d n ts) e) (or_true_right (eqb t.channel c) (mem c (channels_of (take n ts))) h q)))

-- a place below n is that of a channel among them, n that of any other
module _ (d n c : ℕ) (ts : List Track) (fine : tracks_fine d n ts ≡ true) where
  as_many_lem : length (take n ts) ≡ n
  as_many_lem = length-take-le n ts (tracks_read d n ts fine).within

  pub place_among : place_of c (take n ts) < n → mem c (channels_of (take n ts)) ≡ true
  place_among h = place-within c (take n ts) (omega (arith, as_many_lem))

  pub place_outside : n ≤ place_of c (take n ts) → mem c (channels_of (take n ts)) ≡ false
  place_outside h = place_without c (take n ts) (omega (arith, as_many_lem))

pub place_most : (c n : ℕ) (ts : List Track) → place_of c (take n ts) ≤ n
place_most c zero [] = omega arith
place_most c zero (t ∷ ts) = omega arith
place_most c (suc n) [] = omega arith
place_most c (suc n) (t ∷ ts) =
    by_case (eqb t.channel c)
    (λ q. rw q (omega arith))
    (λ q. rw q (let e = place_most c n ts in omega arith))

-- one more behind those that are padded
pub pad_to_snoc : {A : Type 0} (n : ℕ) (d : A) (xs : List A) (a : A) → length xs < n → set (pad_to n d xs) (length xs) a ≡ pad_to n d (xs ++ a ∷ [])
pad_to_snoc zero d xs a h = absurd (omega arith)
pad_to_snoc (suc n) d [] a h = refl
pad_to_snoc (suc n) d (x ∷ xs) a h = ap (◌∷◌ x) (pad_to_snoc n d xs a (omega arith))
