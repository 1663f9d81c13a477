-- The place of a channel among tracks: that of the first track that has it, where there is one, and as many as there are where there is none.
-- Sought from place to place, it is at each place as far on as among the tracks from there.
use Prim.Native.Nat.{ℕ, suc, ◌+◌, ◌≤◌, ◌<◌}
use mathlib.Core.Path.{◌≡◌, refl, sym, ap, ◌∙◌}
use mathlib.Core.Bool.{Bool, true, false}
use mathlib.Core.List.{List, [], ◌∷◌}
use mathlib.Core.Logic.{◌⊎◌, ⊎_elim}
use native.Mathlib.Omega.{arith}
use native.Mathlib.Numerals.{add-one}
use lib.Dec.{eqb, ltb}
use lib.ListN.{drop, take, get_or, length, length-take, drop_of_length-le}
use lib.Seq.{drop-cons, get_or-take}
use borrow.Author.Tests.{eq-eqb, ne_eqb, ltb-true, ltb-false}
use Rattle.std.specs.Prelude.{Some, None}
use Rattle.std.specs.Option.{is_some}
use Rattle.std.specs.List.{position, position_or_len}
use Rattle.watch_rules.specs.declared.Track.{Track}
use Rattle.watch_rules.specs.Lists.{mem}
use Rattle.watch_rules.proofs.Laws.{by_case, clash, or_true_right, or_false_left, or_false_right}
use Rattle.watch_record.specs.Code.{nothing, channels_of}

-- a track has a channel
abbrev pub has : ℕ → Track → Bool
has c t = eqb t.channel c

abbrev pub place_of : ℕ → List Track → ℕ
place_of c ts = position_or_len (has c) ts

-- a place below the number of tracks is that of a channel among them
place_mem : (c : ℕ) (ts : List Track) → mem c (channels_of ts) ≡ true → place_of c ts < length ts
place_mem c [] h = clash h refl
place_mem c (t ∷ ts) h =
    by_case (eqb t.channel c)
    (λ q. rw q (omega arith))
    (λ q. rw q (let e = place_mem c ts (or_true_right (eqb t.channel c) (mem c (channels_of ts)) h q) in omega arith))

place_not_mem : (c : ℕ) (ts : List Track) → mem c (channels_of ts) ≡ false → place_of c ts ≡ length ts
place_not_mem c [] h = refl
place_not_mem c (t ∷ ts) h =
    rw (or_false_left (eqb t.channel c) (mem c (channels_of ts)) h)
    (let e = place_not_mem c ts (or_false_right (eqb t.channel c) (mem c (channels_of ts)) h) in omega arith)

pub place-within : (c : ℕ) (ts : List Track) → place_of c ts < length ts → mem c (channels_of ts) ≡ true
place-within c ts h = by_case (mem c (channels_of ts)) (λ e. e) (λ e. absurd (omega (arith, place_not_mem c ts e)))

pub place_without : (c : ℕ) (ts : List Track) → length ts ≤ place_of c ts → mem c (channels_of ts) ≡ false
place_without c ts h = by_case (mem c (channels_of ts)) (λ e. absurd (omega (arith, place_mem c ts e))) (λ e. e)

-- what the search answers
pub place_listed : (c : ℕ) (ts : List Track) → is_some (position (has c) ts) ≡ mem c (channels_of ts)
place_listed c ts =
    by_case (ltb (place_of c ts) (length ts))
    (λ q. rw q (sym (place-within c ts (ltb-true (place_of c ts) (length ts) q))))
    (λ q. rw q (sym (place_without c ts (ltb-false (place_of c ts) (length ts) q))))

pub place_some : (c p : ℕ) (ts : List Track) → Some p ≡ position (has c) ts → (p ≡ place_of c ts) × (place_of c ts < length ts)
place_some c p ts e =
    by_case (ltb (place_of c ts) (length ts))
    (λ q. (let s : Some p ≡ Some (place_of c ts) = rw q at e in cc, ltb-true (place_of c ts) (length ts) q))
    (λ q. let s : Some p ≡ None = rw q at e in cc)

pub place_none : (c : ℕ) (ts : List Track) → None ≡ position (has c) ts → mem c (channels_of ts) ≡ false
place_none c ts e = sym (place_listed c ts) ∙ ap is_some (sym e)

-- a step of the search, at a track that has the channel and at one that has not
module _ (c n i : ℕ) (ts : List Track) (below : i < n) (inside : i < length ts) where
  split : drop i (take n ts) ≡ get_or ts i nothing ∷ drop (suc i) (take n ts)
  split =
      drop-cons (take n ts) i nothing (omega (arith, length-take n ts))
      ∙ ap (λ (t : Track). t ∷ drop (suc i) (take n ts)) (get_or-take n ts i nothing below)

  pub place_found : (get_or ts i nothing).channel ≡ c → place_of c (drop i (take n ts)) ≡ 0
  place_found e = ap (place_of c) split ∙ rw (eq-eqb (get_or ts i nothing).channel c e)

  pub place_missed : ((get_or ts i nothing).channel ≡ c → ⊥) → place_of c (drop i (take n ts)) ≡ 1 + place_of c (drop (i + 1) (take n ts))
  place_missed e = ap (place_of c) split ∙ rw (ne_eqb (get_or ts i nothing).channel c e, add-one)

-- past the last of them
pub place-past : (c n i : ℕ) (ts : List Track) → (i ≡ n) ⊎ (length ts ≤ i) → place_of c (drop i (take n ts)) ≡ 0
place-past c n i ts h =
    let l : length (take n ts) ≤ i = ⊎_elim (λ e. omega (arith, length-take n ts)) (λ k. omega (arith, length-take n ts)) h in
    ap (place_of c) (drop_of_length-le (take n ts) l)
