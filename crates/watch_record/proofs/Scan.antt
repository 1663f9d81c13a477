-- The tests of a record as the code makes them, from place to place: what is left to test from a place on, and one place more.
use Prim.Native.Nat.{ℕ, zero, suc, ◌+◌, ◌-◌, ◌≤◌, ◌<◌}
use mathlib.Core.Path.{◌≡◌, refl, sym, ap, ap₂, ◌∙◌}
use mathlib.Core.Bool.{Bool, true, false, not, cond, ◌&&◌, ◌||◌, or_assoc, and-true, and-false}
use mathlib.Core.List.{List, [], ◌∷◌, ◌++◌, map}
use native.Mathlib.Omega.{arith}
use native.Mathlib.Numerals.{add-one}
use lib.Dec.{eqb, leb, ltb}
use lib.IntN.{ℤ, pos, negsuc}
use lib.ListN.{length, drop, take, get_or, drop_of_length-le}
use lib.Seq.{drop-cons, take-suc, split_at}
use mir.Syntax.{w16}
use mir.Val.{SFits, of_z}
use borrow.Author.Tests.{eqb-true, ne_eqb, leb-true, leb-false, ltb-true, ltb-false}
use Rattle.watch_rules.specs.declared.Track.{Track}
use Rattle.watch_rules.specs.Lists.{mem, distinct}
use Rattle.readings_rules.specs.Ranges.{level_in_range}
use Rattle.watch_rules.specs.Rows.{channels}
use Rattle.watch_rules.specs.Record.{row_of, is_zero, levels_fine, track_fine, track_unused, tracks_fine}
use Rattle.watch_record.specs.Code.{nothing, channels_of}
use Rattle.watch_rules.proofs.Laws.{by_case, clash, and_left, and_right, and_both, not_is, eqb_sym, or_false_left, or_false_right}
use Rattle.watch_rules.proofs.Reach.{distinct_middle}

-- a list from a place on: what stands there, and the rest
from_place : {A : Type 0} (j : ℕ) (l : List A) (d : A) → j < length l → drop j l ≡ get_or l j d ∷ drop (j + 1) l
from_place j l d inside = drop-cons l j d inside ∙ ap (λ (k : ℕ). get_or l j d ∷ drop k l) (sym (add-one j))

-- ---- the tracks of a record: the first n fine, the others unused

-- one place more
pub one_place : (d n j : ℕ) (l : List Track) → j < length l
    → tracks_fine d (n - j) (drop j l)
    ≡ (cond (ltb j n) (track_fine d (get_or l j nothing)) (track_unused d (get_or l j nothing)) && tracks_fine d (n - (j + 1)) (drop (j + 1) l))
one_place d n j l inside = by_case (ltb j n) among after
  where
    rest : Bool → Bool
    rest b = cond b (track_fine d (get_or l j nothing)) (track_unused d (get_or l j nothing)) && tracks_fine d (n - (j + 1)) (drop (j + 1) l)

    among : ltb j n ≡ true → tracks_fine d (n - j) (drop j l) ≡ rest (ltb j n)
    among q =
        let e : n - j ≡ suc (n - (j + 1)) = omega (arith, ltb-true j n q) in
        ap₂ (tracks_fine d) e (from_place j l nothing inside) ∙ ap rest (sym q)

    after : ltb j n ≡ false → tracks_fine d (n - j) (drop j l) ≡ rest (ltb j n)
    after q =
        let e : n - j ≡ 0 = omega (arith, ltb-false j n q) in
        let k : 0 ≡ n - (j + 1) = omega (arith, ltb-false j n q) in
        ap₂ (tracks_fine d) e (from_place j l nothing inside)
        ∙ ap (λ (m : ℕ). track_unused d (get_or l j nothing) && tracks_fine d m (drop (j + 1) l)) k
        ∙ ap rest (sym q)

-- past the last of them: were there n?
pub at-end : (d n j : ℕ) (l : List Track) → length l ≤ j → tracks_fine d (n - j) (drop j l) ≡ leb n j
at-end d n j l h =
    by_case (leb n j)
    (λ q. let e : n - j ≡ 0 = omega (arith, leb-true n j q) in ap₂ (tracks_fine d) e (drop_of_length-le l h) ∙ sym q)
    (λ q. let e : n - j ≡ suc (n - (j + 1)) = omega (arith, leb-false n j q) in ap₂ (tracks_fine d) e (drop_of_length-le l h) ∙ sym q)

-- ---- the levels of a track: in the range, which 0 is too, and those beyond the count 0

zero_ranged : (x : ℤ) → is_zero x ≡ true → level_in_range x ≡ true
zero_ranged (pos n) e = ap (λ (k : ℕ). level_in_range (pos k)) (eqb-true n 0 e)
zero_ranged (negsuc n) e = clash e refl

-- the code asks of a level whether its bits are 0
pub bits_zero : (x : ℤ) → SFits w16 x → eqb (of_z w16 x) 0 ≡ is_zero x
bits_zero (pos n) f = refl
bits_zero (negsuc n) f = let h : of_z w16 (negsuc n) ≡ 0 → ⊥ = λ e. omega (arith, f.sfits) in ne_eqb (of_z w16 (negsuc n)) 0 h

-- one level more: n levels are used, and this is the one at place j
pub one-level : (n j : ℕ) (x : ℤ) (xs : List ℤ)
    → levels_fine (n - j) (x ∷ xs) ≡ ((level_in_range x && (ltb j n || is_zero x)) && levels_fine (n - (j + 1)) xs)
one-level n j x xs = by_case (ltb j n) among after
  where
    rest : Bool → Bool
    rest b = (level_in_range x && (b || is_zero x)) && levels_fine (n - (j + 1)) xs

    among : ltb j n ≡ true → levels_fine (n - j) (x ∷ xs) ≡ rest (ltb j n)
    among q =
        let e : n - j ≡ suc (n - (j + 1)) = omega (arith, ltb-true j n q) in
        ap (λ (m : ℕ). levels_fine m (x ∷ xs)) e
        ∙ ap (λ (b : Bool). b && levels_fine (n - (j + 1)) xs) (sym (and-true (level_in_range x)))
        ∙ ap rest (sym q)

    -- a level that is 0 lies in the range
    both : is_zero x ≡ (level_in_range x && is_zero x)
    both = by_case (is_zero x) (λ z. z ∙ sym (and_both (zero_ranged x z) z))
        (λ z. z ∙ sym (ap (λ (b : Bool). level_in_range x && b) z ∙ and-false (level_in_range x)))

    after : ltb j n ≡ false → levels_fine (n - j) (x ∷ xs) ≡ rest (ltb j n)
    after q =
        let e : n - j ≡ 0 = omega (arith, ltb-false j n q) in
        let k : 0 ≡ n - (j + 1) = omega (arith, ltb-false j n q) in
        ap (λ (m : ℕ). levels_fine m (x ∷ xs)) e
        ∙ ap₂ (λ (b : Bool) (m : ℕ). b && levels_fine m xs) both k
        ∙ ap rest (sym q)

-- past the last of them
pub levels_past : (n : ℕ) (l : List ℤ) → n ≡ 0 → length l ≡ 0 → levels_fine n l ≡ true
levels_past zero [] e h = refl
levels_past (suc n) l e h = absurd (omega arith)
levels_past zero (x ∷ l) e h = absurd (omega arith)

pub levels_lacking : (n : ℕ) (l : List ℤ) → length l < n → levels_fine n l ≡ false
levels_lacking zero l h = absurd (omega arith)
levels_lacking (suc n) [] h = refl
levels_lacking (suc n) (x ∷ xs) h = ap (λ (b : Bool). level_in_range x && b) (levels_lacking n xs (omega arith)) ∙ and-false (level_in_range x)

-- ---- channels that differ
pub channels_rows : (ts : List Track) → channels (map row_of ts) ≡ channels_of ts
channels_rows [] = refl
channels_rows (t ∷ ts) = ap (◌∷◌ t.channel) (channels_rows ts)

pub mem-append : (c : ℕ) (l m : List ℕ) → mem c (l ++ m) ≡ (mem c l || mem c m)
mem-append c [] m = refl
mem-append c (d ∷ l) m = ap (λ (b : Bool). eqb d c || b) (mem-append c l m) ∙ sym (or_assoc (eqb d c) (mem c l) (mem c m))

pub distinct_snoc : (l : List ℕ) (c : ℕ) → distinct l ≡ true → mem c l ≡ false → distinct (l ++ c ∷ []) ≡ true
distinct_snoc [] c e h = refl
distinct_snoc (d ∷ l) c e h =
    let a : mem d l ≡ false = not_is _ (and_left (not (mem d l)) (distinct l) e) in
    let q : eqb c d ≡ false = eqb_sym c d ∙ or_false_left (eqb d c) (mem c l) h in
    let m : mem d (l ++ c ∷ []) ≡ false = mem-append d l (c ∷ []) ∙ rw (a, q) in
    and_both (ap not m) (distinct_snoc l c (and_right (not (mem d l)) (distinct l) e) (or_false_right (eqb d c) (mem c l) h))

-- once a channel has come again, it stays so
pub distinct_again : (l : List ℕ) (c : ℕ) (m : List ℕ) → mem c l ≡ true → distinct (l ++ c ∷ m) ≡ false
distinct_again l c m h =
    by_case (distinct (l ++ c ∷ m))
    (λ e. clash h (distinct_middle c l m e))
    (λ e. e)

channels_append : (ts us : List Track) → channels_of (ts ++ us) ≡ channels_of ts ++ channels_of us
channels_append [] us = refl
channels_append (t ∷ ts) us = ap (◌∷◌ t.channel) (channels_append ts us)

-- one more track
pub channels_more : (ts : List Track) (i : ℕ) → i < length ts → channels_of (take (i + 1) ts) ≡ channels_of (take i ts) ++ (get_or ts i nothing).channel ∷ []
channels_more ts i h =
    ap (λ (k : ℕ). channels_of (take k ts)) (add-one i)
    ∙ ap channels_of (take-suc ts i nothing h)
    ∙ channels_append (take i ts) (get_or ts i nothing ∷ [])

-- all of them, round one of them
pub channels_round : (ts : List Track) (i : ℕ) → i < length ts
    → channels_of ts ≡ channels_of (take i ts) ++ (get_or ts i nothing).channel ∷ channels_of (drop (suc i) ts)
channels_round ts i h = ap channels_of (split_at ts i nothing h) ∙ channels_append (take i ts) (get_or ts i nothing ∷ drop (suc i) ts)
