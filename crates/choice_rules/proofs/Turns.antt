-- What the two loops of `walk` keep, and how each turn goes on. The scan keeps the least key from `from` on among those passed; the outer loop keeps
-- that the walk over what is left of the order, with the number tried so far, comes to what the walk over all of it does.
use Prim.Native.Nat.{ℕ, suc, ◌+◌, ◌/◌, ◌%◌, ◌≤◌, ◌<◌, min}
use mathlib.Core.Path.{◌≡◌, refl, sym, ap, ◌∙◌, subst}
use mathlib.Core.Bool.{Bool, true, false, cond}
use mathlib.Core.List.Memᴰ
use mathlib.Core.List.{List, [], ◌∷◌, Memᴰ}
use mathlib.Core.Logic.{◌⊎◌, inl, inr, ⊎_elim}
use native.Mathlib.Nat.{not-suc-le-zero, eq-or-lt_of_le}
use native.Mathlib.Numerals.{add-one}
use native.Mathlib.Omega.{arith}
use lib.ListN.{length, get_or}
use lib.Dec.{leb, ltb}
use borrow.Author.Tests.{ne_eqb, leb-true, leb-false, le-leb, lt-leb, ltb-true, ltb-false}
use Rattle.sweep_rules.specs.Map.{channels}
use Rattle.sweep_rules.proofs.Tests.{which}
use Rattle.choice_rules.specs.Order.{keep, beginning, sort_by}
use Rattle.choice_rules.specs.Choose.{not_read, suitable, outcome_at, Chosen, camp, read, no_beam}
use Rattle.choice_rules.specs.Code.{All, Keyed, key_step, passed, lesser_of, near_keys, walk_over, walked, Walkable}
use Rattle.choice_rules.proofs.Lists.{all-at, at_all, mem_at, length_keep, all_sort, mem_sort, length_sort, sort_sorted, rising, none_from, all_left, next_from}

-- ---- the keys in order

module _ (ks : List ℕ) where
  abbrev pub in_order : List ℕ
  in_order = sort_by ltb ks

  -- what is left of them from a number on
  abbrev pub rest_from : ℕ → List ℕ
  rest_from n = keep (leb n) in_order

  pub rest_length : (n : ℕ) → length (rest_from n) ≤ length ks
  rest_length n = let a = length_keep (leb n) in_order in let b = length_sort ltb ks in omega arith

  pub rest_start : rest_from 0 ≡ in_order
  rest_start = all_left 0 in_order (at_all (λ k. 0 ≤ k) in_order (λ i h. omega arith))

  pub rest_none : (n : ℕ) → All (λ k. k < n) ks → rest_from n ≡ []
  rest_none n a = none_from n in_order (all_sort ltb (λ k. k < n) ks a)

  pub rest_next : Keyed ks → (n k : ℕ) → Memᴰ k ks → n ≤ k → All (λ j. n ≤ j → k ≤ j) ks → rest_from n ≡ k ∷ rest_from (suc k)
  rest_next K n k i h a = next_from n k in_order (sort_sorted ltb rising ks K.apart) (mem_sort ltb k ks i) h (all_sort ltb (λ j. n ≤ j → k ≤ j) ks a)

-- ---- the scan: `best` is the least key from `from` on among the first i of the list, or none

pub record Least (list : List ℕ) (from best i : ℕ) : Type 0 where
  pub low : (j : ℕ) → j < i → from ≤ get_or list j 0 → best ≤ get_or list j 0
  pub is : (passed ≤ best) ⊎ ((j : ℕ) × (j < length list) × (get_or list j 0 ≡ best) × (from ≤ best))

one_more_lem : (j i : ℕ) → j < i + 1 → (j ≡ i) ⊎ (j < i)
one_more_lem j i h = let g : j ≤ i = omega arith in eq-or-lt_of_le g

pub least_turn : {list : List ℕ} {from best i : ℕ} → Least list from best i → i < length list → Least list from (lesser_of from (get_or list i 0) best) (i + 1)
least_turn {list} {from} {best} {i} L h =
    let k = get_or list i 0 in
    ⊎_elim
    (λ (e : ltb k from ≡ true).
    let b = ltb-true k from e in
    rw e
    (record {
      low = λ j l g. ⊎_elim (λ (q : j ≡ i). let f = ap (λ (x : ℕ). get_or list x 0) q in absurd (not-suc-le-zero {n = 0} (omega arith))) (λ (n : j < i). let t = L.low j n g in omega arith) (one_more_lem j i l);
      is = ⊎_elim
          (λ (t : ltb (k + passed) best ≡ true). let s = ltb-true (k + passed) best t in inl (omega arith))
          (λ (t : ltb (k + passed) best ≡ false). let s = ltb-false (k + passed) best t in let same : min (k + passed) best ≡ best = omega arith in rw same L.is)
          (which (ltb (k + passed) best));
    }))
    (λ (e : ltb k from ≡ false).
    let b = ltb-false k from e in
    rw e
    (record {
      low = λ j l g. ⊎_elim (λ (q : j ≡ i). let f = ap (λ (x : ℕ). get_or list x 0) q in omega arith) (λ (n : j < i). let t = L.low j n g in omega arith) (one_more_lem j i l);
      is = ⊎_elim
          (λ (t : ltb k best ≡ true). let s = ltb-true k best t in inr (i, h, omega arith, omega arith))
          (λ (t : ltb k best ≡ false). let s = ltb-false k best t in let same : min k best ≡ best = omega arith in rw same L.is)
          (which (ltb k best));
    }))
    (which (ltb k from))

-- ---- the walk over what is left

-- the depth of the first key
top_of : List ℕ → ℕ
top_of [] = 0
top_of (k ∷ ks) = k / key_step

near_top : (m : ℕ) (ks : List ℕ) → near_keys m ks ≡ beginning (λ j. leb (j / key_step) (top_of ks + m)) ks
unfolding near_keys top_of beginning
near_top m [] = refl
near_top m (k ∷ ks) = refl

module _ (keys : List ℕ) (m : ℕ) (o : List ℕ) where
  -- what is left of the keys in order from a number on
  abbrev pub left_from : ℕ → List ℕ
  left_from = rest_from keys

  pub top : ℕ
  top = top_of (in_order keys)

  is_near : ℕ → Bool
  is_near j = leb (j / key_step) (top + m)

  -- what the walk from a number on comes to, with n tried
  pub from_here : ℕ → ℕ → Chosen
  from_here from n = walk_over (outcome_at o) (beginning is_near (left_from from)) n

  -- the outer loop's invariant
  pub record Walked (from strongest tried : ℕ) : Type 0 where
    pub room : tried + length (left_from from) ≤ channels
    pub start : tried ≡ 0 → from ≡ 0
    pub tops : (tried ≡ 0 → ⊥) → strongest ≡ top
    pub same : from_here from tried ≡ walked keys m o

  -- k is the next key of the order
  pub record NextKey (from k : ℕ) : Type 0 where
    pub channel : k % key_step < channels
    pub small : k < passed
    pub rest : left_from from ≡ k ∷ left_from (suc k)

module _ {ks : List ℕ} {m : ℕ} {o : List ℕ} (W : Walkable ks m o) where
  pub small_at : (i : ℕ) → i < length ks → (get_or ks i 0 % key_step < channels) × (get_or ks i 0 < passed)
  small_at i h = all-at (λ k. (k % key_step < channels) × (k < passed)) ks W.keyed.small i h

  -- the scan is at its end: nothing is left, or the next key is found
  least_none : {from best i : ℕ} → Least ks from best i → i ≡ length ks → passed ≤ best → left_from ks m o from ≡ []
  least_none {from} {best} {i} L e q = rest_none ks from (at_all (λ k. k < from) ks (λ j h.
      let s = (small_at j h).1 in
      ⊎_elim
      (λ (t : leb from (get_or ks j 0) ≡ true). let b = L.low j (omega arith) (leb-true from (get_or ks j 0) t) in absurd (not-suc-le-zero {n = 0} (omega arith)))
      (λ (t : leb from (get_or ks j 0) ≡ false). leb-false from (get_or ks j 0) t)
      (which (leb from (get_or ks j 0)))))

  pub least_next : {from best i : ℕ} → Least ks from best i → i ≡ length ks → best < passed → NextKey ks m o from best
  least_next {from} {best} {i} L e q = ⊎_elim
      (λ (z : passed ≤ best). absurd (not-suc-le-zero {n = 0} (omega arith)))
      (λ (w : (j : ℕ) × (j < length ks) × (get_or ks j 0 ≡ best) × (from ≤ best)).
      let s = subst (λ (k : ℕ). (k % key_step < channels) × (k < passed)) w.2 (small_at w.0 w.1) in
      record {
        channel = s.0;
        small = s.1;
        rest = rest_next ks W.keyed from best
            (Memᴰ.cast (sym w.2) (mem_at ks w.0 w.1))
            w.3
            (at_all (λ j. from ≤ j → best ≤ j) ks (λ j h g. L.low j (omega arith) g));
      })
      L.is

  pub walked_start : Walked ks m o 0 0 0
  unfolding from_here is_near top walked
  walked_start = record {
    room = let a = rest_length ks 0 in omega (arith, W.few);
    start = λ e. refl;
    tops = λ n. absurd (n refl);
    same = ap (λ (l : List ℕ). walk_over (outcome_at o) (beginning (is_near ks m o) l) 0) (rest_start ks) ∙ sym (ap (λ (l : List ℕ). walk_over (outcome_at o) l 0) (near_top m (in_order ks)));
  }

  pub top_small : top ks m o ≤ passed / key_step
  unfolding top top_of
  top_small = by (in_order ks) (all_sort ltb (λ k. (k % key_step < channels) × (k < passed)) ks W.keyed.small)
    where
      by : (js : List ℕ) → All (λ k. (k % key_step < channels) × (k < passed)) js → top_of js ≤ passed / key_step
      by [] a = omega arith
      by (k ∷ js) a = omega (arith, a.0.1)

  -- nothing is left
  pub says_end : {from strongest tried best i : ℕ} → Walked ks m o from strongest tried → Least ks from best i → i ≡ length ks → passed ≤ best → no_beam tried ≡ walked ks m o
  unfolding from_here beginning walk_over
  says_end {from} {tried = tried} D L e q = sym (ap (λ (l : List ℕ). walk_over (outcome_at o) (beginning (is_near ks m o) l) tried) (least_none L e q)) ∙ D.same

  -- a turn: the next key k
  module _ {from strongest tried k : ℕ} (D : Walked ks m o from strongest tried) (N : NextKey ks m o from k) where
    -- the first key found is the strongest
    pub first_top : tried ≡ 0 → k / key_step ≡ top ks m o
    unfolding top top_of
    first_top e = ap top_of (sym N.rest ∙ ap (left_from ks m o) (D.start e) ∙ rest_start ks)

    pub less : length (left_from ks m o (k + 1)) < length (left_from ks m o from)
    less = let e = ap length N.rest in let f = ap (λ (x : ℕ). length (left_from ks m o x)) (add-one k) in omega arith

    -- with the strongest as it is now
    module _ {now : ℕ} (t : now ≡ top ks m o) where
      far : now + m < k / key_step → is_near ks m o k ≡ false
      unfolding is_near
      far h = lt-leb (k / key_step) (top ks m o + m) (omega arith)

      near : k / key_step ≤ now + m → is_near ks m o k ≡ true
      unfolding is_near
      near h = le-leb (k / key_step) (top ks m o + m) (omega arith)

      here : from_here ks m o from tried ≡ walk_over (outcome_at o) (cond (is_near ks m o k) (k ∷ beginning (is_near ks m o) (left_from ks m o (suc k))) []) tried
      unfolding from_here beginning
      here = ap (λ (l : List ℕ). walk_over (outcome_at o) (beginning (is_near ks m o) l) tried) N.rest

      pub says_far : now + m < k / key_step → no_beam tried ≡ walked ks m o
      unfolding walk_over
      says_far h = sym (here ∙ rw (far h)) ∙ D.same

      pub says_read : k / key_step ≤ now + m → outcome_at o (k % key_step) ≡ not_read → read (k % key_step) (tried + 1) ≡ walked ks m o
      unfolding walk_over
      says_read h q = ap (read (k % key_step)) (add-one tried) ∙ sym (here ∙ rw (near h, q)) ∙ D.same

      pub says_camp : k / key_step ≤ now + m → outcome_at o (k % key_step) ≡ suitable → camp (k % key_step) (tried + 1) ≡ walked ks m o
      unfolding walk_over
      says_camp h q = ap (camp (k % key_step)) (add-one tried) ∙ sym (here ∙ rw (near h, q)) ∙ D.same

      pub walked_on : k / key_step ≤ now + m → (outcome_at o (k % key_step) ≡ not_read → ⊥) → (outcome_at o (k % key_step) ≡ suitable → ⊥) → Walked ks m o (k + 1) now (tried + 1)
      unfolding walk_over from_here
      walked_on h p q = record {
        room = let l = less in let r = D.room in omega arith;
        start = λ e. absurd (not-suc-le-zero {n = 0} (omega arith));
        tops = λ e. t;
        same =
            ap (from_here ks m o (k + 1)) (add-one tried) ∙ ap (λ (x : ℕ). from_here ks m o x (suc tried)) (add-one k)
            ∙ sym (here ∙ rw (near h, ne_eqb (outcome_at o (k % key_step)) not_read p, ne_eqb (outcome_at o (k % key_step)) suitable q)) ∙ D.same;
      }
