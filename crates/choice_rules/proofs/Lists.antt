-- Lists of numbers: the part that passes a test, the beginning, and sorting by any order. A sorted list is one where each comes before all that
-- follow it; inserting into one keeps that, and the least number that is left comes next.
use Prim.Native.Nat.{ℕ, zero, suc, ◌+◌, ◌≤◌, ◌<◌}
use mathlib.Core.Path.{◌≡◌, refl, sym, ap, ◌∙◌, subst}
use mathlib.Core.Bool.{Bool, true, false, cond}
use mathlib.Core.List.{List, [], ◌∷◌, map, Memᴰ, IsPrefix}
use mathlib.Core.Logic.{◌⊎◌, inl, inr, ⊎_elim}
use native.Mathlib.Nat.{not-suc-le-zero, eq-or-lt_of_le}
use native.Mathlib.Omega.{arith}
use lib.ListN.{length, get_or}
use lib.Dec.{leb, ltb}
use borrow.Author.Tests.{le-leb, lt-leb, leb-true, leb-false, lt-ltb, ltb-true, ltb-false}
use Rattle.sweep_rules.proofs.Tests.{which}
use Rattle.choice_rules.specs.Order.{from, keep, beginning, insert_by, sort_by}
use Rattle.choice_rules.specs.Code.{All, Apart}

-- ---- of each element

pub all_map : {P Q : ℕ → Type 0} (cs : List ℕ) → ((c : ℕ) → P c → Q c) → All P cs → All Q cs
all_map [] f a = tt
all_map (c ∷ cs) f a = (f c a.0, all_map cs f a.1)

pub all_mem : (P : ℕ → Type 0) (cs : List ℕ) → All P cs → (c : ℕ) → Memᴰ c cs → P c
all_mem P [] a c m = absurd (mathlib.Core.List.Memᴰ.not-nil m)
all_mem P (d ∷ ds) a c m = ⊎_elim (λ (e : c ≡ d). subst P (sym e) a.0) (λ (n : Memᴰ c ds). all_mem P ds a.1 c n) (mathlib.Core.List.Memᴰ.cases_cons m)

pub mem_all : (P : ℕ → Type 0) (cs : List ℕ) → ((c : ℕ) → Memᴰ c cs → P c) → All P cs
mem_all P [] f = tt
mem_all P (c ∷ cs) f = (f c (mathlib.Core.List.Memᴰ.head refl), mem_all P cs (λ d m. f d (mathlib.Core.List.Memᴰ.tail m)))

-- by place
pub all-at : (P : ℕ → Type 0) (cs : List ℕ) → All P cs → (i : ℕ) → i < length cs → P (get_or cs i 0)
all-at P [] a i h = absurd (not-suc-le-zero h)
all-at P (c ∷ cs) a zero h = a.0
all-at P (c ∷ cs) a (suc i) h = all-at P cs a.1 i (omega arith)

pub at_all : (P : ℕ → Type 0) (cs : List ℕ) → ((i : ℕ) → i < length cs → P (get_or cs i 0)) → All P cs
at_all P [] f = tt
at_all P (c ∷ cs) f = (f 0 (omega arith), at_all P cs (λ i h. f (suc i) (omega arith)))

pub mem_at : (cs : List ℕ) (i : ℕ) → i < length cs → Memᴰ (get_or cs i 0) cs
mem_at [] i h = absurd (not-suc-le-zero h)
mem_at (c ∷ cs) zero h = mathlib.Core.List.Memᴰ.head refl
mem_at (c ∷ cs) (suc i) h = mathlib.Core.List.Memᴰ.tail (mem_at cs i (omega arith))

-- ---- the part that passes a test

module _ (p : ℕ → Bool) where
  pub keep_yes : (c : ℕ) (cs : List ℕ) → p c ≡ true → keep p (c ∷ cs) ≡ c ∷ keep p cs
  unfolding keep
  keep_yes c cs e = rw e

  pub keep_no : (c : ℕ) (cs : List ℕ) → p c ≡ false → keep p (c ∷ cs) ≡ keep p cs
  unfolding keep
  keep_no c cs e = rw e

  -- the cases of a list's first, for what is shown of the part
  keep_cases : (Q : List ℕ → Type 0) (c : ℕ) (cs : List ℕ) → (p c ≡ true → Q (c ∷ keep p cs)) → (p c ≡ false → Q (keep p cs)) → Q (keep p (c ∷ cs))
  keep_cases Q c cs f g = ⊎_elim
      (λ (e : p c ≡ true). subst Q (sym (keep_yes c cs e)) (f e))
      (λ (e : p c ≡ false). subst Q (sym (keep_no c cs e)) (g e))
      (which (p c))

  pub all_keep : (P : ℕ → Type 0) (cs : List ℕ) → All P cs → All (λ c. P c × (p c ≡ true)) (keep p cs)
  unfolding keep
  all_keep P [] a = tt
  all_keep P (c ∷ cs) a = keep_cases (All (λ d. P d × (p d ≡ true))) c cs (λ e. ((a.0, e), all_keep P cs a.1)) (λ e. all_keep P cs a.1)

  pub mem_keep : (c : ℕ) (cs : List ℕ) → Memᴰ c cs → p c ≡ true → Memᴰ c (keep p cs)
  mem_keep c [] m t = absurd (mathlib.Core.List.Memᴰ.not-nil m)
  mem_keep c (d ∷ ds) m t = ⊎_elim
      (λ (e : c ≡ d). subst (Memᴰ c) (sym (keep_yes d ds (ap p (sym e) ∙ t))) (mathlib.Core.List.Memᴰ.head e))
      (λ (n : Memᴰ c ds). keep_cases (Memᴰ c) d ds (λ e. mathlib.Core.List.Memᴰ.tail (mem_keep c ds n t)) (λ e. mem_keep c ds n t))
      (mathlib.Core.List.Memᴰ.cases_cons m)

  pub length_keep : (cs : List ℕ) → length (keep p cs) ≤ length cs
  unfolding keep
  length_keep [] = omega arith
  length_keep (c ∷ cs) = let h = length_keep cs in keep_cases (λ l. length l ≤ suc (length cs)) c cs (λ e. omega arith) (λ e. omega arith)

pub all_from : (n c : ℕ) → All (λ d. (c ≤ d) × (d < c + n)) (from n c)
unfolding from
all_from zero c = tt
all_from (suc n) c = ((omega arith, omega arith), all_map (from n (suc c)) (λ d h. (omega (arith, h.0), omega (arith, h.1))) (all_from n (suc c)))

pub mem_from : (n c d : ℕ) → c ≤ d → d < c + n → Memᴰ d (from n c)
unfolding from
mem_from zero c d h l = absurd (not-suc-le-zero {n = 0} (omega arith))
mem_from (suc n) c d h l = ⊎_elim
    (λ (e : c ≡ d). mathlib.Core.List.Memᴰ.head (sym e))
    (λ (g : c < d). mathlib.Core.List.Memᴰ.tail (mem_from n (suc c) d g (omega arith)))
    (eq-or-lt_of_le h)

pub length_from : (n c : ℕ) → length (from n c) ≡ n
unfolding from
length_from zero c = refl
length_from (suc n) c = ap suc (length_from n (suc c))

-- a part of a run of numbers has each once
pub apart_from : (p : ℕ → Bool) (n c : ℕ) → Apart (keep p (from n c))
unfolding from keep
apart_from p zero c = tt
apart_from p (suc n) c = keep_cases p Apart c (from n (suc c))
    (λ e. (
      all_map (keep p (from n (suc c))) (λ d g q. not-suc-le-zero {n = 0} (omega (arith, g.0.0)))
          (all_keep p (λ d. (suc c ≤ d) × (d < suc c + n)) (from n (suc c)) (all_from n (suc c))),
      apart_from p n (suc c),
    ))
    (λ e. apart_from p n (suc c))

-- ---- the beginning

module _ (p : ℕ → Bool) where
  pub begin_prefix : (cs : List ℕ) → IsPrefix (beginning p cs) cs
  unfolding beginning
  begin_prefix [] = ([], refl)
  begin_prefix (c ∷ cs) = by (p c) (begin_prefix cs)
    where
      by : (b : Bool) → IsPrefix (beginning p cs) cs → IsPrefix (cond b (c ∷ beginning p cs) []) (c ∷ cs)
      by true r = (r.0, ap (λ (l : List ℕ). c ∷ l) r.1)
      by false r = (c ∷ cs, refl)

  pub begin_passes : (cs : List ℕ) → All (λ c. p c ≡ true) (beginning p cs)
  unfolding beginning
  begin_passes [] = tt
  begin_passes (c ∷ cs) = by (p c) refl (begin_passes cs)
    where
      by : (b : Bool) → p c ≡ b → All (λ d. p d ≡ true) (beginning p cs) → All (λ d. p d ≡ true) (cond b (c ∷ beginning p cs) [])
      by true e r = (e, r)
      by false e r = tt

-- the same test, of the images of a list
pub begin_map : (f : ℕ → ℕ) (p q : ℕ → Bool) (cs : List ℕ) → All (λ c. q (f c) ≡ p c) cs → beginning q (map f cs) ≡ map f (beginning p cs)
unfolding beginning
begin_map f p q [] a = refl
begin_map f p q (c ∷ cs) a = ap (λ (b : Bool). cond b (f c ∷ beginning q (map f cs)) []) a.0 ∙ by (p c) (begin_map f p q cs a.1)
  where
    by : (b : Bool) → beginning q (map f cs) ≡ map f (beginning p cs) → cond b (f c ∷ beginning q (map f cs)) [] ≡ map f (cond b (c ∷ beginning p cs) [])
    by true r = ap (λ (l : List ℕ). f c ∷ l) r
    by false r = refl

-- ---- sorting

module _ (lt : ℕ → ℕ → Bool) where
  pub insert_yes : (c d : ℕ) (ds : List ℕ) → lt c d ≡ true → insert_by lt c (d ∷ ds) ≡ c ∷ d ∷ ds
  unfolding insert_by
  insert_yes c d ds e = rw e

  pub insert_no : (c d : ℕ) (ds : List ℕ) → lt c d ≡ false → insert_by lt c (d ∷ ds) ≡ d ∷ insert_by lt c ds
  unfolding insert_by
  insert_no c d ds e = rw e

  insert_cases : (Q : List ℕ → Type 0) (c d : ℕ) (ds : List ℕ) → (lt c d ≡ true → Q (c ∷ d ∷ ds)) → (lt c d ≡ false → Q (d ∷ insert_by lt c ds)) → Q (insert_by lt c (d ∷ ds))
  insert_cases Q c d ds f g = ⊎_elim
      (λ (e : lt c d ≡ true). subst Q (sym (insert_yes c d ds e)) (f e))
      (λ (e : lt c d ≡ false). subst Q (sym (insert_no c d ds e)) (g e))
      (which (lt c d))

  all_insert : (P : ℕ → Type 0) (c : ℕ) (ds : List ℕ) → P c → All P ds → All P (insert_by lt c ds)
  unfolding insert_by
  all_insert P c [] h a = (h, tt)
  all_insert P c (d ∷ ds) h a = insert_cases (All P) c d ds (λ e. (h, a)) (λ e. (a.0, all_insert P c ds h a.1))

  pub all_sort : (P : ℕ → Type 0) (cs : List ℕ) → All P cs → All P (sort_by lt cs)
  unfolding sort_by
  all_sort P [] a = tt
  all_sort P (c ∷ cs) a = all_insert P c (sort_by lt cs) a.0 (all_sort P cs a.1)

  mem-insert : (x c : ℕ) (ds : List ℕ) → (x ≡ c) ⊎ Memᴰ x ds → Memᴰ x (insert_by lt c ds)
  unfolding insert_by
  mem-insert x c [] m = ⊎_elim (λ (e : x ≡ c). mathlib.Core.List.Memᴰ.head e) (λ (n : Memᴰ x []). absurd (mathlib.Core.List.Memᴰ.not-nil n)) m
  mem-insert x c (d ∷ ds) m = insert_cases (Memᴰ x) c d ds
      (λ e. ⊎_elim (λ (q : x ≡ c). mathlib.Core.List.Memᴰ.head q) (λ (n : Memᴰ x (d ∷ ds)). mathlib.Core.List.Memᴰ.tail n) m)
      (λ e. ⊎_elim
      (λ (q : x ≡ c). mathlib.Core.List.Memᴰ.tail (mem-insert x c ds (inl q)))
      (λ (n : Memᴰ x (d ∷ ds)). ⊎_elim (λ (q : x ≡ d). mathlib.Core.List.Memᴰ.head q) (λ (r : Memᴰ x ds). mathlib.Core.List.Memᴰ.tail (mem-insert x c ds (inr r))) (mathlib.Core.List.Memᴰ.cases_cons n))
      m)

  pub mem_sort : (x : ℕ) (cs : List ℕ) → Memᴰ x cs → Memᴰ x (sort_by lt cs)
  unfolding sort_by
  mem_sort x [] m = m
  mem_sort x (c ∷ cs) m = mem-insert x c (sort_by lt cs) (⊎_elim (λ (e : x ≡ c). inl e) (λ (n : Memᴰ x cs). inr (mem_sort x cs n)) (mathlib.Core.List.Memᴰ.cases_cons m))

  length-insert : (c : ℕ) (ds : List ℕ) → length (insert_by lt c ds) ≡ suc (length ds)
  unfolding insert_by
  length-insert c [] = refl
  length-insert c (d ∷ ds) = insert_cases (λ l. length l ≡ suc (suc (length ds))) c d ds (λ e. refl) (λ e. ap suc (length-insert c ds))

  pub length_sort : (cs : List ℕ) → length (sort_by lt cs) ≡ length cs
  unfolding sort_by
  length_sort [] = refl
  length_sort (c ∷ cs) = length-insert c (sort_by lt cs) ∙ ap suc (length_sort cs)

  -- each comes before all that follow it
  abbrev pub Sorted : List ℕ → Type 0
  Sorted [] = Unit {0}
  Sorted (c ∷ cs) = All (λ d. lt c d ≡ true) cs × Sorted cs

  pub sorted_at : (cs : List ℕ) → Sorted cs → (i j : ℕ) → i < j → j < length cs → lt (get_or cs i 0) (get_or cs j 0) ≡ true
  sorted_at [] s i j h l = absurd (not-suc-le-zero l)
  sorted_at (c ∷ cs) s i zero h l = absurd (not-suc-le-zero h)
  sorted_at (c ∷ cs) s zero (suc j) h l = all-at (λ d. lt c d ≡ true) cs s.0 j (omega arith)
  sorted_at (c ∷ cs) s (suc i) (suc j) h l = sorted_at cs s.1 i j (omega arith) (omega arith)

  -- what an order keeps: of two that differ one comes before, and it is carried on
  pub record Ordering : Type 0 where
    pub carries : (a b c : ℕ) → lt a b ≡ true → lt b c ≡ true → lt a c ≡ true
    pub other : (a b : ℕ) → (a ≡ b → ⊥) → lt a b ≡ false → lt b a ≡ true

  module _ (o : Ordering) where
    insert-sorted : (c : ℕ) (ds : List ℕ) → All (λ d. c ≡ d → ⊥) ds → Sorted ds → Sorted (insert_by lt c ds)
    unfolding insert_by
    insert-sorted c [] n s = (tt, tt)
    insert-sorted c (d ∷ ds) n s = insert_cases Sorted c d ds
        (λ e. ((e, all_map ds (λ x g. o.carries c d x e g) s.0), s))
        (λ e. (all_insert (λ x. lt d x ≡ true) c ds (o.other c d n.0 e) s.0, insert-sorted c ds n.1 s.1))

    pub sort_sorted : (cs : List ℕ) → Apart cs → Sorted (sort_by lt cs)
    unfolding sort_by
    sort_sorted [] a = tt
    sort_sorted (c ∷ cs) a = insert-sorted c (sort_by lt cs) (all_sort (λ d. c ≡ d → ⊥) cs a.0) (sort_sorted cs a.1)

-- sorting the images by their order is sorting by the order that they give
module _ (lt less : ℕ → ℕ → Bool) (f : ℕ → ℕ) (P : ℕ → Type 0) (agree : (c d : ℕ) → P c → P d → less (f c) (f d) ≡ lt c d) where
  insert_map : (c : ℕ) (ds : List ℕ) → P c → All P ds → insert_by less (f c) (map f ds) ≡ map f (insert_by lt c ds)
  unfolding insert_by
  insert_map c [] p a = refl
  insert_map c (d ∷ ds) p a =
      ap (λ (b : Bool). cond b (f c ∷ f d ∷ map f ds) (f d ∷ insert_by less (f c) (map f ds))) (agree c d p a.0) ∙ by (lt c d) (insert_map c ds p a.1)
    where
      by : (b : Bool) → insert_by less (f c) (map f ds) ≡ map f (insert_by lt c ds)
          → cond b (f c ∷ f d ∷ map f ds) (f d ∷ insert_by less (f c) (map f ds)) ≡ map f (cond b (c ∷ d ∷ ds) (d ∷ insert_by lt c ds))
      by true r = refl
      by false r = ap (λ (l : List ℕ). f d ∷ l) r

  pub sort_map : (cs : List ℕ) → All P cs → sort_by less (map f cs) ≡ map f (sort_by lt cs)
  unfolding sort_by
  sort_map [] a = refl
  sort_map (c ∷ cs) a = ap (insert_by less (f c)) (sort_map cs a.1) ∙ insert_map c (sort_by lt cs) a.0 (all_sort lt P cs a.1)

-- ---- what is left of a list of rising numbers from a number on

-- nothing, where each is below it
pub none_from : (n : ℕ) (ks : List ℕ) → All (λ k. k < n) ks → keep (leb n) ks ≡ []
unfolding keep
none_from n [] a = refl
none_from n (k ∷ ks) a = keep_no (leb n) k ks (lt-leb n k a.0) ∙ none_from n ks a.1

-- all, where none is
pub all_left : (n : ℕ) (ks : List ℕ) → All (λ k. n ≤ k) ks → keep (leb n) ks ≡ ks
unfolding keep
all_left n [] a = refl
all_left n (k ∷ ks) a = keep_yes (leb n) k ks (le-leb n k a.0) ∙ ap (λ (l : List ℕ). k ∷ l) (all_left n ks a.1)

pub rising : Ordering ltb
rising = record {
  carries = λ a b c p q. let x = ltb-true a b p in let y = ltb-true b c q in lt-ltb a c (omega arith);
  other = λ a b n e. let h = ltb-false a b e in lt-ltb b a (less a b n h);
}
  where
    less : (a b : ℕ) → (a ≡ b → ⊥) → b ≤ a → b < a
    less a b n h = ⊎_elim (λ (e : b ≡ a). absurd (n (sym e))) (λ (l : b < a). l) (eq-or-lt_of_le h)

-- the least of those from a number on comes next
pub next_from : (n k : ℕ) (ks : List ℕ) → Sorted ltb ks → Memᴰ k ks → n ≤ k → All (λ j. n ≤ j → k ≤ j) ks → keep (leb n) ks ≡ k ∷ keep (leb (suc k)) ks
next_from n k [] s m h a = absurd (mathlib.Core.List.Memᴰ.not-nil m)
next_from n k (j ∷ js) s m h a = ⊎_elim
    (λ (e : leb n j ≡ true).
    let b = a.0 (leb-true n j e) in
    ⊎_elim
    (λ (q : k ≡ j).
    let later : All (λ x. suc k ≤ x) js = all_map js (λ x t. let l = ltb-true j x t in omega arith) s.0 in
    keep_yes (leb n) j js e
    ∙ ap (λ (l : List ℕ). j ∷ l) (all_left n js (all_map js (λ x t. omega arith) later) ∙ sym (all_left (suc k) js later))
    ∙ ap (λ (x : ℕ). x ∷ keep (leb (suc k)) js) (sym q)
    ∙ ap (λ (l : List ℕ). k ∷ l) (sym (keep_no (leb (suc k)) j js (lt-leb (suc k) j (omega arith)))))
    (λ (i : Memᴰ k js). let t = ltb-true j k (all_mem (λ x. ltb j x ≡ true) js s.0 k i) in absurd (not-suc-le-zero {n = 0} (omega arith)))
    (mathlib.Core.List.Memᴰ.cases_cons m))
    (λ (e : leb n j ≡ false).
    let g = leb-false n j e in
    keep_no (leb n) j js e
    ∙ next_from n k js s.1 (⊎_elim (λ (q : k ≡ j). absurd (not-suc-le-zero {n = 0} (omega arith))) (λ (i : Memᴰ k js). i) (mathlib.Core.List.Memᴰ.cases_cons m)) h a.1
    ∙ ap (λ (l : List ℕ). k ∷ l) (sym (keep_no (leb (suc k)) j js (lt-leb (suc k) j (omega arith)))))
    (which (leb n j))
