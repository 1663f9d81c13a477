-- The search order and its near part. The two keys, level and channel, make an order of the channels, so the sorted list is the search order
-- that the paper describes; the nearer of two is the earlier, so its near part is a beginning.
use Prim.Native.Nat.{ℕ, ◌<◌}
use mathlib.Core.Path.{◌≡◌, refl, sym, ap, ◌∙◌, subst}
use mathlib.Core.Bool.{Bool, true, false, not, cond, ◌&&◌, ◌||◌, false≢true}
use mathlib.Core.List.Memᴰ
use mathlib.Core.List.{List, [], ◌∷◌, Memᴰ, IsPrefix}
use mathlib.Core.Logic.{◌⊎◌, inl, inr, ⊎_elim}
use native.Mathlib.Nat.{eq-or-lt_of_le, lt_irrefl}
use native.Mathlib.Omega.{arith}
use lib.ListN.{get_or}
use lib.IntN.{ℤ, ◌-ℤ◌}
use lib.Signed.{le_z, lt_z}
use lib.Dec.{ltb}
use borrow.Author.Tests.{lt-ltb, ltb-true, ltb-false}
use Rattle.sweep_rules.specs.Map.{channels}
use Rattle.sweep_rules.specs.Record.{level_at}
use Rattle.sweep_rules.specs.declared.Sweep.{Sweep}
use Rattle.sweep_rules.proofs.Tests.{which, clash}
use Rattle.choice_rules.specs.Order.{beginning, comes_before, channels_that, search_order, at_most_below, near_of, near_part}
use Rattle.choice_rules.specs.Code.{All}
use Rattle.choice_rules.specs.Claims.{Passes, Before, OrderRule, Strongest, WithinMargin, NearRule}
use Rattle.choice_rules.proofs.Whole.{le_fact, fact_le, lt_fact}
use Rattle.choice_rules.proofs.Whole.{above, below, le_parts, parts_le, lt_parts, parts_lt, not_lt_parts, parts_not_lt, parts_same, sub_parts}
use Rattle.choice_rules.proofs.Listed.{listed, in_order}
use Rattle.choice_rules.proofs.Lists.{all_mem, apart_from, begin_prefix, begin_passes, all_sort, Sorted, sorted_at, Ordering, sort_sorted}

-- ---- the two keys

module _ (level : ℕ → ℤ) where
  -- by falling level, equal levels by rising channel number
  abbrev pub Falls : ℕ → ℕ → Type 0
  Falls c d = (lt_z (level d) (level c) ≡ true) ⊎ ((level c ≡ level d) × (c < d))

  pub before_falls : (c d : ℕ) → comes_before level c d ≡ true → Falls c d
  before_falls c d e = by (lt_z (level d) (level c)) (lt_z (level c) (level d)) (ltb c d) refl refl refl e
    where
      by : (a b t : Bool) → lt_z (level d) (level c) ≡ a → lt_z (level c) (level d) ≡ b → ltb c d ≡ t → (a || (not b && t)) ≡ true → (lt_z (level d) (level c) ≡ true) ⊎ ((level c ≡ level d) × (c < d))
      by true b t p q r f = inl p
      by false true t p q r f = absurd (false≢true f)
      by false false t p q r f =
          let x = not_lt_parts (level d) (level c) p in
          let y = not_lt_parts (level c) (level d) q in
          inr (parts_same (level c) (level d) (omega arith), ltb-true c d (r ∙ f))

  pub falls_before : (c d : ℕ) → Falls c d → comes_before level c d ≡ true
  falls_before c d (inl e) = rw e
  falls_before c d (inr e) =
      let p = ap above e.0 in
      let q = ap below e.0 in
      rw (parts_not_lt (level d) (level c) (omega arith), parts_not_lt (level c) (level d) (omega arith), lt-ltb c d e.1)

  -- an earlier one's level is at least as high
  pub before_level : (c d : ℕ) → comes_before level c d ≡ true → le_z (level d) (level c) ≡ true
  before_level c d e = parts_le (level d) (level c) (⊎_elim
      (λ (p : lt_z (level d) (level c) ≡ true). let x = lt_parts (level d) (level c) p in omega arith)
      (λ (p : (level c ≡ level d) × (c < d)). let x = ap above p.0 in let y = ap below p.0 in omega arith)
      (before_falls c d e))

  pub ordering : Ordering (comes_before level)
  ordering = record {
    carries = λ a b c p q. falls_before a c (join a b c (before_falls a b p) (before_falls b c q));
    other = λ a b n e. falls_before b a (flip a b n e);
  }
    where
      join : (a b c : ℕ) → Falls a b → Falls b c → Falls a c
      join a b c (inl p) (inl q) = let x = lt_parts (level b) (level a) p in let y = lt_parts (level c) (level b) q in inl (parts_lt (level c) (level a) (omega arith))
      join a b c (inl p) (inr q) = inl (ap (λ (z : ℤ). lt_z z (level a)) (sym q.0) ∙ p)
      join a b c (inr p) (inl q) = inl (ap (lt_z (level c)) p.0 ∙ q)
      join a b c (inr p) (inr q) = inr (p.0 ∙ q.0, omega (arith, p.1, q.1))

      flip : (a b : ℕ) → (a ≡ b → ⊥) → comes_before level a b ≡ false → Falls b a
      flip a b n e = ⊎_elim
          (λ (p : lt_z (level a) (level b) ≡ true). inl p)
          (λ (p : lt_z (level a) (level b) ≡ false). ⊎_elim
          (λ (q : lt_z (level b) (level a) ≡ true). absurd (clash (falls_before a b (inl q)) e))
          (λ (q : lt_z (level b) (level a) ≡ false).
          let x = not_lt_parts (level a) (level b) p in
          let y = not_lt_parts (level b) (level a) q in
          let same : level a ≡ level b = parts_same (level a) (level b) (omega arith) in
          ⊎_elim
          (λ (l : ltb a b ≡ true). absurd (clash (falls_before a b (inr (same, ltb-true a b l))) e))
          (λ (l : ltb a b ≡ false). inr (sym same, ⊎_elim (λ (z : b ≡ a). absurd (n (sym z))) (λ (g : b < a). g) (eq-or-lt_of_le (ltb-false a b l))))
          (which (ltb a b)))
          (which (lt_z (level b) (level a))))
          (which (lt_z (level a) (level b)))

-- ---- the search order

module _ (test : ℕ → Bool) where
  module _ (s : Sweep) where
    pub ordered : All (Passes test) (search_order test s)
    unfolding search_order
    ordered = all_sort (comes_before (level_at s)) (Passes test) (channels_that test) (listed test)

    pub order_sorted : Sorted (comes_before (level_at s)) (search_order test s)
    unfolding search_order
    order_sorted = sort_sorted (comes_before (level_at s)) (ordering (level_at s)) (channels_that test) (apart_from test channels 0)

    never_itself : (c : ℕ) → comes_before (level_at s) c c ≡ true → ⊥
    never_itself c e = ⊎_elim
        (λ (p : lt_z (level_at s c) (level_at s c) ≡ true). lt_irrefl _ (lt_parts (level_at s c) (level_at s c) p))
        (λ (p : (level_at s c ≡ level_at s c) × (c < c)). lt_irrefl c p.1)
        (before_falls (level_at s) c c e)

    pub order_rule : OrderRule test s
    order_rule = record {
      exactly = λ c. (λ m. all_mem (Passes test) (search_order test s) ordered c m, in_order test s c);
      once = λ i j h l e. never_itself (get_or (search_order test s) i 0) (ap (comes_before (level_at s) (get_or (search_order test s) i 0)) e ∙ sorted_at (comes_before (level_at s)) (search_order test s) order_sorted i j h l);
      sorted = λ i j h l. fact (get_or (search_order test s) i 0) (get_or (search_order test s) j 0) (before_falls (level_at s) (get_or (search_order test s) i 0) (get_or (search_order test s) j 0) (sorted_at (comes_before (level_at s)) (search_order test s) order_sorted i j h l));
    }
      where
        fact : (c d : ℕ) → Falls (level_at s) c d → Before s c d
        fact c d (inl e) = inl (lt_fact e)
        fact c d (inr e) = inr e

-- ---- the near part

module _ (lt : ℕ → ℕ → Bool) (p : ℕ → Bool) (earlier : (c d : ℕ) → lt c d ≡ true → p d ≡ true → p c ≡ true) where
  -- where an earlier one passes if a later one does, the beginning holds all that pass
  begin_mem : (cs : List ℕ) → Sorted lt cs → (x : ℕ) → Memᴰ x cs → p x ≡ true → Memᴰ x (beginning p cs)
  unfolding beginning
  begin_mem [] o x m e = m
  begin_mem (c ∷ cs) o x m e = ⊎_elim
      (λ (q : x ≡ c). first (ap p (sym q) ∙ e) (Memᴰ.head q))
      (λ (n : Memᴰ x cs). first (earlier c x (all_mem (λ d. lt c d ≡ true) cs o.0 x n) e) (Memᴰ.tail (begin_mem cs o.1 x n e)))
      (Memᴰ.cases_cons m)
    where
      first : p c ≡ true → Memᴰ x (c ∷ beginning p cs) → Memᴰ x (cond (p c) (c ∷ beginning p cs) [])
      first t i = rw t i

-- l - x is at most m, where l - y is and y is at most x
nearer : (l x y m : ℤ) → le_z y x ≡ true → le_z (l -ℤ y) m ≡ true → le_z (l -ℤ x) m ≡ true
nearer l x y m p q =
    let a = le_parts y x p in
    let b = le_parts (l -ℤ y) m q in
    let c = sub_parts l x in
    let d = sub_parts l y in
    parts_le (l -ℤ x) m (omega arith)

both_highest : (x y : ℤ) → le_z x y ≡ true → le_z y x ≡ true → x ≡ y
both_highest x y p q = let a = le_parts x y p in let b = le_parts y x q in parts_same x y (omega arith)

pub near_begins : (level : ℕ → ℤ) (m : ℤ) (cs : List ℕ) → IsPrefix (near_of level m cs) cs
unfolding near_of
near_begins level m [] = ([], refl)
near_begins level m (c ∷ cs) = begin_prefix (λ d. at_most_below m (level c) (level d)) (c ∷ cs)

-- of a sorted list, the near part holds exactly those at most the margin below the first
module _ (level : ℕ → ℤ) (m : ℤ) (c : ℕ) (cs : List ℕ) (o : Sorted (comes_before level) (c ∷ cs)) where
  near_in : (x : ℕ) → Memᴰ x (c ∷ cs) → le_z (level c -ℤ level x) m ≡ true → Memᴰ x (near_of level m (c ∷ cs))
  unfolding near_of
  near_in x i e = begin_mem (comes_before level) (λ d. le_z (level c -ℤ level d) m) (λ d f b. nearer (level c) (level d) (level f) m (before_level level d f b)) (c ∷ cs) o x i e

  in_near : (x : ℕ) → Memᴰ x (near_of level m (c ∷ cs)) → le_z (level c -ℤ level x) m ≡ true
  unfolding near_of
  in_near x i = all_mem (λ d. le_z (level c -ℤ level d) m ≡ true) (near_of level m (c ∷ cs)) (begin_passes (λ d. at_most_below m (level c) (level d)) (c ∷ cs)) x i

  first_highest : (x : ℕ) → Memᴰ x (c ∷ cs) → le_z (level x) (level c) ≡ true
  first_highest x i = ⊎_elim
      (λ (e : x ≡ c). ap (λ (d : ℕ). le_z (level d) (level c)) e ∙ parts_le (level c) (level c) (omega arith))
      (λ (n : Memᴰ x cs). before_level level c x (all_mem (λ d. comes_before level c d ≡ true) cs o.0 x n))
      (Memᴰ.cases_cons i)

-- for any list that is sorted and holds exactly the channels that pass
module _ (test : ℕ → Bool) (s : Sweep) (m : ℤ) where
  near_exactly : (cs : List ℕ) → Sorted (comes_before (level_at s)) cs → ((c : ℕ) → Memᴰ c cs → Passes test c) → ((c : ℕ) → Passes test c → Memᴰ c cs)
      → (c : ℕ) → (Memᴰ c (near_of (level_at s) m cs) → Passes test c × WithinMargin test s m c) × (Passes test c × WithinMargin test s m c → Memᴰ c (near_of (level_at s) m cs))
  unfolding near_of
  near_exactly [] o to back c = (λ i. absurd (Memᴰ.not-nil i), λ w. absurd (Memᴰ.not-nil (back c w.0)))
  near_exactly (d ∷ ds) o to back c = (
    λ i.
        let j = sub_mem c i in
        (to c j, (level_at s d, strongest, le_fact (in_near (level_at s) m d ds o c i))),
    λ w.
        let l = w.1.0 in
        let top = w.1.1 in
        let same : l ≡ level_at s d = both_highest l (level_at s d) (reaches l top) (fact_le (top.highest d (to d (Memᴰ.head refl)))) in
        near_in (level_at s) m d ds o c (back c w.0) (ap (λ (z : ℤ). le_z (z -ℤ level_at s c) m) (sym same) ∙ fact_le w.1.2),
  )
    where
      sub_mem : (x : ℕ) → Memᴰ x (near_of (level_at s) m (d ∷ ds)) → Memᴰ x (d ∷ ds)
      sub_mem x i = subst (Memᴰ x) (near_begins (level_at s) m (d ∷ ds)).1 (Memᴰ.append_left (near_begins (level_at s) m (d ∷ ds)).0 i)

      strongest : Strongest test s (level_at s d)
      strongest = record {
        reached = (d, to d (Memᴰ.head refl), refl);
        highest = λ x p. le_fact (first_highest (level_at s) m d ds o x (back x p));
      }

      reaches : (l : ℤ) → Strongest test s l → le_z l (level_at s d) ≡ true
      reaches l top = ap (λ (z : ℤ). le_z z (level_at s d)) (sym top.reached.2) ∙ first_highest (level_at s) m d ds o top.reached.0 (back top.reached.0 top.reached.1)

  pub near_rule : NearRule test s m
  unfolding near_part
  near_rule = record {
    begins = near_begins (level_at s) m (search_order test s);
    exactly = near_exactly (search_order test s) (order_sorted test s) (λ c. ((order_rule test s).exactly c).0) (in_order test s);
  }
