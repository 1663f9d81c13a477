-- The fault of a list in document 02's words. The rule walks from place to place: it ends at the first faulty one, or there is none.
use Prim.Native.Nat.{ℕ, zero, suc, ◌≤◌, ◌<◌}
use mathlib.Core.Path.{◌≡◌, refl, sym, ap, subst, ◌∙◌}
use mathlib.Core.Bool.{Bool, true, false, not, ◌||◌, or-true}
use mathlib.Core.List.{List, [], ◌∷◌, ◌++◌, append_assoc, append-nil}
use mathlib.Core.Option.{Option, some, some-ne-none}
use native.Mathlib.Omega.{arith}
use lib.Dec.{eqb, leb}
use lib.ListN.{length, get_elem?, length-append}
use borrow.Author.Tests.{eqb-true, eq-eqb, leb-true, leb-false}
use Rattle.refusal.specs.declared.Reason.TheVariants.{At}
use Rattle.refusal.specs.Told.{Told, refused}
use Rattle.refusal.proofs.Provided.{refuse_now, refuse_later}
use Rattle.readings_rules.specs.Channels.{channel_in_range}
use Rattle.watch_rules.specs.Lists.{mem, times_in}
use Rattle.watch_rules.specs.Rules.{unless_faulty_from}
use Rattle.watch_rules.specs.Refusals.{Faulty, too_long, above, repeated, serving_in, Fault, above_at, again_at, serving_at, AskedBefore, range_serving, range_repeat, serving_repeat, FirstFault}
use Rattle.watch_rules.proofs.Laws.{by_case, clash, or_true_right}
use Rattle.watch_rules.proofs.Words.{mem_times, times_mem, times_more}

-- ---- what stands where

at_seam : (e : List ℕ) (c : ℕ) (r : List ℕ) → get_elem? (e ++ c ∷ r) (length e) ≡ some c
at_seam [] c r = refl
at_seam (x ∷ e) c r = at_seam e c r

at_before : (e r : List ℕ) (place : ℕ) → place < length e → get_elem? (e ++ r) place ≡ get_elem? e place
at_before [] r place h = absurd (omega arith)
at_before (x ∷ e) r zero h = refl
at_before (x ∷ e) r (suc place) h = at_before e r place (omega arith)

pub one_at : {c d : ℕ} → ◌≡◌ {A = Option ℕ} (some c) (some d) → c ≡ d
one_at e = cc

stands_at : (c : ℕ) (l : List ℕ) → mem c l ≡ true → (place : ℕ) × (place < length l) × (get_elem? l place ≡ some c)
stands_at c [] e = clash e refl
stands_at c (d ∷ l) e =
    by_case (eqb d c)
    (λ q. (0, omega arith, ap {B = Option ℕ} some (eqb-true d c q)))
    (λ q.
    let r : (place : ℕ) × (place < length l) × (get_elem? l place ≡ some c) = stands_at c l (or_true_right (eqb d c) (mem c l) e q) in
    (suc r.0, (let h = r.1 in omega arith), r.2))

at_mem : (c : ℕ) (l : List ℕ) (place : ℕ) → get_elem? l place ≡ some c → mem c l ≡ true
at_mem c [] place e = absurd (some-ne-none c (sym e))
at_mem c (d ∷ l) zero e = ap (λ (b : Bool). b || mem c l) (eq-eqb d c (one_at e))
at_mem c (d ∷ l) (suc place) e = ap (λ (b : Bool). eqb d c || b) (at_mem c l place e) ∙ or-true (eqb d c)

-- a channel that is there twice stands at two places, and the other way round
twice_at : (c : ℕ) (l : List ℕ) → 1 < times_in c l
    → (earlier place : ℕ) × (earlier < place) × (get_elem? l earlier ≡ some c) × (get_elem? l place ≡ some c)
twice_at c [] h = absurd (omega arith)
twice_at c (d ∷ l) h =
    by_case (eqb d c)
    (λ q.
    let more : 1 < suc (times_in c l) = rw q at h in
    let r = stands_at c l (times_mem c l (omega arith)) in
    (0, suc r.0, omega arith, ap {B = Option ℕ} some (eqb-true d c q), r.2))
    (λ q.
    let r = twice_at c l (rw q at h) in
    (suc r.0, suc r.1, (let k = r.2 in omega arith), r.3, r.4))

at_twice : (c : ℕ) (l : List ℕ) (earlier place : ℕ) → earlier < place → get_elem? l earlier ≡ some c → get_elem? l place ≡ some c → 1 < times_in c l
at_twice c [] earlier place h a b = absurd (some-ne-none c (sym a))
at_twice c (d ∷ l) zero zero h a b = absurd (omega arith)
at_twice c (d ∷ l) zero (suc place) h a b =
    let first : times_in c (d ∷ l) ≡ suc (times_in c l) = rw (eq-eqb d c (one_at a)) in
    omega (arith, first, mem_times c l (at_mem c l place b))
at_twice c (d ∷ l) (suc earlier) zero h a b = absurd (omega arith)
at_twice c (d ∷ l) (suc earlier) (suc place) h a b =
    omega (arith, times_more c d l, at_twice c l earlier place (omega arith) a b)

-- ---- document 01's faulty list, and the faults of its places

pub fault_faulty : (serving : ℕ) (l : List ℕ) {place n : ℕ} → Fault serving l place n → Faulty serving l
fault_faulty serving l (above_at c a h) = above c (mem_times c l (at_mem c l _ a)) h
fault_faulty serving l (again_at c earlier a h b) = repeated c (at_twice c l earlier _ h b a)
fault_faulty serving l (serving_at a) = serving_in (mem_times serving l (at_mem serving l _ a))

pub faulty_fault : (serving : ℕ) (l : List ℕ) → length l ≤ 6 → Faulty serving l → (place n : ℕ) × Fault serving l place n
faulty_fault serving l short (too_long h) = absurd (omega arith)
faulty_fault serving l short (above c t h) = let r = stands_at c l (times_mem c l t) in (r.0, 12, above_at c r.2 h)
faulty_fault serving l short (repeated c t) = let r = twice_at c l t in (r.1, 13, again_at c r.0 r.4 r.2 r.3)
faulty_fault serving l short (serving_in t) = let r = stands_at serving l (times_mem serving l t) in (r.0, 14, serving_at r.2)

at_within : (l : List ℕ) (place c : ℕ) → get_elem? l place ≡ some c → place < length l
at_within [] place c e = absurd (some-ne-none c (sym e))
at_within (d ∷ l) zero c e = omega arith
at_within (d ∷ l) (suc place) c e = let h = at_within l place c e in omega arith

pub fault_within : {serving : ℕ} {l : List ℕ} {place n : ℕ} → Fault serving l place n → place < length l
fault_within {l = l} (above_at c a h) = at_within l _ c a
fault_within {l = l} (again_at c earlier a h b) = at_within l _ c a
fault_within {serving} {l} (serving_at a) = at_within l _ serving a

pub fault_number : {serving : ℕ} {l : List ℕ} {place n : ℕ} → Fault serving l place n → (12 ≤ n) × (n ≤ 14)
fault_number (above_at c a h) = (omega arith, omega arith)
fault_number (again_at c earlier a h b) = (omega arith, omega arith)
fault_number (serving_at a) = (omega arith, omega arith)

-- ---- the walk

module _ (serving : ℕ) (l : List ℕ) where
  -- no place below this one is faulty
  abbrev pub ClearBelow : ℕ → Type 0
  ClearBelow k = (place n : ℕ) → place < k → ¬ (Fault serving l place n)

  -- what the rule comes to behind the channels e: it finds the first faulty place, or there is none
  pub data Walked (e r : List ℕ) : Type 0 where
    found : (place n : ℕ) → FirstFault serving l place n → ((a : Told Unit) → unless_faulty_from serving e r a ≡ refused (At n place)) → Walked e r
    clear : ClearBelow (length l) → ((a : Told Unit) → unless_faulty_from serving e r a ≡ a) → Walked e r

  -- the channel c behind e
  module _ (e : List ℕ) (c : ℕ) (r : List ℕ) (joined : l ≡ e ++ c ∷ r) where
    stands : get_elem? l (length e) ≡ some c
    stands = ap (λ (m : List ℕ). get_elem? m (length e)) joined ∙ at_seam e c r

    not_12 : channel_in_range c ≡ true → ¬ (Fault serving l (length e) 12)
    not_12 i (above_at d a h) = let k = leb-true c 1087 i in let z : c ≡ d = one_at (sym stands ∙ a) in omega arith

    not_14 : eqb serving c ≡ false → ¬ (Fault serving l (length e) 14)
    not_14 i (serving_at a) = clash (eq-eqb serving c (one_at (sym a ∙ stands))) i

    not_13 : mem c e ≡ false → ¬ (Fault serving l (length e) 13)
    not_13 m (again_at d earlier a h b) =
        let behind : get_elem? e earlier ≡ some c =
        sym (at_before e (c ∷ r) earlier h) ∙ ap (λ (x : List ℕ). get_elem? x earlier) (sym joined) ∙ b ∙ sym a ∙ stands in
        clash (at_mem c e earlier behind) m

    -- it has none of the three faults
    none_here : channel_in_range c ≡ true → eqb serving c ≡ false → mem c e ≡ false → (n : ℕ) → ¬ (Fault serving l (length e) n)
    none_here i s m n (above_at d a h) = not_12 i (above_at d a h)
    none_here i s m n (again_at d earlier a h b) = not_13 m (again_at d earlier a h b)
    none_here i s m n (serving_at a) = not_14 s (serving_at a)

    found_12 : ClearBelow (length e) → channel_in_range c ≡ false → FirstFault serving l (length e) 12
    found_12 k i = record { fault = above_at c stands (leb-false c 1087 i); first = k; order = λ m b. none_asked b refl }
      where
        none_asked : {m n : ℕ} → AskedBefore m n → n ≡ 12 → ¬ (Fault serving l (length e) m)
        none_asked range_serving q = absurd (omega arith)
        none_asked range_repeat q = absurd (omega arith)
        none_asked serving_repeat q = absurd (omega arith)

    found_14 : ClearBelow (length e) → channel_in_range c ≡ true → eqb serving c ≡ true → FirstFault serving l (length e) 14
    found_14 k i s = record { fault = serving_at (stands ∙ ap {B = Option ℕ} some (sym (eqb-true serving c s))); first = k; order = λ m b. asked b refl }
      where
        asked : {m n : ℕ} → AskedBefore m n → n ≡ 14 → ¬ (Fault serving l (length e) m)
        asked range_serving q = not_12 i
        asked range_repeat q = absurd (omega arith)
        asked serving_repeat q = absurd (omega arith)

    found_13 : ClearBelow (length e) → channel_in_range c ≡ true → eqb serving c ≡ false → mem c e ≡ true → FirstFault serving l (length e) 13
    found_13 k i s m =
        let r = stands_at c e m in
        let there : get_elem? l r.0 ≡ some c = ap (λ (x : List ℕ). get_elem? x r.0) joined ∙ at_before e _ r.0 r.1 ∙ r.2 in
        record { fault = again_at c r.0 stands r.1 there; first = k; order = λ m b. asked b refl }
      where
        asked : {m n : ℕ} → AskedBefore m n → n ≡ 13 → ¬ (Fault serving l (length e) m)
        asked range_serving q = absurd (omega arith)
        asked range_repeat q = not_12 i
        asked serving_repeat q = not_14 s

  -- no place up to the channel behind e is faulty
  clear_more : (e : List ℕ) (c : ℕ) → ClearBelow (length e) → ((n : ℕ) → ¬ (Fault serving l (length e) n)) → ClearBelow (length (e ++ c ∷ []))
  clear_more e c k here place n h =
      let z = length-append e (c ∷ []) in
      by_case (leb (length e) place)
      (λ g. subst (λ (x : ℕ). ¬ (Fault serving l x n)) (let b = leb-true (length e) place g in omega arith) (here n))
      (λ g. k place n (leb-false (length e) place g))

  -- at the channel behind e: its fault, or what the rest comes to
  module _ (e : List ℕ) (c : ℕ) (r : List ℕ) (joined : l ≡ e ++ c ∷ r) (k : ClearBelow (length e)) where
    on : channel_in_range c ≡ true → eqb serving c ≡ false → mem c e ≡ false → Walked (e ++ c ∷ []) r → Walked e (c ∷ r)
    on i s m (found place n f w) = found place n f (λ a. refuse_later _ i (refuse_later _ (ap not s) (refuse_later _ (ap not m) (w a))))
    on i s m (clear f w) = clear f (λ a. refuse_later _ i (refuse_later _ (ap not s) (refuse_later _ (ap not m) (w a))))

    by_place : (ClearBelow (length (e ++ c ∷ [])) → Walked (e ++ c ∷ []) r) → Walked e (c ∷ r)
    by_place more =
        by_case (channel_in_range c)
        (λ i. by_case (eqb serving c)
        (λ s. found (length e) 14 (found_14 e c r joined k i s) (λ a. refuse_later _ i (refuse_now _ _ (ap not s))))
        (λ s. by_case (mem c e)
        (λ m. found (length e) 13 (found_13 e c r joined k i s m) (λ a. refuse_later _ i (refuse_later _ (ap not s) (refuse_now _ _ (ap not m)))))
        (λ m. on i s m (more (clear_more e c k (none_here e c r joined i s m))))))
        (λ i. found (length e) 12 (found_12 e c r joined k i) (λ a. refuse_now _ _ i))

  walk : (e r : List ℕ) → l ≡ e ++ r → ClearBelow (length e) → Walked e r
  walk e [] joined k = clear (subst ClearBelow (ap length (sym (joined ∙ append-nil e))) k) (λ a. refl)
  walk e (c ∷ r) joined k = by_place e c r joined k (λ further. walk (e ++ c ∷ []) r (joined ∙ sym (append_assoc e (c ∷ []) r)) further)

  -- the whole list
  pub walked : Walked [] l
  walked = walk [] l refl (λ place n h. absurd (omega arith))
