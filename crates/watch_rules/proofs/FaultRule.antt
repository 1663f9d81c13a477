-- There is one first fault of a list, and it is what the rule tells: a list has a faulty place, or is too long, exactly when it is faulty in
-- document 01's words.
use Prim.Native.Nat.{ℕ, ◌≤◌, ◌<◌}
use mathlib.Core.Path.{◌≡◌, refl, sym, ap, ap₂, subst, ◌∙◌}
use mathlib.Core.Logic.{◌⊎◌, inl, inr, ⊎_elim}
use mathlib.Core.List.{List, []}
use mathlib.Core.Option.{some}
use native.Mathlib.Omega.{arith}
use lib.Dec.{leb, ltb}
use lib.ListN.{length, get_elem?}
use borrow.Author.Tests.{le-leb, lt-leb, leb-true, leb-false, ltb-true, ltb-false}
use Rattle.refusal.specs.declared.Reason.TheVariants.{Alone, At}
use Rattle.refusal.specs.Told.{Told, refused}
use Rattle.refusal.proofs.Provided.{refuse_now, refuse_later}
use Rattle.watch_rules.specs.Limits.{list_limit}
use Rattle.watch_rules.specs.Rules.{unless_faulty_from, unless_faulty}
use Rattle.watch_rules.specs.Refusals.{Faulty, too_long, Fault, above_at, again_at, serving_at, AskedBefore, range_serving, range_repeat, serving_repeat, FirstFault}
use Rattle.watch_rules.proofs.Laws.{by_case}
use Rattle.watch_rules.proofs.Faults.{one_at, fault_faulty, faulty_fault, fault_within, Walked, found, clear, walked}

-- ---- one place is the first, and one number is the first there

which : {serving : ℕ} {l : List ℕ} {place n m : ℕ} → Fault serving l place n → Fault serving l place m → (n ≡ m) ⊎ (AskedBefore n m ⊎ AskedBefore m n)
which (above_at _ _ _) (above_at _ _ _) = inl refl
which (above_at _ _ _) (again_at _ _ _ _ _) = inr (inl range_repeat)
which (above_at _ _ _) (serving_at _) = inr (inl range_serving)
which (again_at _ _ _ _ _) (above_at _ _ _) = inr (inr range_repeat)
which (again_at _ _ _ _ _) (again_at _ _ _ _ _) = inl refl
which (again_at _ _ _ _ _) (serving_at _) = inr (inr serving_repeat)
which (serving_at _) (above_at _ _ _) = inr (inr range_serving)
which (serving_at _) (again_at _ _ _ _ _) = inr (inl serving_repeat)
which (serving_at _) (serving_at _) = inl refl

module _ {serving : ℕ} {l : List ℕ} where
  one_place : {place other n m : ℕ} → FirstFault serving l place n → FirstFault serving l other m → place ≡ other
  one_place {place} {other} {n} {m} f g =
      by_case (ltb place other)
      (λ b. absurd (g.first place n (ltb-true place other b) f.fault))
      (λ b. by_case (ltb other place)
      (λ d. absurd (f.first other m (ltb-true other place d) g.fault))
      (λ d. (let x = ltb-false place other b in let y = ltb-false other place d in omega arith)))

  one_number : {place n m : ℕ} → FirstFault serving l place n → FirstFault serving l place m → n ≡ m
  one_number {place} {n} {m} f g =
      ⊎_elim (λ e. e) (⊎_elim (λ b. absurd (g.order n b f.fault)) (λ b. absurd (f.order m b g.fault))) (which f.fault g.fault)

  same_fault : {place other n m : ℕ} → FirstFault serving l place n → FirstFault serving l other m → At n place ≡ At m other
  same_fault {place} {other} {n} {m} f g =
      let e : place ≡ other = one_place f g in
      ap₂ At (one_number (subst (λ (x : ℕ). FirstFault serving l x n) e f) g) e

  -- where the serving channel is in range, no other fault of the first faulty place is there to be told
  pub no_other : serving ≤ 1087 → {place n m : ℕ} → FirstFault serving l place n → Fault serving l place m → m ≡ n
  no_other ranged {place} {n} {m} f g = go f.fault g f.first
    where
      high : {c : ℕ} → get_elem? l place ≡ some c → get_elem? l place ≡ some serving → 1087 < c → ⊥
      high a b h = let z = one_at (sym a ∙ b) in let k = ranged in omega arith

      go : {n m : ℕ} → Fault serving l place n → Fault serving l place m → ((earlier k : ℕ) → earlier < place → ¬ (Fault serving l earlier k)) → m ≡ n
      go (above_at _ _ _) (above_at _ _ _) k = refl
      go (above_at c a h) (again_at d q b x y) k = absurd (k q 12 x (above_at c (y ∙ sym b ∙ a) h))
      go (above_at c a h) (serving_at b) k = absurd (high a b h)
      go (again_at d q b x y) (above_at c a h) k = absurd (k q 12 x (above_at c (y ∙ sym b ∙ a) h))
      go (again_at _ _ _ _ _) (again_at _ _ _ _ _) k = refl
      go (again_at d q b x y) (serving_at a) k = absurd (k q 14 x (serving_at (y ∙ sym b ∙ a)))
      go (serving_at b) (above_at c a h) k = absurd (high a b h)
      go (serving_at a) (again_at d q b x y) k = absurd (k q 14 x (serving_at (y ∙ sym b ∙ a)))
      go (serving_at _) (serving_at _) k = refl

-- ---- what the rule comes to

-- a list is too long, or has a first fault, or is faulty in no way
pub data ListKind (serving : ℕ) (l : List ℕ) : Type 0 where
  is_long : 6 < length l → ListKind serving l
  has_fault : (place n : ℕ) → length l ≤ 6 → FirstFault serving l place n → ListKind serving l
  is_sound : ¬ (Faulty serving l) → ListKind serving l

module _ (serving : ℕ) (l : List ℕ) where
  short_kind : length l ≤ 6 → Walked serving l [] l → ListKind serving l
  short_kind h (found place n f w) = has_fault place n h f
  short_kind h (clear k w) = is_sound (λ f. (let r = faulty_fault serving l h f in k r.0 r.1 (fault_within r.2) r.2))

  pub list_kind : ListKind serving l
  list_kind =
      by_case (leb (length l) list_limit)
      (λ b. short_kind (leb-true (length l) list_limit b) (walked serving l))
      (λ b. is_long (leb-false (length l) list_limit b))

  module _ (a : Told Unit) where
    pub long_refused : 6 < length l → unless_faulty serving l a ≡ refused (Alone 11)
    long_refused h = refuse_now _ _ (lt-leb (length l) list_limit h)

    from_walk : {place n : ℕ} → FirstFault serving l place n → Walked serving l [] l → unless_faulty_from serving [] l a ≡ refused (At n place)
    from_walk f (found other m g w) = w a ∙ ap refused (same_fault g f)
    from_walk f (clear k w) = absurd (k _ _ (fault_within f.fault) f.fault)

    pub fault_refused : {place n : ℕ} → length l ≤ 6 → FirstFault serving l place n → unless_faulty serving l a ≡ refused (At n place)
    fault_refused h f = refuse_later _ (le-leb (length l) list_limit h) (from_walk f (walked serving l))

    clear_walk : ¬ (Faulty serving l) → Walked serving l [] l → unless_faulty_from serving [] l a ≡ a
    clear_walk n (found place m f w) = absurd (n (fault_faulty serving l f.fault))
    clear_walk n (clear k w) = w a

    pub sound_allowed : ¬ (Faulty serving l) → unless_faulty serving l a ≡ a
    sound_allowed n =
        by_case (leb (length l) list_limit)
        (λ b. refuse_later _ b (clear_walk n (walked serving l)))
        (λ b. absurd (n (too_long (leb-false (length l) list_limit b))))
