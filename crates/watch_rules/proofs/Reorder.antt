-- Lists that have each channel as often as each other come from each other by swaps of neighbours, so they are equally long. All else that is
-- asked of a list goes by how often a channel is in it.
use Prim.Native.Nat.{ℕ, suc, ◌<◌}
use mathlib.Core.Path.{◌≡◌, refl, sym, ap, subst, ◌∙◌}
use mathlib.Core.Bool.{Bool, true, false, cond}
use mathlib.Core.List.{List, [], ◌∷◌}
use native.Mathlib.Omega.{arith}
use lib.Dec.{eqb}
use lib.ListN.{length}
use borrow.Author.Tests.{eqb-true, eq-eqb}
use Rattle.watch_rules.specs.Lists.{mem, times_in}
use Rattle.watch_rules.specs.Refusals.{Faulty, too_long, above, repeated, serving_in}
use Rattle.watch_rules.specs.Claims.{Reordered}
use Rattle.watch_rules.proofs.Laws.{by_case, clash}
use Rattle.watch_rules.proofs.Words.{mem_times, times_mem}

-- ---- from counts to swaps

data Swaps : List ℕ → List ℕ → Type 0 where
  done : Swaps [] []
  keep : (c : ℕ) {l m : List ℕ} → Swaps l m → Swaps (c ∷ l) (c ∷ m)
  swap : (c d : ℕ) (l : List ℕ) → Swaps (c ∷ d ∷ l) (d ∷ c ∷ l)
  both : {l m n : List ℕ} → Swaps l m → Swaps m n → Swaps l n

unswapped : (l : List ℕ) → Swaps l l
unswapped [] = done
unswapped (c ∷ l) = keep c (unswapped l)

-- a list without the first c
without : ℕ → List ℕ → List ℕ
without c [] = []
without c (d ∷ l) = cond (eqb d c) l (d ∷ without c l)

-- c brought to the front of a list that has it
to_front : (c : ℕ) (m : List ℕ) → 0 < times_in c m → Swaps (c ∷ without c m) m
unfolding without
to_front c [] h = absurd (omega arith)
to_front c (d ∷ m) h =
    by_case (eqb d c)
    (λ q. let e : d ≡ c = eqb-true d c q in rw (q, e) (unswapped (c ∷ m)))
    (λ q. let k : times_in c (d ∷ m) ≡ times_in c m = rw q in rw q (both (swap c d (without c m)) (keep d (to_front c m (omega arith)))))

times_self : (c : ℕ) (l : List ℕ) → times_in c (c ∷ l) ≡ suc (times_in c l)
times_self c l = rw (eq-eqb c c refl)

times_swaps : {l m : List ℕ} → Swaps l m → (d : ℕ) → times_in d l ≡ times_in d m
times_swaps done d = refl
times_swaps (keep c s) d = ap (λ (n : ℕ). cond (eqb c d) (suc n) n) (times_swaps s d)
times_swaps (swap b c l) d = go (eqb b d) (eqb c d)
  where
    go : (x y : Bool) → cond x (suc (cond y (suc (times_in d l)) (times_in d l))) (cond y (suc (times_in d l)) (times_in d l))
        ≡ cond y (suc (cond x (suc (times_in d l)) (times_in d l))) (cond x (suc (times_in d l)) (times_in d l))
    go true true = refl
    go true false = refl
    go false true = refl
    go false false = refl
times_swaps (both r s) d = times_swaps r d ∙ times_swaps s d

-- what is left once the same channel is taken from both
times_cancel : (c d : ℕ) (l m : List ℕ) → times_in d (c ∷ l) ≡ times_in d (c ∷ m) → times_in d l ≡ times_in d m
times_cancel c d l m e =
    by_case (eqb c d)
    (λ q. let f : suc (times_in d l) ≡ suc (times_in d m) = rw q at e in omega arith)
    (λ q. let f : times_in d l ≡ times_in d m = rw q at e in f)

reordered_swaps : (l m : List ℕ) → Reordered l m → Swaps l m
reordered_swaps [] [] r = done
reordered_swaps [] (c ∷ m) r = absurd (let e = times_self c m in let f = r c in omega arith)
reordered_swaps (c ∷ l) m r =
    let there : 0 < times_in c m = (let e = times_self c l in let f = r c in omega arith) in
    let front : Swaps (c ∷ without c m) m = to_front c m there in
    let less : Reordered l (without c m) = λ d. times_cancel c d l (without c m) (r d ∙ sym (times_swaps front d)) in
    both (keep c (reordered_swaps l (without c m) less)) front

length_swaps : {l m : List ℕ} → Swaps l m → length l ≡ length m
length_swaps done = refl
length_swaps (keep c r) = ap suc (length_swaps r)
length_swaps (swap c d l) = refl
length_swaps (both r s) = length_swaps r ∙ length_swaps s

-- ---- what the watch asks of a list

module _ (l m : List ℕ) (r : Reordered l m) where
  pub length-reordered : length l ≡ length m
  length-reordered = length_swaps (reordered_swaps l m r)

  as_often : (c n : ℕ) → n < times_in c l → n < times_in c m
  as_often c n h = subst (λ (k : ℕ). n < k) (r c) h

  pub faulty_reordered : (s : ℕ) → Faulty s l → Faulty s m
  faulty_reordered s (too_long h) = too_long (subst (λ (k : ℕ). 6 < k) length-reordered h)
  faulty_reordered s (above c t h) = above c (as_often c 0 t) h
  faulty_reordered s (repeated c t) = repeated c (as_often c 1 t)
  faulty_reordered s (serving_in t) = serving_in (as_often s 0 t)

  still_in : (c : ℕ) → mem c l ≡ true → mem c m ≡ true
  still_in c e = times_mem c m (as_often c 0 (mem_times c l e))

pub mem_reordered : (l m : List ℕ) → Reordered l m → (c : ℕ) → mem c l ≡ mem c m
mem_reordered l m r c =
    by_case (mem c l)
    (λ e. e ∙ sym (still_in l m r c e))
    (λ e. by_case (mem c m) (λ f. clash (still_in m l (λ (d : ℕ). sym (r d)) c f) e) (λ f. e ∙ sym f))
