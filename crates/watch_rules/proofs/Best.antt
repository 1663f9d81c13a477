-- The search for the best: of the channels below n that pass a test it finds the one with the greatest sum, the lowest among equals.
-- Channel by channel from below: a later one is taken only where its sum is greater.
use Prim.Native.Nat.{ℕ, zero, suc, ◌≤◌, ◌<◌}
use mathlib.Core.Path.{◌≡◌, refl, sym, ap, ◌∙◌, subst}
use mathlib.Core.Bool.{Bool, true, false, cond}
use mathlib.Core.Option.{Option, none, some}
use native.Mathlib.Omega.{arith}
use lib.Dec.{eqb}
use lib.IntN.{ℤ}
use lib.Signed.{lt_z, ◌≤ℤ◌, ◌<ℤ◌, ≤ℤ_refl, clash_ℤ}
use borrow.Author.Tests.{eqb-true, eqb-false}
use Rattle.watch_rules.specs.Rules.{better, best}
use Rattle.watch_rules.proofs.Laws.{by_case, clash}
use Rattle.watch_rules.proofs.Order.{lt_yes, lt_no, ≤ℤ-trans, <ℤ-≤ℤ}

module _ (test : ℕ → Bool) (f : ℕ → ℤ) where
  -- b is the best of those below n
  pub record BestBelow (n b : ℕ) : Type 0 where
    pub below : b < n
    pub passes : test b ≡ true
    pub greatest : (c : ℕ) → c < n → test c ≡ true → f c ≤ℤ f b
    pub lowest : (c : ℕ) → c < n → test c ≡ true → f c ≡ f b → b ≤ c

  abbrev pub IsBest : ℕ → Option ℕ → Type 0
  IsBest n none = (c : ℕ) → c < n → test c ≡ false
  IsBest n (some b) = BestBelow n b

  -- a channel below n + 1 is n or below n
  split {ℓ} : {P : Type ℓ} (n c : ℕ) → c < suc n → (c ≡ n → P) → (c < n → P) → P
  split n c h x y = by_case (eqb c n) (λ e. x (eqb-true c n e)) (λ e. y (let z = eqb-false c n e in omega arith))

  -- one more that fails the test
  skipped : (n : ℕ) (o : Option ℕ) → test n ≡ false → IsBest n o → IsBest (suc n) o
  skipped n none e x = λ c h. split n c h (λ z. ap test z ∙ e) (λ k. x c k)
  skipped n (some b) e x =
      record {
        below = (let u = x.below in omega arith);
        passes = x.passes;
        greatest = λ c h t. split n c h (λ z. clash t (ap test z ∙ e)) (λ k. x.greatest c k t);
        lowest = λ c h t q. split n c h (λ z. clash t (ap test z ∙ e)) (λ k. x.lowest c k t q);
      }

  -- one more that passes it
  first_one : (n : ℕ) → test n ≡ true → IsBest n none → BestBelow (suc n) n
  first_one n e x =
      record {
        below = omega arith;
        passes = e;
        greatest = λ c h t. split n c h (λ z. subst (λ (k : ℕ). f k ≤ℤ f n) (sym z) (≤ℤ_refl (f n))) (λ k. clash t (x c k));
        lowest = λ c h t q. split n c h (λ z. omega arith) (λ k. clash t (x c k));
      }

  overtaken : (n b : ℕ) → test n ≡ true → BestBelow n b → f b <ℤ f n → BestBelow (suc n) n
  overtaken n b e x l =
      record {
        below = omega arith;
        passes = e;
        greatest = λ c h t. split n c h (λ z. subst (λ (k : ℕ). f k ≤ℤ f n) (sym z) (≤ℤ_refl (f n))) (λ k. ≤ℤ-trans (x.greatest c k t) (<ℤ-≤ℤ (f b) (f n) l));
        lowest = λ c h t q. split n c h (λ z. omega arith) (λ k. clash_ℤ l (subst (λ (y : ℤ). y ≤ℤ f b) q (x.greatest c k t)));
      }

  held : (n b : ℕ) → BestBelow n b → f n ≤ℤ f b → BestBelow (suc n) b
  held n b x l =
      record {
        below = (let u = x.below in omega arith);
        passes = x.passes;
        greatest = λ c h t. split n c h (λ z. subst (λ (k : ℕ). f k ≤ℤ f b) (sym z) l) (λ k. x.greatest c k t);
        lowest = λ c h t q. split n c h (λ z. (let u = x.below in omega arith)) (λ k. x.lowest c k t q);
      }

  -- against the best so far
  against : (n b : ℕ) → test n ≡ true → BestBelow n b → (t : Bool) → lt_z (f b) (f n) ≡ t → IsBest (suc n) (cond t (some n) (some b))
  against n b e x true l = overtaken n b e x (lt_yes (f b) (f n) l)
  against n b e x false l = held n b x (lt_no (f b) (f n) l)

  taken : (n : ℕ) (o : Option ℕ) → test n ≡ true → IsBest n o → IsBest (suc n) (better f n o)
  taken n none e x = first_one n e x
  taken n (some b) e x = against n b e x (lt_z (f b) (f n)) refl

  pub best-is : (n : ℕ) → IsBest n (best test f n)
  unfolding best
  best-is zero = λ c h. absurd (omega arith)
  best-is (suc n) =
      by_case (test n)
      (λ e. rw e (taken n (best test f n) e (best-is n)))
      (λ e. rw e (skipped n (best test f n) e (best-is n)))

-- where none passes the test, none is found
pub best_none : (test : ℕ → Bool) (f : ℕ → ℤ) → ((c : ℕ) → test c ≡ false) → (n : ℕ) → best test f n ≡ none
unfolding best
best_none test f e zero = refl
best_none test f e (suc n) = rw (e n) (best_none test f e n)
