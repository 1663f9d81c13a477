-- Laws of tests: their parts, their opposites, and a value chosen by one. Each goes by cases of the test; `cases`, `not-true` and the laws of
-- `&&` and `||` with a known part are the toolchain's.
use Prim.Native.Nat.{ℕ}
use mathlib.Core.Path.{◌≡◌, refl, sym, ap, ◌∙◌, subst}
use mathlib.Core.Bool.{Bool, true, false, cond, ◌&&◌, ◌||◌, true≢false, false≢true, and-eq-true_iff}
use mathlib.Core.Logic.{◌⊎◌, inl, inr}
use lib.Dec.{T, eqb}
use borrow.Table.Steps.{cases}
use borrow.Author.Tests.{eqb-true, eqb-false, eq-eqb, ne_eqb}
use Rattle.laws.specs.Tests.{implies}

-- ---- a test holds or fails

-- it does not do both
pub clash {ℓ} : {P : Type ℓ} {b : Bool} → b ≡ true → b ≡ false → P
clash p q = absurd (true≢false (sym p ∙ q))

-- one that cannot hold fails
pub fails : (b : Bool) → (b ≡ true → ⊥) → b ≡ false
fails true n = absurd (n refl)
fails false n = refl

-- two that hold together are one
pub same_test : (a b : Bool) → (a ≡ true → b ≡ true) → (b ≡ true → a ≡ true) → a ≡ b
same_test true b f g = sym (f refl)
same_test false true f g = g refl
same_test false false f g = refl

-- as a fact of the library's order
pub T_true : {b : Bool} → b ≡ true → T b
T_true e = subst T (sym e) tt

pub true_t : (b : Bool) → T b → b ≡ true
true_t true t = refl
true_t false t = absurd t

-- ---- both of two, or either

pub and_both : {a b : Bool} → a ≡ true → b ≡ true → (a && b) ≡ true
and_both {a} {b} p q = (and-eq-true_iff a b).1 (p, q)

pub and_left : (a b : Bool) → (a && b) ≡ true → a ≡ true
and_left a b e = ((and-eq-true_iff a b).0 e).0

pub and_right : (a b : Bool) → (a && b) ≡ true → b ≡ true
and_right a b e = ((and-eq-true_iff a b).0 e).1

pub or_false_left : (a b : Bool) → (a || b) ≡ false → a ≡ false
or_false_left true b e = e
or_false_left false b e = refl

pub or_false_right : (a b : Bool) → (a || b) ≡ false → b ≡ false
or_false_right true b e = absurd (true≢false e)
or_false_right false b e = e

pub or_true_right : (a b : Bool) → (a || b) ≡ true → a ≡ false → b ≡ true
or_true_right true b e q = clash refl q
or_true_right false b e q = e

-- ---- one that follows from another

pub implied : (a b : Bool) → (a ≡ true → b ≡ true) → implies a b ≡ true
implied true b f = f refl
implied false b f = refl

pub follows : (a b : Bool) → implies a b ≡ true → a ≡ true → b ≡ true
follows true b i e = i
follows false b i e = absurd (false≢true e)

-- ---- a value chosen by a test

module _ {A : Type 0} where
  pub cond-true : {b : Bool} (x y : A) → b ≡ true → cond b x y ≡ x
  cond-true x y e = ap (λ t. cond t x y) e

  pub cond-false : {b : Bool} (x y : A) → b ≡ false → cond b x y ≡ y
  cond-false x y e = ap (λ t. cond t x y) e

  pub cond_same : (b : Bool) (a : A) → cond b a a ≡ a
  cond_same true a = refl
  cond_same false a = refl

  -- this case of a definition by tests: the code's test t says so
  pub here : {b t : Bool} {x z : A} (y : A) → t ≡ b → t ≡ true → z ≡ x → z ≡ cond b x y
  here {x = x} y is e p = p ∙ sym (cond-true x y (sym is ∙ e))

  -- a later case
  pub later : {b t : Bool} {y z : A} (x : A) → t ≡ b → t ≡ false → z ≡ y → z ≡ cond b x y
  later {y = y} x is e p = p ∙ sym (cond-false x y (sym is ∙ e))

pub cond_map : {A B : Type 0} (f : A → B) (b : Bool) (x y : A) → f (cond b x y) ≡ cond b (f x) (f y)
cond_map f true x y = refl
cond_map f false x y = refl

-- ---- whether two numbers are equal

pub same_or_not : (a b : ℕ) → (a ≡ b) ⊎ (a ≡ b → ⊥)
same_or_not a b = cases (eqb a b) (λ e. inl (eqb-true a b e)) (λ e. inr (eqb-false a b e))

pub eqb_sym : (a b : ℕ) → eqb a b ≡ eqb b a
eqb_sym a b =
    cases (eqb a b)
    (λ e. e ∙ sym (eq-eqb b a (sym (eqb-true a b e))))
    (λ e. e ∙ sym (ne_eqb b a (λ q. eqb-false a b e (sym q))))
