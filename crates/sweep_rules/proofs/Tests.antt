-- Laws of a test over the numbers below n: it holds of all of them, or of so many. Each is an induction on n.
use Prim.Native.Nat.{ℕ, zero, suc, ◌+◌, ◌≤◌, ◌<◌}
use mathlib.Core.Path.{◌≡◌, refl, sym, ap, ap₂, ◌∙◌}
use mathlib.Core.Bool.{Bool, true, false, ◌&&◌, cond, false≢true, and-true, and_assoc}
use mathlib.Core.Logic.{◌⊎◌, inl, inr, ⊎_elim}
use native.Mathlib.Nat.{not-suc-le-zero, eq-or-lt_of_le, le_of_suc-le-suc, add-zero, add-suc}
use native.Mathlib.Omega.{arith}
use lib.Dec.{eqb}
use borrow.Author.Tests.{eqb-true, eqb-false}
use Rattle.sweep_rules.specs.Map.{all_below, how_many}
use Rattle.sweep_rules.specs.Record.{implies}

-- a test holds or not
pub which : (b : Bool) → (b ≡ true) ⊎ (b ≡ false)
which true = inl refl
which false = inr refl

-- two numbers are equal or not
pub same_or_not : (a b : ℕ) → (a ≡ b) ⊎ (a ≡ b → ⊥)
same_or_not a b = ⊎_elim (λ (t : eqb a b ≡ true). inl (eqb-true a b t)) (λ (t : eqb a b ≡ false). inr (eqb-false a b t)) (which (eqb a b))

pub both : {a b : Bool} → a ≡ true → b ≡ true → (a && b) ≡ true
both p q = rw (p, q)

pub left : (a b : Bool) → (a && b) ≡ true → a ≡ true
left true b e = refl
left false b e = e

pub right : (a b : Bool) → (a && b) ≡ true → b ≡ true
right true b e = e
right false b e = absurd (false≢true e)

-- a test that cannot hold fails
pub fails : (b : Bool) → (b ≡ true → ⊥) → b ≡ false
fails true n = absurd (n refl)
fails false n = refl

-- a test does not hold and fail
pub clash : {b : Bool} → b ≡ true → b ≡ false → ⊥
clash p q = false≢true (sym q ∙ p)

-- two tests that hold together are one
pub same_test : (a b : Bool) → (a ≡ true → b ≡ true) → (b ≡ true → a ≡ true) → a ≡ b
same_test true b f g = sym (f refl)
same_test false true f g = g refl
same_test false false f g = refl

-- where a test follows from another
pub implied : (a b : Bool) → (a ≡ true → b ≡ true) → implies a b ≡ true
implied true b f = f refl
implied false b f = refl

pub follows : (a b : Bool) → implies a b ≡ true → a ≡ true → b ≡ true
follows true b i e = i
follows false b i e = absurd (false≢true e)

pub each_all : (n : ℕ) (p : ℕ → Bool) → ((c : ℕ) → c < n → p c ≡ true) → all_below n p ≡ true
unfolding all_below
each_all zero p h = refl
each_all (suc n) p h = both (each_all n p (λ c l. h c (omega arith))) (h n (omega arith))

pub all_each : (n : ℕ) (p : ℕ → Bool) → all_below n p ≡ true → (c : ℕ) → c < n → p c ≡ true
unfolding all_below
all_each zero p e c h = absurd (not-suc-le-zero h)
all_each (suc n) p e c h = ⊎_elim
    (λ (q : c ≡ n). ap p q ∙ right (all_below n p) (p n) e)
    (λ (l : c < n). all_each n p (left (all_below n p) (p n) e) c l)
    (eq-or-lt_of_le (le_of_suc-le-suc h))

-- the numbers below a, and the b numbers from a on
pub all_split : (p : ℕ → Bool) (a b : ℕ) → all_below (a + b) p ≡ (all_below a p && all_below b (λ c. p (a + c)))
unfolding all_below
all_split p a zero = ap (λ (n : ℕ). all_below n p) (add-zero a) ∙ sym (and-true (all_below a p))
all_split p a (suc b) =
    ap (λ (n : ℕ). all_below n p) (add-suc a b)
    ∙ ap (λ (t : Bool). t && p (a + b)) (all_split p a b)
    ∙ and_assoc (all_below a p) (all_below b (λ c. p (a + c))) (p (a + b))

pub all_same : (p q : ℕ → Bool) (n : ℕ) → ((c : ℕ) → c < n → p c ≡ q c) → all_below n p ≡ all_below n q
unfolding all_below
all_same p q zero h = refl
all_same p q (suc n) h = ap₂ (λ (a b : Bool). a && b) (all_same p q n (λ c l. h c (omega arith))) (h n (omega arith))

-- ---- how many

-- the numbers below a, and the b numbers from a on
pub many_split : (p : ℕ → Bool) (a b : ℕ) → how_many (a + b) p ≡ how_many a p + how_many b (λ c. p (a + c))
unfolding how_many
many_split p a zero = ap (λ (n : ℕ). how_many n p) (add-zero a) ∙ sym (add-zero (how_many a p))
many_split p a (suc b) = ap (λ (n : ℕ). how_many n p) (add-suc a b) ∙ one_more_lem (p (a + b)) (how_many (a + b) p) (how_many a p) (how_many b (λ c. p (a + c))) (many_split p a b)
  where
    one_more_lem : (t : Bool) (x y z : ℕ) → x ≡ y + z → cond t (suc x) x ≡ y + cond t (suc z) z
    one_more_lem true x y z e = omega arith
    one_more_lem false x y z e = e

pub many_le : (p : ℕ → Bool) (n : ℕ) → how_many n p ≤ n
unfolding how_many
many_le p zero = omega arith
many_le p (suc n) = at_most (p n) (how_many n p) (many_le p n)
  where
    at_most : (t : Bool) (x : ℕ) → x ≤ n → cond t (suc x) x ≤ suc n
    at_most true x h = omega arith
    at_most false x h = omega arith

module _ (p q : ℕ → Bool) where
  pub many_same : (n : ℕ) → ((c : ℕ) → c < n → p c ≡ q c) → how_many n p ≡ how_many n q
  unfolding how_many
  many_same zero h = refl
  many_same (suc n) h = let e = h n (omega arith) in
      let r = many_same n (λ c l. h c (omega arith)) in
      rw (e, r)

  -- one more: a number that passes q and not p, where the two agree at every other
  pub many_more : (c : ℕ) → p c ≡ false → q c ≡ true → ((d : ℕ) → (d ≡ c → ⊥) → p d ≡ q d) → (n : ℕ) → c < n → how_many n q ≡ suc (how_many n p)
  unfolding how_many
  many_more c pc qc h zero l = absurd (not-suc-le-zero l)
  many_more c pc qc h (suc n) l = ⊎_elim
      (λ (e : c ≡ n).
      let r = many_same n (λ d m. h d (λ (x : d ≡ c). not-suc-le-zero {n = 0} (omega arith))) in
      rw (← e, pc, qc, e, r))
      (λ (m : c < n).
      let r = many_more c pc qc h n m in
      let e = h n (λ (x : n ≡ c). not-suc-le-zero {n = 0} (omega arith)) in
      ap (λ (b : Bool). cond b (suc (how_many n q)) (how_many n q)) (sym e) ∙ lifted (p n) (how_many n q) (how_many n p) r)
      (eq-or-lt_of_le (le_of_suc-le-suc l))
    where
      lifted : (b : Bool) (x y : ℕ) → x ≡ suc y → cond b (suc x) x ≡ suc (cond b (suc y) y)
      lifted true x y e = ap suc e
      lifted false x y e = e

  -- a test that holds only where another does, of as many numbers, holds of the same
  pub many_implied : (n : ℕ) → ((c : ℕ) → c < n → p c ≡ true → q c ≡ true) → how_many n p ≤ how_many n q
  unfolding how_many
  many_implied zero h = omega arith
  many_implied (suc n) h = by (p n) (q n) (h n (omega arith)) (how_many n p) (how_many n q) (many_implied n (λ c l. h c (omega arith)))
    where
      by : (a b : Bool) → (a ≡ true → b ≡ true) → (x y : ℕ) → x ≤ y → cond a (suc x) x ≤ cond b (suc y) y
      by true true f x y l = omega arith
      by true false f x y l = absurd (false≢true (f refl))
      by false true f x y l = omega arith
      by false false f x y l = l

  pub many_all : (n : ℕ) → ((c : ℕ) → c < n → p c ≡ true → q c ≡ true) → how_many n q ≤ how_many n p → (c : ℕ) → c < n → q c ≡ true → p c ≡ true
  unfolding how_many
  many_all zero h m c l t = absurd (not-suc-le-zero l)
  many_all (suc n) h m c l t =
      let r = by (p n) (q n) (h n (omega arith)) (how_many n p) (how_many n q) (many_implied n (λ d k. h d (omega arith))) m in
      ⊎_elim
      (λ (e : c ≡ n). ap p e ∙ r.1 (sym (ap q e) ∙ t))
      (λ (k : c < n). many_all n (λ d j. h d (omega arith)) r.0 c k t)
      (eq-or-lt_of_le (le_of_suc-le-suc l))
    where
      by : (a b : Bool) → (a ≡ true → b ≡ true) → (x y : ℕ) → x ≤ y → cond b (suc y) y ≤ cond a (suc x) x → (y ≤ x) × (b ≡ true → a ≡ true)
      by true true f x y l m = (omega arith, λ e. refl)
      by true false f x y l m = absurd (false≢true (f refl))
      by false true f x y l m = absurd (not-suc-le-zero {n = 0} (omega arith))
      by false false f x y l m = (m, λ e. e)

pub many_none : (p : ℕ → Bool) (n : ℕ) → ((c : ℕ) → p c ≡ false) → how_many n p ≡ 0
unfolding how_many
many_none p zero h = refl
many_none p (suc n) h = rw (h n) (many_none p n h)
