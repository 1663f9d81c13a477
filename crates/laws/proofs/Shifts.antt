-- Whole numbers with a sign: adding the same number to two of them leaves their order, shown for one step up, and so for any number of
-- steps up or down; and how far one lies below another.
use Prim.Native.Nat.{ℕ, zero, suc, ◌+◌, ◌-◌, ◌≤◌, ◌<◌}
use mathlib.Core.Path.{◌≡◌, refl, sym, ap, ap₂, ◌∙◌}
use mathlib.Core.Bool.{true, false, not}
use native.Mathlib.Omega.{arith}
use lib.Dec.{leb, ltb}
use lib.IntN.{ℤ, pos, negsuc, neg_ℤ, nat_abs, suc_ℤ, pred_ℤ, ◌+ℤ◌, ◌-ℤ◌, suc-pred, suc_ℤ-+ℤ, pred_ℤ-+ℤ, +ℤ_idl, +ℤ_assoc, +ℤ_comm, +ℤ_invr}
use lib.IntN.{neg_ℤ-+ℤ, neg_ℤ-neg_ℤ}
use lib.Signed.{lt_z, le_z}
use borrow.Table.Steps.{cases}
use borrow.Author.Tests.{not-true, ltb-true, ltb-false, lt-ltb, le-ltb, le-leb, lt-leb}
use Rattle.laws.proofs.Tests.{clash}

ltb_suc : (a b : ℕ) → ltb (suc a) (suc b) ≡ ltb a b
ltb_suc a b =
    cases (ltb a b)
    (λ e. lt-ltb (suc a) (suc b) (omega (arith, ltb-true a b e)) ∙ sym e)
    (λ e. le-ltb (suc a) (suc b) (omega (arith, ltb-false a b e)) ∙ sym e)

leb_not_ltb : (a b : ℕ) → leb a b ≡ not (ltb b a)
leb_not_ltb a b =
    cases (ltb b a)
    (λ q. rw q (lt-leb a b (ltb-true b a q)))
    (λ q. rw q (le-leb a b (ltb-false b a q)))

pub le_z_not_lt_z : (a b : ℤ) → le_z a b ≡ not (lt_z b a)
le_z_not_lt_z (pos a) (pos b) = leb_not_ltb a b
le_z_not_lt_z (pos a) (negsuc b) = refl
le_z_not_lt_z (negsuc a) (pos b) = refl
le_z_not_lt_z (negsuc a) (negsuc b) = leb_not_ltb b a

-- one step up
order_up : (a b : ℤ) → lt_z (suc_ℤ a) (suc_ℤ b) ≡ lt_z a b
order_up (pos a) (pos b) = ltb_suc a b
order_up (pos a) (negsuc zero) = le-ltb (suc a) 0 (omega arith)
order_up (pos a) (negsuc (suc b)) = refl
order_up (negsuc zero) (pos b) = lt-ltb 0 (suc b) (omega arith)
order_up (negsuc zero) (negsuc zero) = refl
order_up (negsuc zero) (negsuc (suc b)) = sym (le-ltb (suc b) 0 (omega arith))
order_up (negsuc (suc a)) (pos b) = refl
order_up (negsuc (suc a)) (negsuc zero) = sym (lt-ltb 0 (suc a) (omega arith))
order_up (negsuc (suc a)) (negsuc (suc b)) = sym (ltb_suc b a)

order_down : (a b : ℤ) → lt_z (pred_ℤ a) (pred_ℤ b) ≡ lt_z a b
order_down a b = sym (order_up (pred_ℤ a) (pred_ℤ b)) ∙ ap₂ lt_z (suc-pred a) (suc-pred b)

-- any number of steps
many_up : (n : ℕ) (a b : ℤ) → lt_z (pos n +ℤ a) (pos n +ℤ b) ≡ lt_z a b
many_up zero a b = ap₂ lt_z (+ℤ_idl a) (+ℤ_idl b)
many_up (suc n) a b =
    ap₂ lt_z (suc_ℤ-+ℤ (pos n) a) (suc_ℤ-+ℤ (pos n) b) ∙ order_up (pos n +ℤ a) (pos n +ℤ b) ∙ many_up n a b

many_down : (n : ℕ) (a b : ℤ) → lt_z (negsuc n +ℤ a) (negsuc n +ℤ b) ≡ lt_z a b
many_down zero a b =
    ap₂ lt_z (pred_ℤ-+ℤ (pos 0) a) (pred_ℤ-+ℤ (pos 0) b) ∙ order_down (pos 0 +ℤ a) (pos 0 +ℤ b) ∙ many_up 0 a b
many_down (suc n) a b =
    ap₂ lt_z (pred_ℤ-+ℤ (negsuc n) a) (pred_ℤ-+ℤ (negsuc n) b) ∙ order_down (negsuc n +ℤ a) (negsuc n +ℤ b) ∙ many_down n a b

order_shifted : (t a b : ℤ) → lt_z (t +ℤ a) (t +ℤ b) ≡ lt_z a b
order_shifted (pos n) a b = many_up n a b
order_shifted (negsuc n) a b = many_down n a b

-- the farther below t, the lower
below-zero : (a b : ℕ) → lt_z (neg_ℤ (pos a)) (neg_ℤ (pos b)) ≡ ltb b a
below-zero zero zero = refl
below-zero zero (suc b) = sym (le-ltb (suc b) 0 (omega arith))
below-zero (suc a) zero = sym (lt-ltb 0 (suc a) (omega arith))
below-zero (suc a) (suc b) = sym (ltb_suc b a)

pub order_below : (t : ℤ) (a b : ℕ) → lt_z (t -ℤ pos a) (t -ℤ pos b) ≡ ltb b a
order_below t a b = order_shifted t (neg_ℤ (pos a)) (neg_ℤ (pos b)) ∙ below-zero a b

-- m added to what is l below 0 stays under what is g below 0
raised_zero : (l m g : ℕ) → lt_z (neg_ℤ (pos l) +ℤ pos m) (neg_ℤ (pos g)) ≡ ltb (g + m) l
raised_zero zero m zero = le-ltb (0 + m) 0 (omega arith) ∙ sym (le-ltb (0 + m) 0 (omega arith))
raised_zero zero m (suc g) = sym (le-ltb (suc g + m) 0 (omega arith))
raised_zero (suc l) m g =
    cases (ltb m (suc l))
    (λ e. rw e (under g (ltb-true m (suc l) e)))
    (λ e. rw e (over g (ltb-false m (suc l) e)))
  where
    under : (k : ℕ) → m < suc l → lt_z (negsuc (suc l - suc m)) (neg_ℤ (pos k)) ≡ ltb (k + m) (suc l)
    under zero h = sym (lt-ltb (0 + m) (suc l) (omega arith))
    under (suc k) h =
        cases (ltb k (suc l - suc m))
        (λ e. e ∙ sym (lt-ltb (suc k + m) (suc l) (let q = ltb-true k (suc l - suc m) e in omega arith)))
        (λ e. e ∙ sym (le-ltb (suc k + m) (suc l) (let q = ltb-false k (suc l - suc m) e in omega arith)))

    over : (k : ℕ) → suc l ≤ m → lt_z (pos (m - suc l)) (neg_ℤ (pos k)) ≡ ltb (k + m) (suc l)
    over zero h = le-ltb (m - suc l) 0 (omega arith) ∙ sym (le-ltb (0 + m) (suc l) (omega arith))
    over (suc k) h = sym (le-ltb (suc k + m) (suc l) (omega arith))

pub order_raised : (t : ℤ) (l m g : ℕ) → lt_z (t -ℤ pos l +ℤ pos m) (t -ℤ pos g) ≡ ltb (g + m) l
order_raised t l m g =
    ap (λ (z : ℤ). lt_z z (t -ℤ pos g)) (+ℤ_assoc t (neg_ℤ (pos l)) (pos m))
    ∙ order_shifted t (neg_ℤ (pos l) +ℤ pos m) (neg_ℤ (pos g))
    ∙ raised_zero l m g

-- what t is above x, below t, is x
pub minus_minus : (t x : ℤ) → t -ℤ (t -ℤ x) ≡ x
minus_minus t x =
    ap (λ (z : ℤ). t +ℤ z) (neg_ℤ-+ℤ t (neg_ℤ x) ∙ ap (λ (z : ℤ). neg_ℤ t +ℤ z) (neg_ℤ-neg_ℤ x))
    ∙ sym (+ℤ_assoc t (neg_ℤ t) x)
    ∙ ap (λ (z : ℤ). z +ℤ x) (+ℤ_invr t)
    ∙ +ℤ_idl x

-- a number that is not below 0 is its size
pub size_is : (z : ℤ) → lt_z z (pos 0) ≡ false → z ≡ pos (nat_abs z)
size_is (pos n) e = refl
size_is (negsuc n) e = clash refl e

-- how far x is below t, where it is not above it
pub apart_is : (t x : ℤ) → le_z x t ≡ true → t -ℤ x ≡ pos (nat_abs (t -ℤ x))
apart_is t x e =
    size_is (t -ℤ x)
    (ap₂ lt_z (+ℤ_comm t (neg_ℤ x)) (sym (+ℤ_comm (neg_ℤ x) x ∙ +ℤ_invr x))
    ∙ order_shifted (neg_ℤ x) t x
    ∙ not-true (lt_z t x) (sym (le_z_not_lt_z x t) ∙ e)
    )

-- ---- the difference of two natural numbers

pub sub-le : (a b : ℕ) → b ≤ a → pos a -ℤ pos b ≡ pos (a - b)
sub-le a zero h = ap pos (omega arith)
sub-le a (suc b) h = rw (le-ltb a (suc b) h)

pub sub_lt : (a b : ℕ) → a < b → pos a -ℤ pos b ≡ negsuc (b - suc a)
sub_lt a zero h = absurd (omega arith)
sub_lt a (suc b) h = rw (lt-ltb a (suc b) h)

-- how far a number between two ends lies below the upper one
pub between : (low high x : ℤ) → le_z low high ≡ true → le_z low x ≡ true → le_z x high ≡ true → nat_abs (high -ℤ x) ≤ nat_abs (high -ℤ low)
between low high x o l h =
    ltb-false (nat_abs (high -ℤ low)) (nat_abs (high -ℤ x))
    (sym (order_below high (nat_abs (high -ℤ x)) (nat_abs (high -ℤ low)))
    ∙ ap₂ lt_z (back x h) (back low o)
    ∙ not-true (lt_z x low) (sym (le_z_not_lt_z low x) ∙ l)
    )
  where
    back : (y : ℤ) → le_z y high ≡ true → high -ℤ pos (nat_abs (high -ℤ y)) ≡ y
    back y q = ap (λ (z : ℤ). high -ℤ z) (sym (apart_is high y q)) ∙ minus_minus high y
