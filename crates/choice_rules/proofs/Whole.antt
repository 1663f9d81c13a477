-- Whole numbers with a sign, for arithmetic by `omega`: a number is what it has above 0 less what it has below, and orders and differences
-- are those of these two parts.
use Prim.Native.Nat.{ℕ, zero, suc, ◌+◌, ◌≤◌, ◌<◌}
use mathlib.Core.Path.{◌≡◌, refl, sym, ap, subst}
use mathlib.Core.Bool.{true, false, false≢true}
use mathlib.Core.Logic.{◌⊎◌, inl, inr, ⊎_elim}
use native.Mathlib.Nat.{not-suc-le-zero}
use native.Mathlib.Omega.{arith}
use lib.IntN.{ℤ, pos, negsuc, nat_abs, sub_ℕ, ◌-ℤ◌}
use lib.Signed.{le_z, lt_z, non_neg, ◌≤ℤ◌, ◌<ℤ◌}
use lib.Ieee.Bits.{is_true}
use lib.Dec.{T, ltb}
use borrow.Author.Tests.{leb-true, ltb-true, ltb-false, le-leb, lt-ltb, le-ltb}
use Rattle.sweep_rules.proofs.Tests.{which}

pub above : ℤ → ℕ
above (pos n) = n
above (negsuc n) = 0

pub below : ℤ → ℕ
below (pos n) = 0
below (negsuc n) = suc n

-- one of the two parts is 0, and the size is the other
pub one_part : (x : ℤ) → (above x ≡ 0) ⊎ (below x ≡ 0)
unfolding above below
one_part (pos n) = inr refl
one_part (negsuc n) = inl refl

pub size_parts : (x : ℤ) → nat_abs x ≡ above x + below x
unfolding above below
size_parts (pos n) = omega arith
size_parts (negsuc n) = omega arith

-- ---- orders

-- as facts and as tests
pub le_fact : {x y : ℤ} → le_z x y ≡ true → x ≤ℤ y
le_fact e = record { le = subst T (sym e) tt }

pub fact_le : {x y : ℤ} → x ≤ℤ y → le_z x y ≡ true
fact_le {x} {y} h = is_true (le_z x y) h.le

pub lt_fact : {x y : ℤ} → lt_z x y ≡ true → x <ℤ y
lt_fact e = record { lt = subst T (sym e) tt }

pub le_parts : (x y : ℤ) → le_z x y ≡ true → above x + below y ≤ above y + below x
unfolding above below
le_parts (pos m) (pos n) e = let h = leb-true m n e in omega arith
le_parts (pos m) (negsuc n) e = absurd (false≢true e)
le_parts (negsuc m) (pos n) e = omega arith
le_parts (negsuc m) (negsuc n) e = let h = leb-true n m e in omega arith

pub parts_le : (x y : ℤ) → above x + below y ≤ above y + below x → le_z x y ≡ true
unfolding above below
parts_le (pos m) (pos n) h = le-leb m n (omega arith)
parts_le (pos m) (negsuc n) h = absurd (not-suc-le-zero {n = 0} (omega arith))
parts_le (negsuc m) (pos n) h = refl
parts_le (negsuc m) (negsuc n) h = le-leb n m (omega arith)

pub lt_parts : (x y : ℤ) → lt_z x y ≡ true → above x + below y < above y + below x
unfolding above below
lt_parts (pos m) (pos n) e = let h = ltb-true m n e in omega arith
lt_parts (pos m) (negsuc n) e = absurd (false≢true e)
lt_parts (negsuc m) (pos n) e = omega arith
lt_parts (negsuc m) (negsuc n) e = let h = ltb-true n m e in omega arith

pub parts_lt : (x y : ℤ) → above x + below y < above y + below x → lt_z x y ≡ true
unfolding above below
parts_lt (pos m) (pos n) h = lt-ltb m n (omega arith)
parts_lt (pos m) (negsuc n) h = absurd (not-suc-le-zero {n = 0} (omega arith))
parts_lt (negsuc m) (pos n) h = refl
parts_lt (negsuc m) (negsuc n) h = lt-ltb n m (omega arith)

-- not less
pub parts_not_lt : (x y : ℤ) → above y + below x ≤ above x + below y → lt_z x y ≡ false
unfolding above below
parts_not_lt (pos m) (pos n) h = le-ltb m n (omega arith)
parts_not_lt (pos m) (negsuc n) h = refl
parts_not_lt (negsuc m) (pos n) h = absurd (not-suc-le-zero {n = 0} (omega arith))
parts_not_lt (negsuc m) (negsuc n) h = le-ltb n m (omega arith)

pub not_lt_parts : (x y : ℤ) → lt_z x y ≡ false → above y + below x ≤ above x + below y
unfolding above below
not_lt_parts (pos m) (pos n) e = let h = ltb-false m n e in omega arith
not_lt_parts (pos m) (negsuc n) e = omega arith
not_lt_parts (negsuc m) (pos n) e = absurd (false≢true (sym e))
not_lt_parts (negsuc m) (negsuc n) e = let h = ltb-false n m e in omega arith

pub parts_same : (x y : ℤ) → above x + below y ≡ above y + below x → x ≡ y
unfolding above below
parts_same (pos m) (pos n) h = ap pos (omega arith)
parts_same (pos m) (negsuc n) h = absurd (not-suc-le-zero {n = 0} (omega arith))
parts_same (negsuc m) (pos n) h = absurd (not-suc-le-zero {n = 0} (omega arith))
parts_same (negsuc m) (negsuc n) h = ap negsuc (omega arith)

-- ---- a difference

sub_nat : (m n : ℕ) → above (sub_ℕ m n) + n ≡ below (sub_ℕ m n) + m
unfolding above below
sub_nat m n = ⊎_elim
    (λ (t : ltb m n ≡ true). let h = ltb-true m n t in rw t (omega arith))
    (λ (t : ltb m n ≡ false). let h = ltb-false m n t in rw t (omega arith))
    (which (ltb m n))

pub sub_parts : (x y : ℤ) → above (x -ℤ y) + below x + above y ≡ below (x -ℤ y) + above x + below y
unfolding above below
sub_parts (pos m) (pos zero) = omega arith
sub_parts (pos m) (pos (suc n)) = let h = sub_nat m (suc n) in omega arith
sub_parts (pos m) (negsuc n) = omega arith
sub_parts (negsuc m) (pos zero) = let h = sub_nat 0 (suc m) in omega arith
sub_parts (negsuc m) (pos (suc n)) = omega arith
sub_parts (negsuc m) (negsuc n) = let h = sub_nat (suc n) (suc m) in omega arith

-- a difference that is not negative is its size
pub sub_size : (x y : ℤ) → le_z y x ≡ true → nat_abs (x -ℤ y) + below x + above y ≡ above x + below y
sub_size x y e =
    let h = le_parts y x e in
    let d = sub_parts x y in
    let n = size_parts (x -ℤ y) in
    ⊎_elim (λ (z : above (x -ℤ y) ≡ 0). omega arith) (λ (z : below (x -ℤ y) ≡ 0). omega arith) (one_part (x -ℤ y))

-- and so is a number that is not negative
pub own_size : (x : ℤ) → le_z (pos 0) x ≡ true → nat_abs x + below x ≡ above x
unfolding above below
own_size (pos n) e = omega arith
own_size (negsuc n) e = absurd (false≢true e)

-- a difference that is not negative, as a signed number
pub sub_nonneg : (x y : ℤ) → le_z y x ≡ true → T (non_neg (x -ℤ y))
unfolding above below
sub_nonneg x y e =
    let h = le_parts y x e in
    let d = sub_parts x y in
    zero_below (x -ℤ y) (⊎_elim (λ (z : above (x -ℤ y) ≡ 0). omega arith) (λ (z : below (x -ℤ y) ≡ 0). z) (one_part (x -ℤ y)))
  where
    zero_below : (w : ℤ) → below w ≡ 0 → T (non_neg w)
    zero_below (pos n) z = tt
    zero_below (negsuc n) z = absurd (not-suc-le-zero {n = 0} (omega arith))

-- ---- numbers that are not negative

pub not_negative : (x : ℤ) → le_z (pos 0) x ≡ true → T (non_neg x)
not_negative (pos n) e = tt
not_negative (negsuc n) e = absurd (false≢true e)

pub size-le : (x y : ℤ) → le_z (pos 0) x ≡ true → le_z x y ≡ true → nat_abs x ≤ nat_abs y
size-le (pos m) (pos n) p q = leb-true m n q
size-le (pos m) (negsuc n) p q = absurd (false≢true q)
size-le (negsuc m) y p q = absurd (false≢true p)
