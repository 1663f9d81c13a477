-- Whole numbers with a sign, for arithmetic by `omega`: a number is what it has above 0 less what it has below, and orders and differences
-- are those of these two parts.
use Prim.Native.Nat.{ℕ, zero, suc, ◌+◌, ◌≤◌, ◌<◌}
use mathlib.Core.Path.{◌≡◌, refl, sym, ap}
use mathlib.Core.Bool.{true, false, false≢true}
use mathlib.Core.Logic.{◌⊎◌, inl, inr, ⊎_elim}
use native.Mathlib.Nat.{not-suc-le-zero}
use native.Mathlib.Omega.{arith}
use lib.IntN.{ℤ, pos, negsuc, nat_abs, sub_ℕ, ◌-ℤ◌}
use lib.Signed.{le_z, lt_z, non_neg}
use lib.Dec.{T, ltb}
use borrow.Table.Steps.{cases}
use borrow.Author.Tests.{leb-true, ltb-true, ltb-false, le-leb, lt-ltb, le-ltb}

pub above : ℤ → ℕ
above (pos n) = n
above (negsuc n) = 0

pub below : ℤ → ℕ
below (pos n) = 0
below (negsuc n) = suc n

-- one of the two parts is 0, and the size is the other
pub one-part : (x : ℤ) → (above x ≡ 0) ⊎ (below x ≡ 0)
unfolding above below
one-part (pos n) = inr refl
one-part (negsuc n) = inl refl

pub size-parts : (x : ℤ) → nat_abs x ≡ above x + below x
unfolding above below
size-parts (pos n) = omega arith
size-parts (negsuc n) = omega arith

-- ---- orders

pub le_parts : (x y : ℤ) → le_z x y ≡ true → above x + below y ≤ above y + below x
unfolding above below
le_parts (pos m) (pos n) e = let h = leb-true m n e in omega arith
le_parts (pos m) (negsuc n) e = absurd (false≢true e)
le_parts (negsuc m) (pos n) e = omega arith
le_parts (negsuc m) (negsuc n) e = let h = leb-true n m e in omega arith

pub parts-le : (x y : ℤ) → above x + below y ≤ above y + below x → le_z x y ≡ true
unfolding above below
parts-le (pos m) (pos n) h = le-leb m n (omega arith)
parts-le (pos m) (negsuc n) h = absurd (not-suc-le-zero {n = 0} (omega arith))
parts-le (negsuc m) (pos n) h = refl
parts-le (negsuc m) (negsuc n) h = le-leb n m (omega arith)

pub lt-parts : (x y : ℤ) → lt_z x y ≡ true → above x + below y < above y + below x
unfolding above below
lt-parts (pos m) (pos n) e = let h = ltb-true m n e in omega arith
lt-parts (pos m) (negsuc n) e = absurd (false≢true e)
lt-parts (negsuc m) (pos n) e = omega arith
lt-parts (negsuc m) (negsuc n) e = let h = ltb-true n m e in omega arith

pub parts-lt : (x y : ℤ) → above x + below y < above y + below x → lt_z x y ≡ true
unfolding above below
parts-lt (pos m) (pos n) h = lt-ltb m n (omega arith)
parts-lt (pos m) (negsuc n) h = absurd (not-suc-le-zero {n = 0} (omega arith))
parts-lt (negsuc m) (pos n) h = refl
parts-lt (negsuc m) (negsuc n) h = lt-ltb n m (omega arith)

-- not less
pub parts-not-lt : (x y : ℤ) → above y + below x ≤ above x + below y → lt_z x y ≡ false
unfolding above below
parts-not-lt (pos m) (pos n) h = le-ltb m n (omega arith)
parts-not-lt (pos m) (negsuc n) h = refl
parts-not-lt (negsuc m) (pos n) h = absurd (not-suc-le-zero {n = 0} (omega arith))
parts-not-lt (negsuc m) (negsuc n) h = le-ltb n m (omega arith)

pub not-lt-parts : (x y : ℤ) → lt_z x y ≡ false → above y + below x ≤ above x + below y
unfolding above below
not-lt-parts (pos m) (pos n) e = let h = ltb-false m n e in omega arith
not-lt-parts (pos m) (negsuc n) e = omega arith
not-lt-parts (negsuc m) (pos n) e = absurd (false≢true (sym e))
not-lt-parts (negsuc m) (negsuc n) e = let h = ltb-false n m e in omega arith

pub parts_same : (x y : ℤ) → above x + below y ≡ above y + below x → x ≡ y
unfolding above below
parts_same (pos m) (pos n) h = ap pos (omega arith)
parts_same (pos m) (negsuc n) h = absurd (not-suc-le-zero {n = 0} (omega arith))
parts_same (negsuc m) (pos n) h = absurd (not-suc-le-zero {n = 0} (omega arith))
parts_same (negsuc m) (negsuc n) h = ap negsuc (omega arith)

-- ---- a difference

sub-nat : (m n : ℕ) → above (sub_ℕ m n) + n ≡ below (sub_ℕ m n) + m
unfolding above below
sub-nat m n =
    cases (ltb m n)
    (λ t. let h = ltb-true m n t in rw t (omega arith))
    (λ t. let h = ltb-false m n t in rw t (omega arith))

pub sub_parts : (x y : ℤ) → above (x -ℤ y) + below x + above y ≡ below (x -ℤ y) + above x + below y
unfolding above below
sub_parts (pos m) (pos zero) = omega arith
sub_parts (pos m) (pos (suc n)) = let h = sub-nat m (suc n) in omega arith
sub_parts (pos m) (negsuc n) = omega arith
sub_parts (negsuc m) (pos zero) = let h = sub-nat 0 (suc m) in omega arith
sub_parts (negsuc m) (pos (suc n)) = omega arith
sub_parts (negsuc m) (negsuc n) = let h = sub-nat (suc n) (suc m) in omega arith

-- a difference that is not negative is its size
pub sub-size : (x y : ℤ) → le_z y x ≡ true → nat_abs (x -ℤ y) + below x + above y ≡ above x + below y
sub-size x y e =
    let h = le_parts y x e in
    let d = sub_parts x y in
    let n = size-parts (x -ℤ y) in
    ⊎_elim (λ (z : above (x -ℤ y) ≡ 0). omega arith) (λ (z : below (x -ℤ y) ≡ 0). omega arith) (one-part (x -ℤ y))

-- and so is a number that is not negative
pub own-size : (x : ℤ) → le_z (pos 0) x ≡ true → nat_abs x + below x ≡ above x
unfolding above below
own-size (pos n) e = omega arith
own-size (negsuc n) e = absurd (false≢true e)

-- a difference that is not negative, as a signed number
pub sub-nonneg : (x y : ℤ) → le_z y x ≡ true → T (non_neg (x -ℤ y))
unfolding above below
sub-nonneg x y e =
    let h = le_parts y x e in
    let d = sub_parts x y in
    zero-below (x -ℤ y) (⊎_elim (λ (z : above (x -ℤ y) ≡ 0). omega arith) (λ (z : below (x -ℤ y) ≡ 0). z) (one-part (x -ℤ y)))
  where
    zero-below : (w : ℤ) → below w ≡ 0 → T (non_neg w)
    zero-below (pos n) z = tt
    zero-below (negsuc n) z = absurd (not-suc-le-zero {n = 0} (omega arith))

-- ---- numbers that are not negative

pub not_negative : (x : ℤ) → le_z (pos 0) x ≡ true → T (non_neg x)
not_negative (pos n) e = tt
not_negative (negsuc n) e = absurd (false≢true e)

pub size-le : (x y : ℤ) → le_z (pos 0) x ≡ true → le_z x y ≡ true → nat_abs x ≤ nat_abs y
size-le (pos m) (pos n) p q = leb-true m n q
size-le (pos m) (negsuc n) p q = absurd (false≢true q)
size-le (negsuc m) y p q = absurd (false≢true p)
