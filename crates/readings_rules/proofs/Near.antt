-- The nearest whole number, said by two bounds: what `nearest_lower` computes, and that it goes by the value of the fraction alone.
use mathlib.Core.Path.{◌≡◌, refl, sym, ap, ◌∙◌, subst}
use mathlib.Core.Bool.{Bool, true, false, not, cond}
use Prim.Native.Nat.{ℕ, zero, suc, ◌+◌, ◌-◌, ◌*◌, ◌/◌, ◌≤◌, ◌<◌}
use native.Mathlib.Nat.{div-eq_of_lt, div-eq_of_lt-le, mul_comm, mul_assoc, mul_left_comm, mul_right_comm, add-mul, suc-mul, mul-le-mul_right, mul-lt-mul_of_pos_right, le_of_mul-le-mul_right, lt_of_mul-lt-mul_right, div-mul-le_self, lt-div-mul-add}
use native.Mathlib.Omega.{arith}
use lib.Dec.{T, ltb, ltb→lt, nltb→le}
use lib.IntN.{ℤ, pos, negsuc, neg_ℤ, neg_ℤ-neg_ℤ, ◌+ℤ◌, ◌-ℤ◌, ◌*ℤ◌}
use lib.Signed.{shr_z}
use Rattle.readings_rules.specs.Rounding.{nearest_lower}
use Rattle.readings_rules.specs.Hundredths.{signed}
use Rattle.readings_rules.specs.Code.{Near}

-- ---- it is what `nearest_lower` computes
quot : (a d k : ℕ) → 2 * (k * d) ≤ a → a < 2 * (k * d) + 2 * d → a / (2 * d) ≡ k
quot a d k l h = div-eq_of_lt-le (2 * d) (omega (arith, mul_left_comm k 2 d)) (omega (arith, add-mul k 1 (2 * d), mul_left_comm k 2 d))

pub no_multiple : (k d : ℕ) → 0 < d → k * d < d → k ≡ 0
no_multiple zero d p h = refl
no_multiple (suc j) d p h = absurd (over (suc-mul j d))
  where
    over : suc j * d ≡ j * d + d → ⊥
    over e = omega arith

zero_quot : (a d : ℕ) → a < 2 * d → neg_ℤ (pos (a / (2 * d))) ≡ pos 0
zero_quot a d h = ap (λ (x : ℕ). neg_ℤ (pos x)) (div-eq_of_lt h)

whole_neg : (d n : ℕ) → pos d -ℤ pos 2 *ℤ neg_ℤ (pos n) ≡ pos (d + 2 * n)
whole_neg d zero = refl
whole_neg d (suc n) = ap (λ (z : ℤ). pos d +ℤ z) (neg_ℤ-neg_ℤ (pos (2 * suc n)))

step : (j d w q : ℕ) → 0 < d → suc j * d ≡ j * d + d → w ≤ 2 * (suc j * d) + d → 2 * (suc j * d) < w + d → w - suc d ≡ q → q / (2 * d) ≡ j
step j d w q p e l h r = quot q d j (omega arith) (omega arith)

pos_at : (d v k : ℕ) (b : Bool) → b ≡ ltb d (suc v) → 0 < d → suc v ≤ 2 * (k * d) + d → 2 * (k * d) < suc v + d
    → neg_ℤ (shr_z (cond b (negsuc (suc v - suc d)) (pos (d - suc v))) (2 * d)) ≡ pos k
pos_at d v zero true e p l h = absurd (no (ltb→lt d (suc v) (subst T e tt)))
  where
    no : d < suc v → ⊥
    no g = omega arith
pos_at d v (suc j) true e p l h = ap (λ (x : ℕ). pos (suc x)) (step j d (suc v) (suc v - suc d) p (suc-mul j d) l h refl)
pos_at d v k false e p l h =
    let g : suc v ≤ d = nltb→le d (suc v) (subst (λ (b : Bool). T (not b)) e tt) in
    zero_quot (d - suc v) d (omega arith) ∙ ap pos (sym (no_multiple k d p (omega arith)))

pos_near : (d w k : ℕ) → 0 < d → w ≤ 2 * (k * d) + d → 2 * (k * d) < w + d → neg_ℤ (shr_z (pos d +ℤ neg_ℤ (pos w)) (2 * d)) ≡ pos k
pos_near d zero k p l h = zero_quot (d + 0) d (omega arith) ∙ ap pos (sym (no_multiple k d p (omega arith)))
pos_near d (suc v) k p l h = pos_at d v k (ltb d (suc v)) refl p l h

pub near_is : (s : Bool) (n d k : ℕ) → 0 < d → Near s n d k → nearest_lower (signed s n) d ≡ signed s k
unfolding nearest_lower
near_is false n d k p h = pos_near d (2 * n) k p h.0 h.1
near_is true n d k p h = ap (λ (z : ℤ). neg_ℤ (shr_z z (2 * d))) (whole_neg d n) ∙ ap (λ (x : ℕ). neg_ℤ (pos x)) (quot (d + 2 * n) d k (omega arith) (omega arith))

-- ---- the fraction's value alone counts
module _ (a b c d k : ℕ) (e : a * d ≡ c * b) where
  below : 2 * a ≤ 2 * (k * b) + b → 0 < b → 2 * c ≤ 2 * (k * d) + d
  below h p = le_of_mul-le-mul_right {k = b} (
      let f : 2 * a * d ≤ (2 * (k * b) + b) * d = mul-le-mul_right d h in
      omega (arith, mul_assoc 2 c b, mul_assoc 2 a d, add-mul (2 * (k * b)) b d, add-mul (2 * (k * d)) d b, mul_assoc 2 (k * b) d, mul_assoc 2 (k * d) b, mul_right_comm k b d, mul_comm b d)) p

  below_lt : 2 * a < 2 * (k * b) + b → 0 < d → 2 * c < 2 * (k * d) + d
  below_lt h p = lt_of_mul-lt-mul_right b (
      let f : 2 * a * d < (2 * (k * b) + b) * d = mul-lt-mul_of_pos_right h p in
      omega (arith, mul_assoc 2 c b, mul_assoc 2 a d, add-mul (2 * (k * b)) b d, add-mul (2 * (k * d)) d b, mul_assoc 2 (k * b) d, mul_assoc 2 (k * d) b, mul_right_comm k b d, mul_comm b d))

  above : 2 * (k * b) ≤ 2 * a + b → 0 < b → 2 * (k * d) ≤ 2 * c + d
  above h p = le_of_mul-le-mul_right {k = b} (
      let f : 2 * (k * b) * d ≤ (2 * a + b) * d = mul-le-mul_right d h in
      omega (arith, mul_assoc 2 c b, mul_assoc 2 a d, add-mul (2 * a) b d, add-mul (2 * c) d b, mul_assoc 2 (k * b) d, mul_assoc 2 (k * d) b, mul_right_comm k b d, mul_comm b d)) p

  above_lt : 2 * (k * b) < 2 * a + b → 0 < d → 2 * (k * d) < 2 * c + d
  above_lt h p = lt_of_mul-lt-mul_right b (
      let f : 2 * (k * b) * d < (2 * a + b) * d = mul-lt-mul_of_pos_right h p in
      omega (arith, mul_assoc 2 c b, mul_assoc 2 a d, add-mul (2 * a) b d, add-mul (2 * c) d b, mul_assoc 2 (k * b) d, mul_assoc 2 (k * d) b, mul_right_comm k b d, mul_comm b d))

pub near_same : (s : Bool) (a b c d k : ℕ) → 0 < b → 0 < d → a * d ≡ c * b → Near s a b k → Near s c d k
near_same false a b c d k B D e h = (below a b c d k e h.0 B, above_lt a b c d k e h.1 D)
near_same true a b c d k B D e h = (above a b c d k e h.0 B, below_lt a b c d k e h.1 D)

-- ---- there is such a number
unfoldable pub size_of : Bool → ℕ → ℕ → ℕ
size_of s n d = (2 * n + d - cond s 0 1) / (2 * d)

pub near_size : (s : Bool) (n d : ℕ) → 0 < d → Near s n d (size_of s n d)
unfolding size_of
near_size s n d p = go s (div-mul-le_self (2 * n + d - cond s 0 1) (2 * d)) (lt-div-mul-add {a = 2 * n + d - cond s 0 1} {b = 2 * d} (omega arith))
  where
    go : (s : Bool) → (let k = (2 * n + d - cond s 0 1) / (2 * d) in k * (2 * d) ≤ 2 * n + d - cond s 0 1)
        → (let k = (2 * n + d - cond s 0 1) / (2 * d) in 2 * n + d - cond s 0 1 < k * (2 * d) + 2 * d) → Near s n d ((2 * n + d - cond s 0 1) / (2 * d))
    go false l h = (omega (arith, mul_left_comm ((2 * n + d - 1) / (2 * d)) 2 d), omega (arith, mul_left_comm ((2 * n + d - 1) / (2 * d)) 2 d))
    go true l h = (omega (arith, mul_left_comm ((2 * n + d - 0) / (2 * d)) 2 d), omega (arith, mul_left_comm ((2 * n + d - 0) / (2 * d)) 2 d))
