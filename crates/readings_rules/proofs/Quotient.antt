-- h / 100, rounded once, in units of 2 ^ -149: a multiple of 2 ^ k that is nearest to n 2 ^ 149 / 100, where n is the size of h.
-- So 100 times it is within 50 * 2 ^ k of n 2 ^ 149, and what a whole number of dB bounds, it still bounds once rounded.
use mathlib.Core.Path.{◌≡◌, refl, sym, ap, ◌∙◌, subst}
use mathlib.Core.Bool.{Bool, true, false, not}
use Prim.Native.Nat.{ℕ, zero, suc, ◌+◌, ◌-◌, ◌*◌, ◌/◌, ◌%◌, ◌^◌, ◌≤◌, ◌<◌, compare, Ordering}
use native.Mathlib.Nat.{one-mul, zero-mul, mul_comm, mul_assoc, mul_left_comm, mul_right_comm, add-mul, suc-mul, div-add-mod', mod-lt, mul-le-mul_right, mul-le-mul_left, mul-lt-mul_of_pos_right, le_trans, le_of_lt, lt_of_le_of_lt, div-le_self, mul-pos, le_of_suc-le-suc, lt_of_not-le}
use native.Mathlib.Omega.{arith}
use lib.Dec.{T, is_le, compare_is_eq, leb→le, nleb→lt, eqb→eq, lit<, lit≤}
use lib.Pow.{pow_pos, pow_mono, pow-add}
use lib.IntN.{ℤ, pos, negsuc, nat_abs}
use lib.Ieee.{Float, nan, inf, fin, up, down, binary32, nearest, size, round, div, of_int, unlike}
use lib.Ieee.Digits.{size-le}
use lib.Ieee.Fits.{down_pos, round_is}
use lib.Ieee.Exact.{HasValue, units_val}
use lib.Ieee.Nearest.{closest}
use lib.Ieee.Scale.{round_same}
use lib.Ieee.Back.{round_whole}
use Rattle.readings_rules.specs.Float.{float_of}
use Rattle.readings_rules.specs.Code.{Near}
use Rattle.readings_rules.proofs.Signs.{is_neg}

-- ---- the nearest whole number is within a half
abbrev Err : ℕ → ℕ → ℕ → Type 0
Err a b k = (2 * (k * b) ≤ 2 * a + b) × (2 * a ≤ 2 * (k * b) + b)

module _ (a b q r : ℕ) (d : q * b + r ≡ a) (l : r < b) where
  err_lt : r * 2 ≤ b → Err a b q
  err_lt h = (omega arith, omega arith)

  err_gt : b ≤ r * 2 → Err a b (suc q)
  err_gt h = (omega (arith, suc-mul q b), omega (arith, suc-mul q b))

  tie : (t : ℕ) → t < 2 → r * 2 ≡ b → Err a b (q + t)
  tie zero h e = let z : (q + 0) * b ≡ q * b + 0 * b = add-mul q 0 b in (omega (arith, zero-mul b), omega (arith, zero-mul b))
  tie (suc zero) h e = let z : (q + 1) * b ≡ q * b + 1 * b = add-mul q 1 b in (omega (arith, one-mul b), omega (arith, one-mul b))
  tie (suc (suc t)) h e = absurd (no t h)
    where
      no : (t : ℕ) → suc (suc t) < 2 → ⊥
      no t h = omega arith

err : (a b : ℕ) → 0 < b → Err a b (closest a b)
err a b p = go (compare (a % b * 2) b) (leb→le (a % b * 2) b) (nleb→lt (a % b * 2) b) (eqb→eq (a % b * 2) b)
  where
    go : (o : Ordering) → (T (is_le o) → a % b * 2 ≤ b) → (T (not (is_le o)) → b < a % b * 2) → (T (compare_is_eq o) → a % b * 2 ≡ b) → Err a b (nearest (a / b) o)
    go Ordering.lt l g e = err_lt a b (a / b) (a % b) (div-add-mod' a b) (mod-lt a p) (l tt)
    go Ordering.eq l g e = tie a b (a / b) (a % b) (div-add-mod' a b) (mod-lt a p) (a / b % 2) (mod-lt (a / b) (lit< tt)) (e tt)
    go Ordering.gt l g e = err_gt a b (a / b) (a % b) (div-add-mod' a b) (mod-lt a p) (le_of_lt (g tt))

-- ---- h / 100, rounded, in units of 2 ^ -149
-- how many digits are dropped, what is kept, and the units
abbrev pub dropped : ℕ → ℕ
dropped n = size (n * 2 ^ 149 / 100) - 24

abbrev pub keeps : ℕ → ℕ
keeps n = closest (n * 2 ^ 149) (100 * 2 ^ dropped n)

abbrev pub grid : ℕ → ℕ
grid n = keeps n * 2 ^ dropped n

few : (z : ℕ) → z ≤ 165 → z - 24 ≤ 141
few z h = omega arith

pub dropped_le : (n : ℕ) → n < 65536 → dropped n ≤ 141
dropped_le n h =
    few (size (n * 2 ^ 149 / 100))
    (size-le (n * 2 ^ 149 / 100) 165 (lt_of_le_of_lt (div-le_self (n * 2 ^ 149) 100)
    (mul-lt-mul_of_pos_right {m = n} {n = 65536} {k = 2 ^ 149} h (pow_pos 149))))

-- what is left of a unit of 2 ^ 149 is well below a half of it
step_lt : (n : ℕ) → n < 65536 → 100 * 2 ^ dropped n < 2 ^ 149
step_lt n h = lt_of_le_of_lt (mul-le-mul_left 100 (pow_mono {i = dropped n} {j = 141} (dropped_le n h))) (lit< tt)

errs : (n : ℕ) → Err (n * 2 ^ 149) (100 * 2 ^ dropped n) (keeps n)
errs n = err (n * 2 ^ 149) (100 * 2 ^ dropped n) (mul-pos {m = 100} {n = 2 ^ dropped n} (lit< tt) (pow_pos (dropped n)))

pub regroup : (k x : ℕ) → k * (100 * x) ≡ 100 * (k * x)
regroup k x = mul_left_comm k 100 x

-- D stands for 2 ^ 149 and N for n * 2 ^ 149, as `omega` leaves such numerals out
near_of : (s : Bool) (n D u G : ℕ) → u < D → (2 * (100 * G) ≤ 2 * (n * D) + u) × (2 * (n * D) ≤ 2 * (100 * G) + u) → Near s (100 * G) D n
near_of false n D u G h e = (omega arith, omega arith)
near_of true n D u G h e = (omega arith, omega arith)

units_err : (n : ℕ) → (2 * (100 * grid n) ≤ 2 * (n * 2 ^ 149) + 100 * 2 ^ dropped n) × (2 * (n * 2 ^ 149) ≤ 2 * (100 * grid n) + 100 * 2 ^ dropped n)
units_err n =
    subst (λ (x : ℕ). (2 * x ≤ 2 * (n * 2 ^ 149) + 100 * 2 ^ dropped n) × (2 * (n * 2 ^ 149) ≤ 2 * x + 100 * 2 ^ dropped n))
    (regroup (keeps n) (2 ^ dropped n)) (errs n)

pub near_grid : (s : Bool) (n : ℕ) → n < 65536 → Near s (100 * grid n) (2 ^ 149) n
near_grid s n h = near_of s n (2 ^ 149) (100 * 2 ^ dropped n) (grid n) (step_lt n h) (units_err n)

-- ---- what a whole number of dB bounds, it still bounds once rounded
module _ (n c D u K j : ℕ) (p : 0 < u) (e : Err (n * D) u K) (f : j * u ≡ c * 100 * D) where
  stays_below : n ≤ c * 100 → K ≤ j
  stays_below h = le_of_suc-le-suc (lt_of_not-le (λ (g : suc j ≤ K). no (mul-le-mul_right D h) (mul-le-mul_right u g)))
    where
      no : n * D ≤ c * 100 * D → suc j * u ≤ K * u → ⊥
      no a b = omega (arith, suc-mul j u)

  stays_above : c * 100 ≤ n → j ≤ K
  stays_above h = le_of_suc-le-suc (lt_of_not-le (λ (g : suc K ≤ j). no (mul-le-mul_right D h) (mul-le-mul_right u g)))
    where
      no : c * 100 * D ≤ n * D → suc K * u ≤ j * u → ⊥
      no a b = omega (arith, suc-mul K u)

pub whole_step : (k : ℕ) → k ≤ 149 → 2 ^ (149 - k) * 2 ^ k ≡ 2 ^ 149
whole_step k h = sym (pow-add 2 (149 - k) k) ∙ ap (λ (i : ℕ). 2 ^ i) (sub_back k h)
  where
    sub_back : (k : ℕ) → k ≤ 149 → 149 - k + k ≡ 149
    sub_back k h = omega arith

module _ (n c : ℕ) (h : n < 65536) where
  j : ℕ
  j = c * 2 ^ (149 - dropped n)

  drop_ok : dropped n ≤ 149
  drop_ok = le_trans (dropped_le n h) (lit≤ tt)

  j_is : j * 2 ^ dropped n ≡ c * 2 ^ 149
  unfolding j
  j_is = mul_assoc c (2 ^ (149 - dropped n)) (2 ^ dropped n) ∙ ap (λ (x : ℕ). c * x) (whole_step (dropped n) drop_ok)

  j_full : j * (100 * 2 ^ dropped n) ≡ c * 100 * 2 ^ 149
  j_full = mul_left_comm j 100 (2 ^ dropped n) ∙ ap (λ (x : ℕ). 100 * x) j_is ∙ sym (mul_assoc 100 c (2 ^ 149)) ∙ ap (λ (x : ℕ). x * 2 ^ 149) (mul_comm 100 c)

  u_pos : 0 < 100 * 2 ^ dropped n
  u_pos = mul-pos {m = 100} {n = 2 ^ dropped n} (lit< tt) (pow_pos (dropped n))

  pub grid_le : n ≤ c * 100 → grid n ≤ c * 2 ^ 149
  grid_le l =
      subst (λ (x : ℕ). grid n ≤ x) j_is
      (mul-le-mul_right (2 ^ dropped n) (stays_below n c (2 ^ 149) (100 * 2 ^ dropped n) (keeps n) j u_pos (errs n) j_full l))

  pub grid_ge : c * 100 ≤ n → c * 2 ^ 149 ≤ grid n
  grid_ge l =
      subst (λ (x : ℕ). x ≤ grid n) j_is
      (mul-le-mul_right (2 ^ dropped n) (stays_above n c (2 ^ 149) (100 * 2 ^ dropped n) (keeps n) j u_pos (errs n) j_full l))

-- ---- the float's value
grid_small : (n : ℕ) → n < 65536 → grid n < 2 ^ 277
grid_small n h =
    lt_of_le_of_lt (grid_le n 656 h (omega arith)) (lit< tt)

pub round_value : (s : Bool) (n : ℕ) → n < 65536 → HasValue (round binary32 s n 100) s (grid n) (2 ^ 149)
round_value s n h =
    subst (λ (x : Float). HasValue x s (grid n) (2 ^ 149)) (sym (round_is binary32 s n 100)) (units_val binary32 s (keeps n) (dropped n) (grid_small n h))

-- n as a float, by 100
quotient : (x : Float) (s : Bool) (n : ℕ) → HasValue x s n 1 → div binary32 x (fin false 25 (pos 2)) ≡ round binary32 s n 100
unfolding div
quotient nan s n v = absurd v
quotient (inf t) s n v = absurd v
quotient (fin t m e) s n v =
    ap (λ (b : Bool). round binary32 b (m * up e * 1) (100 * down e)) (like t ∙ v.0)
    ∙ round_same binary32 s (m * up e * 1) (100 * down e) n 100 (mul-pos {m = 100} {n = down e} (lit< tt) (down_pos e)) (lit< tt)
    (ap (λ (z : ℕ). z * 100) v.1 ∙ mul_right_comm n (down e) 100 ∙ mul_assoc n 100 (down e))
  where
    like : (t : Bool) → unlike t false ≡ t
    like false = refl
    like true = refl

pub float_is : (h : ℤ) → nat_abs h < 65536 → float_of h ≡ round binary32 (is_neg h) (nat_abs h) 100
unfolding float_of of_int
float_is (pos n) l = quotient (round binary32 false n 1) false n (round_whole binary32 false n (le_trans (le_of_lt l) (lit≤ tt)))
float_is (negsuc n) l = quotient (round binary32 true (suc n) 1) true (suc n) (round_whole binary32 true (suc n) (le_trans (le_of_lt l) (lit≤ tt)))
