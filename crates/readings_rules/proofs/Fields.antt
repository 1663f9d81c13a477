-- From the fields of an f32's bits to its hundredths.
use mathlib.Core.Path.{◌≡◌, refl, sym, ap, ◌∙◌, subst}
use mathlib.Core.Bool.{Bool, true, false, not, cond}
use Prim.Native.Nat.{ℕ, zero, suc, ◌+◌, ◌-◌, ◌*◌, ◌/◌, ◌%◌, ◌^◌, ◌≤◌, ◌<◌}
use native.Mathlib.Nat.{mul-one, mul_comm, mul_assoc, mul_right_comm, mul-le-mul_left, mul-le-mul, mul-lt-mul_of_pos_right, lt_of_lt_of_le, lt_of_le_of_lt, lt_irrefl, lt_of_mul-lt-mul_right, lt_of_not-le, lt-div-mul-add, div-mul-le_self, div-lt_iff_lt-mul, pow-succ', mul-lt-mul_of_pos_left, le_of_eq, one-mul, mod-eq_of_lt, sub-zero}
use native.Mathlib.Omega.{arith}
use lib.Dec.{T, leb, eqb, ltb→lt, lit≤, lit<}
use lib.Pow.{pow_pos, pow_mono, pow-add}
use lib.IntN.{ℤ, pos, neg_ℤ, ◌*ℤ◌, ◌-ℤ◌, +ℤ_idl}
use lib.Signed.{mag}
use mir.Syntax.{w32}
use mir.Val.{SFits, to_z}
use mir.ValLaws.{to_z_pos}
use lib.Ieee.{Float, nan, inf, fin, up, down, binary32, of_fields, of_bits, to_bits, odd, is_nan, fits}
use lib.Ieee.Bits.{of_bits-to_bits}
use lib.Ieee.Exact.{HasValue, odd_sign}
use lib.Ieee.Fits.{down_pos}
use Rattle.readings_rules.specs.Rounding.{nearest_lower}
use Rattle.readings_rules.specs.Hundredths.{signed, hundredths_of}
use Rattle.readings_rules.specs.Code.{Near, in_units, small}
use Rattle.readings_rules.proofs.Near.{near_is, near_same}

-- ---- any fraction that the float equals serves
pub times : (s : Bool) (w : ℕ) → pos 100 *ℤ signed s w ≡ signed s (100 * w)
times false w = refl
times true zero = refl
times true (suc w) = refl

pub near_hundredths : (x : Float) (s : Bool) (a c k : ℕ) → 0 < c → HasValue x s a c → Near s (100 * a) c k → hundredths_of x ≡ signed s k
unfolding hundredths_of
near_hundredths nan s a c k p v h = absurd v
near_hundredths (inf t) s a c k p v h = absurd v
near_hundredths (fin t m e) s a c k p v h =
    ap (λ (b : Bool). nearest_lower (pos 100 *ℤ signed b (m * up e)) (down e)) v.0
    ∙ ap (λ (z : ℤ). nearest_lower z (down e)) (times s (m * up e))
    ∙ near_is s (100 * (m * up e)) (down e) k (down_pos e)
    (near_same s (100 * a) c (100 * (m * up e)) (down e) k p (down_pos e)
    (mul_assoc 100 a (down e) ∙ ap (λ (z : ℕ). 100 * z) (sym v.1) ∙ sym (mul_assoc 100 (m * up e) c)) h)

-- the float's own fraction
pub hundredths_near : (s : Bool) (m : ℕ) (e : ℤ) (k : ℕ) → Near s (100 * (m * up e)) (down e) k → hundredths_of (fin s m e) ≡ signed s k
unfolding hundredths_of
hundredths_near s m e k h = ap (λ (z : ℤ). nearest_lower z (down e)) (times s (m * up e)) ∙ near_is s (100 * (m * up e)) (down e) k (down_pos e) h

-- ---- what the fields stand for
pub fields_value : (s : Bool) (x t : ℕ) → T (small (of_fields binary32 s x t)) → HasValue (of_fields binary32 s x t) s (in_units x t) (2 ^ 149)
unfolding in_units small of_fields
fields_value s zero t h = subst (λ (a : ℕ). HasValue (odd 24 s t 0 149) s a (2 ^ 149)) (mul-one t) (odd_sign 24 s t 0 149)
fields_value s (suc y) t h = go (eqb (suc y) 255) (eqb t 0) h
  where
    go : (b z : Bool) → T (small (cond b (cond z (inf s) nan) (odd 24 s (8388608 + t) y 149))) → HasValue (cond b (cond z (inf s) nan) (odd 24 s (8388608 + t) y 149)) s ((8388608 + t) * 2 ^ y) (2 ^ 149)
    go true true h = absurd h
    go true false h = absurd h
    go false z h = odd_sign 24 s (8388608 + t) y 149

-- ---- a float below 2 ^ 23 in size has an exponent's field below 150
units_small : (x : Float) (s : Bool) (a : ℕ) → T (small x) → HasValue x s a (2 ^ 149) → a < 8388608 * 2 ^ 149
unfolding small
units_small nan s a h v = absurd h
units_small (inf t) s a h v = absurd h
units_small (fin t m e) s a h v =
    lt_of_mul-lt-mul_right (down e)
    (subst (λ (z : ℕ). z < 8388608 * 2 ^ 149 * down e) v.1
    (subst (λ (z : ℕ). m * up e * 2 ^ 149 < z) (mul_right_comm 8388608 (down e) (2 ^ 149))
    (mul-lt-mul_of_pos_right (ltb→lt (m * up e) (8388608 * down e) h) (pow_pos 149))))

field_small : (x t : ℕ) → in_units x t < 8388608 * 2 ^ 149 → x < 150
unfolding in_units
field_small zero t h = omega arith
field_small (suc y) t h = lt_of_not-le (λ (g : 150 ≤ suc y).
    no ((8388608 + t) * 2 ^ y) h (mul-le-mul {n₁ = 8388608} {m₁ = 2 ^ 149} {n₂ = 8388608 + t} {m₂ = 2 ^ y} (omega arith) (pow_mono {i = 149} {j = y} (omega arith))))
  where
    no : (a : ℕ) → a < 8388608 * 2 ^ 149 → 8388608 * 2 ^ 149 ≤ a → ⊥
    no a h g = lt_irrefl a (lt_of_lt_of_le h g)

pub small_field : (s : Bool) (x t : ℕ) → T (small (of_fields binary32 s x t)) → x < 150
small_field s x t h = field_small x t (units_small (of_fields binary32 s x t) s (in_units x t) h (fields_value s x t h))

-- ---- a size below half a unit is 0
pub near_zero : (s : Bool) (n d : ℕ) → 2 * n < d → Near s n d 0
near_zero false n d h = (omega arith, omega arith)
near_zero true n d h = (omega arith, omega arith)

units_low : (x t : ℕ) → x < 119 → t < 8388608 → in_units x t < 2 ^ 141
unfolding in_units
units_low zero t h g = lt_of_lt_of_le g (pow_mono {i = 23} {j = 141} (omega arith))
units_low (suc y) t h g =
    lt_of_lt_of_le (mul-lt-mul_of_pos_right {m = 8388608 + t} {n = 2 ^ 24} (omega arith) (pow_pos y))
    (mul-le-mul_left (2 ^ 24) (pow_mono {i = y} {j = 117} (omega arith)))

pub low_is_zero : (s : Bool) (x t : ℕ) → x < 119 → t < 8388608 → Near s (100 * in_units x t) (2 ^ 149) 0
low_is_zero s x t h g =
    near_zero s (100 * in_units x t) (2 ^ 149)
    (lt_of_le_of_lt (le_of_eq (sym (mul_assoc 2 100 (in_units x t))))
    (lt_of_lt_of_le (mul-lt-mul_of_pos_left {m = in_units x t} {n = 2 ^ 141} {k = 200} (units_low x t h g) (omega arith)) (lit≤ tt)))

-- ---- the shift: q / 2 ^ j to the nearest, with 2 ^ j = 2 h
shifted : (s : Bool) (q d h : ℕ) → d ≡ 2 * h → 0 < h → Near s q d ((q + h - cond s 0 1) / d)
shifted false q d h e p =
    let r = (q + h - 1) / d in
    let l : r * d ≤ q + h - 1 = div-mul-le_self (q + h - 1) d in
    let g : q + h - 1 < r * d + d = lt-div-mul-add {a = q + h - 1} {b = d} (omega arith) in
    (omega arith, omega arith)
shifted true q d h e p =
    let r = (q + h - 0) / d in
    let l : r * d ≤ q + h - 0 = div-mul-le_self (q + h - 0) d in
    let g : q + h - 0 < r * d + d = lt-div-mul-add {a = q + h - 0} {b = d} (omega arith) in
    (omega arith, omega arith)

twice : (j : ℕ) → 0 < j → 2 ^ j ≡ 2 * 2 ^ (j - 1)
twice zero p = absurd (lt_irrefl 0 p)
twice (suc j) p = pow-succ' 2 j ∙ ap (λ (i : ℕ). 2 * 2 ^ i) (sym (suc_sub j))
  where
    suc_sub : (j : ℕ) → suc j - 1 ≡ j
    suc_sub j = omega arith

pub by_shift : (s : Bool) (x t : ℕ) → 119 ≤ x → x < 150
    → Near s (100 * in_units x t) (2 ^ 149) (((8388608 + t) * 100 + 2 ^ (150 - x - 1) - cond s 0 1) / 2 ^ (150 - x))
unfolding in_units
by_shift s zero t a b = absurd (lt_irrefl 0 (lt_of_lt_of_le (omega arith) a))
by_shift s (suc y) t a b =
    let q = 8388608 + t in
    let j = 150 - suc y in
    near_same s (q * 100) (2 ^ j) (100 * (q * 2 ^ y)) (2 ^ 149) (((8388608 + t) * 100 + 2 ^ (150 - suc y - 1) - cond s 0 1) / 2 ^ (150 - suc y)) (pow_pos j) (pow_pos 149)
    (ap (λ (z : ℕ). q * 100 * z) (ap (λ (i : ℕ). 2 ^ i) (room y b) ∙ pow-add 2 y j)
    ∙ sym (mul_assoc (q * 100) (2 ^ y) (2 ^ j))
    ∙ ap (λ (z : ℕ). z * 2 ^ j) (ap (λ (z : ℕ). z * 2 ^ y) (mul_comm q 100) ∙ mul_assoc 100 q (2 ^ y)))
    (shifted s (q * 100) (2 ^ j) (2 ^ (j - 1)) (twice j (omega arith)) (pow_pos (j - 1)))
  where
    room : (y : ℕ) → suc y < 150 → 149 ≡ y + (150 - suc y)
    room y b = omega arith

-- ---- the code's own terms
half_le : (x : ℕ) → 119 ≤ x → 2 ^ (150 - x - 1) ≤ 1073741824
half_le x h = pow_mono {i = 150 - x - 1} {j = 30} (omega arith)

half_is : (x : ℕ) → 119 ≤ x → 1 * 2 ^ (150 - x - 1) % 4294967296 ≡ 2 ^ (150 - x - 1)
half_is x h = ap (λ (z : ℕ). z % 4294967296) (one-mul (2 ^ (150 - x - 1))) ∙ mod-eq_of_lt (lt_of_le_of_lt (half_le x h) (lit< tt))

pub half_small : (x : ℕ) → 119 ≤ x → 1 * 2 ^ (150 - x - 1) % 4294967296 ≤ 1073741824
half_small x h = subst (λ (z : ℕ). z ≤ 1073741824) (sym (half_is x h)) (half_le x h)

under : (a x : ℕ) → a < 4294967296 → x < 150 → a / 2 ^ (150 - x) < 2147483648
under a x h b =
    (div-lt_iff_lt-mul (pow_pos (150 - x))).1
    (lt_of_lt_of_le h (mul-le-mul_left 2147483648 (pow_mono {i = 1} {j = 150 - x} (omega arith))))

pub up_code : (x t : ℕ) → 119 ≤ x → x < 150 → t < 8388608
    → Near true (100 * in_units x t) (2 ^ 149) (((8388608 + t) * 100 + 1 * 2 ^ (150 - x - 1) % 4294967296) / 2 ^ (150 - x))
    × (((8388608 + t) * 100 + 1 * 2 ^ (150 - x - 1) % 4294967296) / 2 ^ (150 - x) < 2147483648)
up_code x t a b g = (
  subst (λ (z : ℕ). Near true (100 * in_units x t) (2 ^ 149) (((8388608 + t) * 100 + z) / 2 ^ (150 - x))) (sym (half_is x a))
      (subst (λ (z : ℕ). Near true (100 * in_units x t) (2 ^ 149) (z / 2 ^ (150 - x))) (sub-zero ((8388608 + t) * 100 + 2 ^ (150 - x - 1))) (by_shift true x t a b)),
  under ((8388608 + t) * 100 + 1 * 2 ^ (150 - x - 1) % 4294967296) x (omega (arith, half_small x a)) b,
)

pub down_code : (x t : ℕ) → 119 ≤ x → x < 150 → t < 8388608
    → Near false (100 * in_units x t) (2 ^ 149) (((8388608 + t) * 100 + 1 * 2 ^ (150 - x - 1) % 4294967296 - 1) / 2 ^ (150 - x))
    × (((8388608 + t) * 100 + 1 * 2 ^ (150 - x - 1) % 4294967296 - 1) / 2 ^ (150 - x) < 2147483648)
down_code x t a b g = (
  subst (λ (z : ℕ). Near false (100 * in_units x t) (2 ^ 149) (((8388608 + t) * 100 + z - 1) / 2 ^ (150 - x))) (sym (half_is x a)) (by_shift false x t a b),
  under ((8388608 + t) * 100 + 1 * 2 ^ (150 - x - 1) % 4294967296 - 1) x (omega (arith, half_small x a)) b,
)

-- ---- a float that is read by its bits
pub small_no_nan : (x : Float) → T (small x) → T (not (is_nan x))
unfolding small is_nan
small_no_nan nan h = absurd h
small_no_nan (inf s) h = absurd h
small_no_nan (fin s m e) h = tt

module _ (x : Float) (f : T (fits binary32 x)) (h : T (small x)) where
  same_fields : of_fields binary32 (leb 2147483648 (to_bits binary32 x)) (to_bits binary32 x % 2147483648 / 8388608) (to_bits binary32 x % 8388608) ≡ x
  unfolding of_bits
  same_fields = of_bits-to_bits binary32 x f

  pub bits_small : to_bits binary32 x % 2147483648 / 8388608 < 150
  bits_small =
      small_field (leb 2147483648 (to_bits binary32 x)) (to_bits binary32 x % 2147483648 / 8388608) (to_bits binary32 x % 8388608)
      (subst (λ (v : Float). T (small v)) (sym same_fields) h)

  pub bits_hundredths : (s : Bool) (k : ℕ) → leb 2147483648 (to_bits binary32 x) ≡ s
      → Near s (100 * in_units (to_bits binary32 x % 2147483648 / 8388608) (to_bits binary32 x % 8388608)) (2 ^ 149) k → hundredths_of x ≡ signed s k
  bits_hundredths s k e n =
      let y = to_bits binary32 x % 2147483648 / 8388608 in
      let t = to_bits binary32 x % 8388608 in
      let same : of_fields binary32 s y t ≡ x = ap (λ (b : Bool). of_fields binary32 b y t) (sym e) ∙ same_fields in
      ap hundredths_of (sym same)
      ∙ near_hundredths (of_fields binary32 s y t) s (in_units y t) (2 ^ 149) k (pow_pos 149) (fields_value s y t (subst (λ (v : Float). T (small v)) (sym same) h)) n

-- ---- -n at an i32
pub negated : (n : ℕ) → n < 2147483648 → pos 0 -ℤ to_z w32 n ≡ neg_ℤ (pos n)
negated n h = ap (λ (z : ℤ). pos 0 -ℤ z) (to_z_pos w32 n h) ∙ +ℤ_idl (neg_ℤ (pos n))

pub negated_fits : (n : ℕ) → n < 2147483648 → SFits w32 (pos 0 -ℤ to_z w32 n)
negated_fits n h = subst (λ (z : ℤ). SFits w32 z) (sym (negated n h)) (record { sfits = in_range n h })
  where
    in_range : (n : ℕ) → n < 2147483648 → mag (neg_ℤ (pos n)) < 2147483648
    in_range zero h = h
    in_range (suc n) h = omega arith
