-- A range in whole numbers, tested by comparisons of floats.
use mathlib.Core.Path.{◌≡◌, refl, sym, ap, ◌∙◌, subst}
use mathlib.Core.Bool.{Bool, true, false, ◌&&◌, ◌||◌}
use mathlib.Core.Logic.{◌⊎◌, inl, inr}
use Prim.Native.Nat.{ℕ, zero, suc, ◌+◌, ◌*◌, ◌≤◌, ◌<◌, zero-le, suc-le-suc}
use native.Mathlib.Nat.{mul-one, zero-mul, le_trans, le_of_lt, lt_of_le_of_lt, lt_of_lt_of_le, mul-le-mul_right, le_of_mul-le-mul_right, mul_right_comm, mul-lt-mul_of_pos_right, eq-or-lt_of_le}
use native.Mathlib.Omega.{arith}
use lib.Dec.{T, leb, ltb, eqb, leb→le, le→leb, lt→ltb, leb-zero, ltb→lt, eqb→eq, lit≤}
use lib.IntN.{ℤ, pos, negsuc, neg_ℤ, nat_abs, ◌*ℤ◌}
use lib.Signed.{le_z, mag}
use mir.Syntax.{w32}
use mir.Val.{SFits}
use lib.Ieee.{Float, nan, inf, fin, up, down, below, level, le, binary32, of_int, in_float}
use lib.Ieee.Exact.{HasValue}
use lib.Ieee.Back.{round_whole}
use lib.Ieee.Bits.{is_true}
use lib.Ieee.Fits.{down_pos, and_l, and_r, eq→eqb}
use Rattle.refusal.specs.declared.Refusal.TheVariants.{ReadingOutOfRange}
use Rattle.refusal.specs.Told.{gives, refused_for}
use Rattle.refusal.proofs.Provided.{refuse_now, refuse_later}
use Rattle.readings_rules.specs.Hundredths.{signed, within, converted, hundredths_of}
use Rattle.readings_rules.specs.Code.{small}
use Rattle.readings_rules.proofs.Signs.{neg-neg, pos_neg, is_neg, order, by_size, zero_factor}

-- ---- a float's order of two sizes with signs is that of the whole numbers
same_test : (a b : Bool) → (T a → T b) → (T b → T a) → a ≡ b
same_test true true p q = refl
same_test true false p q = absurd (p tt)
same_test false true p q = absurd (q tt)
same_test false false p q = refl

or_case : (a b c : Bool) → (T a → T c) → (T b → T c) → T (a || b) → T c
or_case true b c p q t = p tt
or_case false b c p q t = q t

or_r : (a b : Bool) → T b → T (a || b)
or_r true b t = tt
or_r false b t = t

or_l : (a b : Bool) → T a → T (a || b)
or_l true b t = tt
or_l false b t = absurd t

and-true : (a : Bool) → (a && true) ≡ a
and-true true = refl
and-true false = refl

-- a ≤ b, by a < b and an equation
split_le : (a b c d : ℕ) → (a ≡ b → c ≡ d) → (c ≡ d → a ≡ b) → (ltb a b || (eqb c d && true)) ≡ leb a b
split_le a b c d f g = ap (λ (x : Bool). ltb a b || x) (and-true (eqb c d)) ∙ same_test (ltb a b || eqb c d) (leb a b)
    (or_case (ltb a b) (eqb c d) (leb a b) (λ t. le→leb a b (weaker a b (ltb→lt a b t))) (λ t. le→leb a b (equal a b (g (eqb→eq c d t)))))
    (λ t. go (eq-or-lt_of_le (leb→le a b t)))
  where
    weaker : (a b : ℕ) → a < b → a ≤ b
    weaker a b h = omega arith

    equal : (a b : ℕ) → a ≡ b → a ≤ b
    equal a b h = omega arith

    go : (a ≡ b) ⊎ (a < b) → T (ltb a b || eqb c d)
    go (inl e) = or_r (ltb a b) (eqb c d) (eq→eqb (f e))
    go (inr h) = or_l (ltb a b) (eqb c d) (lt→ltb a b h)

neg_pos : (a b : ℕ) → (ltb 0 (a + b) || (eqb a b && eqb a 0)) ≡ le_z (neg_ℤ (pos a)) (pos b)
neg_pos zero zero = refl
neg_pos zero (suc b) = ap (λ (x : Bool). x || (eqb 0 (suc b) && true)) (is_true (ltb 0 (0 + suc b)) (lt→ltb 0 (0 + suc b) (omega arith))) ∙ sym (leb-zero (suc b))
neg_pos (suc a) b = ap (λ (x : Bool). x || (eqb (suc a) b && eqb (suc a) 0)) (is_true (ltb 0 (suc a + b)) (lt→ltb 0 (suc a + b) (omega arith)))

le_signed : (t s : Bool) (a b : ℕ) → (below t a s b || level t a s b) ≡ le_z (signed t a) (signed s b)
le_signed false false a b = split_le a b a b (λ e. e) (λ e. e)
le_signed false true a b = pos_neg a b
le_signed true false a b = neg_pos a b
le_signed true true a b = split_le b a a b sym sym ∙ neg-neg a b

zero_times : (x c : ℕ) → x ≡ 0 → x * c ≡ 0
zero_times x c h = ap (λ (y : ℕ). y * c) h ∙ zero-mul c

scale_le : (t s : Bool) (x y c : ℕ) → 0 < c → le_z (signed t (x * c)) (signed s (y * c)) ≡ le_z (signed t x) (signed s y)
scale_le t s x y c p =
    same_test (le_z (signed t (x * c)) (signed s (y * c))) (le_z (signed t x) (signed s y))
    (order t s (x * c) (y * c) x y (λ h. le_of_mul-le-mul_right h p) (λ h. le_of_mul-le-mul_right h p) (zero_factor x c p) (zero_factor y c p))
    (order t s x y (x * c) (y * c) (mul-le-mul_right c) (mul-le-mul_right c) (zero_times x c) (zero_times y c))

-- ---- the float of a whole number
pub whole : (z : ℤ) → nat_abs z < 656 → HasValue (of_int binary32 z) (is_neg z) (nat_abs z) 1
unfolding of_int
whole (pos n) h = round_whole binary32 false n (le_trans (le_of_lt h) (lit≤ tt))
whole (negsuc n) h = round_whole binary32 true (suc n) (le_trans (le_of_lt h) (lit≤ tt))

-- n up / dn is a, so n up times d is a d times dn
cross : (n a dn d : ℕ) → n * 1 ≡ a * dn → n * d ≡ a * d * dn
cross n a dn d h = ap (λ (x : ℕ). x * d) (sym (mul-one n) ∙ h) ∙ mul_right_comm a dn d

module _ (z : ℤ) (t : Bool) (n : ℕ) (f : ℤ) (s : Bool) (m : ℕ) (e : ℤ) (v : HasValue (fin t n f) (is_neg z) (nat_abs z) 1) where
  same_left : (below t (n * up f * down e) s (m * up e * down f) || level t (n * up f * down e) s (m * up e * down f)) ≡ le_z (z *ℤ pos (down e)) (signed s (m * up e))
  same_left =
      le_signed t s (n * up f * down e) (m * up e * down f)
      ∙ ap (λ (x : ℕ). le_z (signed t x) (signed s (m * up e * down f))) (cross (n * up f) (nat_abs z) (down f) (down e) v.1)
      ∙ scale_le t s (nat_abs z * down e) (m * up e) (down f) (down_pos f)
      ∙ ap (λ (b : Bool). le_z (signed b (nat_abs z * down e)) (signed s (m * up e))) v.0
      ∙ ap (λ (y : ℤ). le_z y (signed s (m * up e))) (sym (by_size z (down e)))

  same_right : (below s (m * up e * down f) t (n * up f * down e) || level s (m * up e * down f) t (n * up f * down e)) ≡ le_z (signed s (m * up e)) (z *ℤ pos (down e))
  same_right =
      le_signed s t (m * up e * down f) (n * up f * down e)
      ∙ ap (λ (x : ℕ). le_z (signed s (m * up e * down f)) (signed t x)) (cross (n * up f) (nat_abs z) (down f) (down e) v.1)
      ∙ scale_le s t (m * up e) (nat_abs z * down e) (down f) (down_pos f)
      ∙ ap (λ (b : Bool). le_z (signed s (m * up e)) (signed b (nat_abs z * down e))) v.0
      ∙ ap (λ (y : ℤ). le_z (signed s (m * up e)) y) (sym (by_size z (down e)))

within_le : (lo hi : ℤ) (L H x : Float) → HasValue L (is_neg lo) (nat_abs lo) 1 → HasValue H (is_neg hi) (nat_abs hi) 1 → (le L x && le x H) ≡ within lo hi x
unfolding le within
within_le lo hi nan H x p q = absurd p
within_le lo hi (inf t) H x p q = absurd p
within_le lo hi (fin t n k) nan x p q = absurd q
within_le lo hi (fin t n k) (inf u) x p q = absurd q
within_le lo hi (fin t n k) (fin u j i) nan p q = refl
within_le lo hi (fin t n k) (fin u j i) (inf true) p q = refl
within_le lo hi (fin t n k) (fin u j i) (inf false) p q = refl
within_le lo hi (fin t n k) (fin u j i) (fin s m e) p q =
    ap (λ (b : Bool). b && (below s (m * up e * down i) u (j * up i * down e) || level s (m * up e * down i) u (j * up i * down e))) (same_left lo t n k s m e p)
    ∙ ap (λ (b : Bool). le_z (lo *ℤ pos (down e)) (signed s (m * up e)) && b) (same_right hi u j i s m e q)

-- ---- what lies within small ends is small
pub lower : (lo : ℤ) (d w : ℕ) → T (le_z (lo *ℤ pos d) (neg_ℤ (pos w))) → w ≤ nat_abs lo * d
lower lo d zero h = zero-le
lower (pos a) d (suc v) h = absurd h
lower (negsuc a) d (suc v) h = go (suc a * d) v h
  where
    go : (z v : ℕ) → T (le_z (neg_ℤ (pos z)) (negsuc v)) → suc v ≤ z
    go zero v h = absurd h
    go (suc z) v h = suc-le-suc (leb→le v z h)

pub upper : (hi : ℤ) (d w : ℕ) → T (le_z (pos w) (hi *ℤ pos d)) → w ≤ nat_abs hi * d
upper (pos a) d w h = leb→le w (a * d) h
upper (negsuc a) d w h = go (suc a * d) w h
  where
    go : (z w : ℕ) → T (le_z (pos w) (neg_ℤ (pos z))) → w ≤ z
    go zero w h = leb→le w 0 h
    go (suc z) w h = absurd h

pub within_small : (lo hi : ℤ) (x : Float) → nat_abs lo < 8388608 → nat_abs hi < 8388608 → T (within lo hi x) → T (small x)
unfolding within small
within_small lo hi nan p q h = h
within_small lo hi (inf s) p q h = h
within_small lo hi (fin true m e) p q h =
    lt→ltb (m * up e) (8388608 * down e)
    (lt_of_le_of_lt (lower lo (down e) (m * up e) (and_l (le_z (lo *ℤ pos (down e)) (signed true (m * up e))) (le_z (signed true (m * up e)) (hi *ℤ pos (down e))) h))
    (mul-lt-mul_of_pos_right p (down_pos e)))
within_small lo hi (fin false m e) p q h =
    lt→ltb (m * up e) (8388608 * down e)
    (lt_of_le_of_lt (upper hi (down e) (m * up e) (and_r (le_z (lo *ℤ pos (down e)) (signed false (m * up e))) (le_z (signed false (m * up e)) (hi *ℤ pos (down e))) h))
    (mul-lt-mul_of_pos_right q (down_pos e)))

-- ---- the two tests, and what is converted
module _ (lo hi : ℤ) (x : Float) (p : nat_abs lo < 656) (q : nat_abs hi < 656) where
  both : {a b : Bool} → le (of_int binary32 lo) x ≡ a → le x (of_int binary32 hi) ≡ b → within lo hi x ≡ (a && b)
  both {a} {b} e f =
      sym (within_le lo hi (of_int binary32 lo) (of_int binary32 hi) x (whole lo p) (whole hi q))
      ∙ ap (λ (c : Bool). c && le x (of_int binary32 hi)) e
      ∙ ap (λ (c : Bool). a && c) f

  pub inside_small : le (of_int binary32 lo) x ≡ true → le x (of_int binary32 hi) ≡ true → T (small x)
  inside_small e f = within_small lo hi x (lt_of_lt_of_le p (lit≤ tt)) (lt_of_lt_of_le q (lit≤ tt)) (subst T (sym (both e f)) tt)

  pub inside : (h : ℤ) → le (of_int binary32 lo) x ≡ true → le x (of_int binary32 hi) ≡ true → h ≡ hundredths_of x → gives h ≡ converted lo hi x
  unfolding converted
  inside h e f g = ap gives g ∙ sym (refuse_later ReadingOutOfRange (both e f) refl)

  pub too_high : le (of_int binary32 lo) x ≡ true → le x (of_int binary32 hi) ≡ false → refused_for ReadingOutOfRange ≡ converted lo hi x
  unfolding converted
  too_high e f = sym (refuse_now ReadingOutOfRange (gives (hundredths_of x)) (both e f))

  pub too_low : le (of_int binary32 lo) x ≡ false → refused_for ReadingOutOfRange ≡ converted lo hi x
  unfolding converted
  too_low e = sym (refuse_now ReadingOutOfRange (gives (hundredths_of x)) (both e refl))

-- ---- what the casts and the products ask
pub in_float_lem : (z : ℤ) → nat_abs z < 65536 → T (in_float binary32 z)
unfolding in_float
in_float_lem (pos n) h = le→leb n 16777216 (le_trans (le_of_lt h) (lit≤ tt))
in_float_lem (negsuc n) h = lt→ltb n 16777216 (omega arith)

pub product_fits : (z : ℤ) → nat_abs z < 656 → SFits w32 (z *ℤ pos 100)
product_fits (pos n) h = record { sfits = omega arith }
product_fits (negsuc n) h = record { sfits = go (suc n * 100) (omega arith) }
  where
    go : (r : ℕ) → r < 2147483648 → mag (neg_ℤ (pos r)) < 2147483648
    go zero h = h
    go (suc r) h = omega arith

pub in_size : (lo hi h : ℤ) → nat_abs lo < 656 → nat_abs hi < 656 → T (le_z (lo *ℤ pos 100) h) → T (le_z h (hi *ℤ pos 100)) → nat_abs h < 65536
in_size lo hi (pos n) a b p q = omega (arith, upper hi 100 n q)
in_size lo hi (negsuc n) a b p q = omega (arith, lower lo 100 (suc n) p)
