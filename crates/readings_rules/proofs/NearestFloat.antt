-- Hundredths are shown as the single float nearest to h / 100, and no other single float is as near.
-- In units of 2 ^ -149 the float is K times 2 ^ k, where K is the whole number nearest to n 2 ^ 149 / (100 * 2 ^ k); a tie would make an odd
-- number even. Another single float that is a multiple of 2 ^ k is another such number, and further. One that is not lies below
-- 2 ^ (23 + k), a multiple of 2 ^ k that n 2 ^ 149 / 100 reaches, and is further than that.
use Prim.Native.Nat.{ℕ, zero, suc, ◌+◌, ◌-◌, ◌*◌, ◌/◌, ◌%◌, ◌^◌, ◌≤◌, ◌<◌, compare, Ordering}
use mathlib.Core.Path.{◌≡◌, refl, sym, ap, ◌∙◌, subst}
use mathlib.Core.Logic.{◌↔◌}
use mathlib.Core.Bool.{Bool, true, false, not, ◌&&◌}
use native.Mathlib.Nat.{mul_comm, mul_assoc, mul_right_comm, mul-one, zero-mul, add-mul, mul-add, suc-mul, mul-sub, mul-pos, mod-lt, div-add-mod', div-mul-le_self, mul-le-mul_right, mul-lt-mul_of_pos_right, lt_of_mul-lt-mul_right, eq_of_mul-eq-mul_right, le_of_lt, le_trans, lt_of_lt_of_le, not-le_of_lt, le_antisymm}
use native.Mathlib.Omega.{arith}
use borrow.Author.Tests.{ltb-true, ltb-false, le-ltb, eqb-false}
use lib.Dec.{T, leb, ltb, eqb, is_le, compare_is_eq, leb→le, nleb→lt, ltb→lt, eqb→eq, lit<}
use lib.Pow.{pow_pos, pow-lt, pow_mono, pow-add, shl_lt}
use lib.Arith.{lt_of_le-ne}
use lib.IntN.{ℤ, pos, negsuc, nat_abs, ◌*ℤ◌}
use lib.Signed.{◌<ℤ◌, lt_z_yes}
use lib.Ieee.{Float, nan, inf, fin, up, down, binary32, nearest, size, fits}
use lib.Ieee.Digits.{size_reaches, back}
use lib.Ieee.Fits.{down_pos, and_l, and_r}
use lib.Ieee.Exact.{HasValue}
use lib.Ieee.Nearest.{closest}
use Rattle.readings_rules.specs.Ranges.{in_hundredths, in_range, level_low, level_high, quality_low, quality_high}
use Rattle.readings_rules.specs.Rounding.{distance}
use Rattle.readings_rules.specs.Hundredths.{signed, numerator}
use Rattle.readings_rules.specs.Float.{float_of, shown}
use Rattle.readings_rules.specs.Claims.{Between, Exactly, plus, minus, away_from, ShowsNearest, Shows, ShownRule}
use Rattle.readings_rules.proofs.Ranges.{in_words, by_words}
use Rattle.readings_rules.proofs.Conversion.{refused_outside, gives_inside, exactly}
use Rattle.readings_rules.proofs.Fields.{times}
use Rattle.readings_rules.proofs.Signs.{is_neg, signed_is, scaled, zero_factor}
use Rattle.readings_rules.proofs.Range.{in_size}
use Rattle.readings_rules.proofs.Rule.{gap, away, by_case, away_is, steps_apart}
use Rattle.readings_rules.proofs.SingleFloat.{float_single}
use Rattle.readings_rules.proofs.Quotient.{dropped, keeps, grid, dropped_le, regroup, whole_step, round_value, float_is}

-- ---- the nearest whole number is within less than a half, where there is no tie
abbrev Close : ℕ → ℕ → ℕ → Type 0
Close a b k = (2 * (k * b) < 2 * a + b) × (2 * a < 2 * (k * b) + b)

module _ (a b q r : ℕ) (d : q * b + r ≡ a) (l : r < b) where
  close_lt : r * 2 < b → Close a b q
  close_lt h = (omega arith, omega arith)

  close_gt : b < r * 2 → Close a b (suc q)
  close_gt h = (omega (arith, suc-mul q b), omega (arith, suc-mul q b))

close : (a b : ℕ) → 0 < b → (a % b * 2 ≡ b → ⊥) → Close a b (closest a b)
close a b p ne = go (compare (a % b * 2) b) (leb→le (a % b * 2) b) (nleb→lt (a % b * 2) b) (eqb→eq (a % b * 2) b)
  where
    go : (o : Ordering) → (T (is_le o) → a % b * 2 ≤ b) → (T (not (is_le o)) → b < a % b * 2) → (T (compare_is_eq o) → a % b * 2 ≡ b) → Close a b (nearest (a / b) o)
    go Ordering.lt l g e = close_lt a b (a / b) (a % b) (div-add-mod' a b) (mod-lt a p) (lt_of_le-ne (l tt) ne)
    go Ordering.eq l g e = absurd (ne (e tt))
    go Ordering.gt l g e = close_gt a b (a / b) (a % b) (div-add-mod' a b) (mod-lt a p) (g tt)

-- any other whole number is further off
module _ (a b k : ℕ) (c : Close a b k) where
  further : (q : ℕ) → (q ≡ k → ⊥) → gap (k * b) a < gap (q * b) a
  further q ne =
      by_case (ltb q k)
      (λ e. omega (arith, c.0, c.1, steps_apart q k b (ltb-true q k e)))
      (λ e. by_case (ltb k q)
      (λ f. omega (arith, c.0, c.1, steps_apart k q b (ltb-true k q f)))
      (λ f. absurd (ne (le_antisymm (ltb-false k q f) (ltb-false q k e)))))

  not_nearer : (q : ℕ) → gap (k * b) a ≤ gap (q * b) a
  not_nearer q =
      by_case (eqb q k)
      (λ e. let same : q ≡ k = eqb→eq q k (subst T (sym e) tt) in subst (λ (i : ℕ). gap (k * b) a ≤ gap (i * b) a) (sym same) (omega arith))
      (λ e. le_of_lt (further q (λ same. differ e same)))
    where
      differ : eqb q k ≡ false → q ≡ k → ⊥
      differ e same = eqb-false q k e same

-- ---- no tie: twice n times a multiple of 256 is no odd multiple of 100
no_tie_at : (v q X r : ℕ) → 0 < X → q * (100 * X) + r ≡ v * 256 * X → r * 2 ≡ 100 * X → ⊥
no_tie_at v q X r p e f = even (eq_of_mul-eq-mul_right X p (2 * (v * 256)) (2 * (q * 100) + 100) both)
  where
    both : 2 * (v * 256) * X ≡ (2 * (q * 100) + 100) * X
    both = omega (arith, e, f, mul_assoc 2 (v * 256) X, mul_assoc q 100 X, mul_assoc 2 (q * 100) X, add-mul (2 * (q * 100)) 100 X)

    even : 2 * (v * 256) ≡ 2 * (q * 100) + 100 → ⊥
    even h = omega arith

module _ (n : ℕ) (h : n < 65536) where
  abbrev k : ℕ
  k = dropped n

  abbrev u : ℕ
  u = 100 * 2 ^ k

  abbrev target : ℕ
  target = n * 2 ^ 149

  u_pos : 0 < u
  u_pos = mul-pos {m = 100} {n = 2 ^ k} (lit< tt) (pow_pos k)

  small : k ≤ 141
  small = dropped_le n h

  target_is : n * 2 ^ (141 - k) * 256 * 2 ^ k ≡ target
  target_is =
      mul_assoc (n * 2 ^ (141 - k)) 256 (2 ^ k) ∙ mul_assoc n (2 ^ (141 - k)) (256 * 2 ^ k)
      ∙ ap (λ (x : ℕ). n * x) (sym (mul_assoc (2 ^ (141 - k)) 256 (2 ^ k)) ∙ ap (λ (x : ℕ). x * 2 ^ k) (mul_comm (2 ^ (141 - k)) 256)
      ∙ mul_assoc 256 (2 ^ (141 - k)) (2 ^ k) ∙ ap (λ (x : ℕ). 256 * x) (sym (pow-add 2 (141 - k) k) ∙ ap (λ (i : ℕ). 2 ^ i) (back 141 k small)))

  no_tie : target % u * 2 ≡ u → ⊥
  no_tie e = no_tie_at (n * 2 ^ (141 - k)) (target / u) (2 ^ k) (target % u) (pow_pos k) (div-add-mod' target u ∙ sym target_is) e

  closely : Close target u (keeps n)
  closely = close target u u_pos no_tie

  -- 100 times the float is that many times u
  grid_is : keeps n * u ≡ 100 * grid n
  grid_is = regroup (keeps n) (2 ^ k)

  -- ---- another single float q * 2 ^ j
  module _ (q j : ℕ) (few : q < 2 ^ 24) where
    abbrev other : ℕ
    other = q * 2 ^ j

    coarse : k ≤ j → q * 2 ^ (j - k) * u ≡ 100 * other
    coarse l = regroup (q * 2 ^ (j - k)) (2 ^ k) ∙ ap (λ (x : ℕ). 100 * x)
        (mul_assoc q (2 ^ (j - k)) (2 ^ k) ∙ ap (λ (x : ℕ). q * x) (sym (pow-add 2 (j - k) k) ∙ ap (λ (i : ℕ). 2 ^ i) (back j k l)))

    coarse_further : k ≤ j → (other ≡ grid n → ⊥) → gap (100 * grid n) target < gap (100 * other) target
    coarse_further l ne =
        subst (λ (x : ℕ). gap x target < gap (100 * other) target) grid_is
        (subst (λ (x : ℕ). gap (keeps n * u) target < gap x target) (coarse l)
        (further target u (keeps n) closely (q * 2 ^ (j - k)) (λ e. ne (same e))))
      where
        same : q * 2 ^ (j - k) ≡ keeps n → other ≡ grid n
        same e = sym (mul_assoc q (2 ^ (j - k)) (2 ^ k) ∙ ap (λ (x : ℕ). q * x) (sym (pow-add 2 (j - k) k) ∙ ap (λ (i : ℕ). 2 ^ i) (back j k l)))
            ∙ ap (λ (x : ℕ). x * 2 ^ k) e

    -- a finer one lies below 2 ^ (23 + k), which the target reaches
    reached : j < k → 100 * 2 ^ (23 + k) ≤ target
    reached l = le_trans (subst (λ (x : ℕ). x ≤ target / 100 * 100) (mul_comm (2 ^ (23 + k)) 100)
        (mul-le-mul_right 100 (size_reaches (target / 100) (23 + k) (wide (size (target / 100)) l)))) (div-mul-le_self target 100)
      where
        wide : (z : ℕ) → j < z - 24 → 23 + (z - 24) < z
        wide z l = omega arith

    fine : j < k → other < 2 ^ (23 + k)
    fine l = lt_of_lt_of_le (shl_lt 24 j few) (pow_mono {i = 24 + j} {j = 23 + k} (omega arith))

    fine_further : j < k → gap (100 * grid n) target < gap (100 * other) target
    fine_further l =
        below (100 * grid n) (100 * 2 ^ (23 + k)) (100 * other) target
        (subst (λ (x : ℕ). gap x target ≤ gap (100 * 2 ^ (23 + k)) target) grid_is
        (subst (λ (x : ℕ). gap (keeps n * u) target ≤ gap x target) (regroup (2 ^ 23) (2 ^ k) ∙ ap (λ (x : ℕ). 100 * x) (sym (pow-add 2 23 k)))
        (not_nearer target u (keeps n) closely (2 ^ 23))))
        (reached l)
        (times_hundred other (2 ^ (23 + k)) (fine l))
      where
        below : (g z y a : ℕ) → gap g a ≤ gap z a → z ≤ a → y < z → gap g a < gap y a
        below g z y a e f l = omega arith

        times_hundred : (a b : ℕ) → a < b → 100 * a < 100 * b
        times_hundred a b l = omega arith

    one_sign : (other ≡ grid n → ⊥) → gap (100 * grid n) target < gap (100 * other) target
    one_sign ne = by_case (ltb j k) (λ e. fine_further (ltb-true j k e)) (λ e. coarse_further (ltb-false j k e) ne)

    two_signs : (other ≡ 0 → grid n ≡ 0 → ⊥) → gap (100 * grid n) target < 100 * other + target
    two_signs ne =
        by_case (eqb (keeps n) 0)
        (λ e. none (grid n) other target (ap (λ (x : ℕ). x * 2 ^ k) (eqb→eq (keeps n) 0 (subst T (sym e) tt)) ∙ zero-mul (2 ^ k)) ne)
        (λ e. some (100 * grid n) other target (subst (λ (x : ℕ). gap x target < gap 0 target) grid_is
        (subst (λ (x : ℕ). gap (keeps n * u) target < gap x target) (zero-mul u)
        (further target u (keeps n) closely 0 (λ z. eqb-false (keeps n) 0 e (sym z))))))
      where
        none : (g y a : ℕ) → g ≡ 0 → (y ≡ 0 → g ≡ 0 → ⊥) → gap (100 * g) a < 100 * y + a
        none g zero a e ne = absurd (ne refl e)
        none g (suc y) a e ne = omega arith

        some : (g y a : ℕ) → gap g a < gap 0 a → gap g a < 100 * y + a
        some g y a l = omega arith

    -- by the signs of the other float and of h
    apart_more : (s t : Bool) → (t ≡ s → other ≡ grid n → ⊥) → (other ≡ 0 → grid n ≡ 0 → ⊥) → away s s (100 * grid n) target < away t s (100 * other) target
    apart_more false false ne zeros = one_sign (ne refl)
    apart_more false true ne zeros = two_signs zeros
    apart_more true false ne zeros = two_signs zeros
    apart_more true true ne zeros = one_sign (ne refl)

-- ---- a single float in units of 2 ^ -149
record InUnits (w d : ℕ) : Type 0 where
  q : ℕ
  j : ℕ
  few : q < 2 ^ 24
  is : w * 2 ^ 149 ≡ q * 2 ^ j * d

in_units : (t : Bool) (n : ℕ) (f : ℤ) → T (fits binary32 (fin t n f)) → InUnits (n * up f) (down f)
unfolding fits
in_units t zero f x = record { q = 0; j = 0; few = lit< tt; is = ap (λ (y : ℕ). y * 2 ^ 149) (zero-mul (up f)) ∙ zero-mul (2 ^ 149) ∙ sym (zero-mul (down f)) }
in_units t (suc m) f x = go f (leb→le (down f) (2 ^ 149) (and_r (eqb (suc m % 2) 1 && ltb (suc m) (2 ^ 24)) (leb (down f) (2 ^ 149)) lower))
  where
    lower : T (eqb (suc m % 2) 1 && ltb (suc m) (2 ^ 24) && leb (down f) (2 ^ 149))
    lower = and_l (eqb (suc m % 2) 1 && ltb (suc m) (2 ^ 24) && leb (down f) (2 ^ 149)) (ltb (suc m * up f) (2 ^ 128 * down f)) x

    few : suc m < 2 ^ 24
    few = ltb→lt (suc m) (2 ^ 24) (and_r (eqb (suc m % 2) 1) (ltb (suc m) (2 ^ 24))
        (and_l (eqb (suc m % 2) 1 && ltb (suc m) (2 ^ 24)) (leb (down f) (2 ^ 149)) lower))

    go : (f : ℤ) → down f ≤ 2 ^ 149 → InUnits (suc m * up f) (down f)
    go (pos i) l = record {
      q = suc m;
      j = i + 149;
      few = few;
      is = mul_assoc (suc m) (2 ^ i) (2 ^ 149)
          ∙ ap (λ (y : ℕ). suc m * y) (sym (pow-add 2 i 149)) ∙ sym (mul-one (suc m * 2 ^ (i + 149)));
    }
    go (negsuc i) l = record {
      q = suc m;
      j = 149 - suc i;
      few = few;
      is = ap (λ (y : ℕ). y * 2 ^ 149) (mul-one (suc m))
          ∙ ap (λ (y : ℕ). suc m * y) (sym (whole_step (suc i) low)) ∙ sym (mul_assoc (suc m) (2 ^ (149 - suc i)) (2 ^ suc i));
    }
      where
        low : suc i ≤ 149
        low = by_case (ltb 149 (suc i)) (λ e. absurd (not-le_of_lt (pow-lt (ltb-true 149 (suc i) e)) l)) (λ e. ltb-false 149 (suc i) e)

-- ---- from units to the float's own fraction
gap_scale : (a b c : ℕ) → gap (a * c) (b * c) ≡ gap a b * c
gap_scale a b c = omega (arith, mul_comm a c, mul_comm b c, mul-sub c a b, mul-sub c b a, mul_comm (gap a b) c, mul-add c (a - b) (b - a))

away_scale : (s t : Bool) (a b c : ℕ) → away s t (a * c) (b * c) ≡ away s t a b * c
away_scale false false a b c = gap_scale a b c
away_scale false true a b c = sym (add-mul a b c)
away_scale true false a b c = sym (add-mul a b c)
away_scale true true a b c = gap_scale a b c

-- the fraction w / d is G / U
module _ (s t : Bool) (w d G n U : ℕ) (e : w * U ≡ G * d) where
  to_units : away s t (100 * w) (n * d) * U ≡ away s t (100 * G) (n * U) * d
  to_units =
      sym (away_scale s t (100 * w) (n * d) U)
      ∙ ap (λ (x : ℕ). away s t x (n * d * U)) (mul_assoc 100 w U ∙ ap (λ (x : ℕ). 100 * x) e ∙ sym (mul_assoc 100 G d))
      ∙ ap (λ (x : ℕ). away s t (100 * G * d) x) (mul_right_comm n d U)
      ∙ away_scale s t (100 * G) (n * U) d

cross_less : (x y d d' U X Y : ℕ) → 0 < d → 0 < d' → x * U ≡ X * d → y * U ≡ Y * d' → X < Y → x * d' < y * d
cross_less x y d d' U X Y D D' e f l =
    lt_of_mul-lt-mul_right U
    (subst (λ (z : ℕ). z < y * d * U) (sym (mul_right_comm x d' U ∙ ap (λ (z : ℕ). z * d') e))
    (subst (λ (z : ℕ). X * d * d' < z) (sym (mul_right_comm y d U ∙ ap (λ (z : ℕ). z * d) f ∙ mul_right_comm Y d' d))
    (mul-lt-mul_of_pos_right (mul-lt-mul_of_pos_right l D) D')))

away_of : (h : ℤ) (s : Bool) (m : ℕ) (e : ℤ) → away_from h (numerator s m e) (down e) ≡ away s (is_neg h) (100 * (m * up e)) (nat_abs h * down e)
away_of h s m e =
    ap (λ (z : ℤ). distance z (down e) h) (times s (m * up e))
    ∙ ap (distance (signed s (100 * (m * up e))) (down e)) (sym (signed_is h))
    ∙ away_is s (is_neg h) (100 * (m * up e)) (down e) (nat_abs h)

-- two floats of the same sign and as many units are the same number, and so are two zeros
module _ (s t : Bool) (w z d d' U G Y : ℕ) (p : 0 < U) (e : w * U ≡ G * d) (f : z * U ≡ Y * d') where
  same_number : t ≡ s → Y ≡ G → signed t z *ℤ pos d ≡ signed s w *ℤ pos d'
  same_number b g = scaled t z d ∙ ap (λ (x : ℕ). signed t x) size ∙ ap (λ (c : Bool). signed c (w * d')) b ∙ sym (scaled s w d')
    where
      size : z * d ≡ w * d'
      size =
          eq_of_mul-eq-mul_right U p (z * d) (w * d')
          (mul_right_comm z d U ∙ ap (λ (x : ℕ). x * d) f ∙ mul_right_comm Y d' d ∙ ap (λ (x : ℕ). x * d * d') g ∙ ap (λ (x : ℕ). x * d') (sym e)
          ∙ mul_right_comm w U d')

  both_zero : Y ≡ 0 → G ≡ 0 → signed t z *ℤ pos d ≡ signed s w *ℤ pos d'
  both_zero a b = none t z d (zero_factor z U p (f ∙ ap (λ (x : ℕ). x * d') a ∙ zero-mul d'))
      ∙ sym (none s w d' (zero_factor w U p (e ∙ ap (λ (x : ℕ). x * d) b ∙ zero-mul d)))
    where
      zero_signed : (b : Bool) → signed b 0 ≡ pos 0
      zero_signed false = refl
      zero_signed true = refl

      none : (b : Bool) (x c : ℕ) → x ≡ 0 → signed b x *ℤ pos c ≡ pos 0
      none b x c q = ap (λ (y : ℕ). signed b y *ℤ pos c) q ∙ ap (λ (y : ℤ). y *ℤ pos c) (zero_signed b) ∙ ap pos (zero-mul c)

-- ---- the float of h
sign_of : (h : ℤ) → (is_neg h ≡ true) ↔ (h <ℤ pos 0)
sign_of (pos n) = (λ e. absurd (subst T (sym e) tt), λ l. absurd (subst T (le-ltb n 0 (omega arith)) l.lt))
sign_of (negsuc n) = (λ e. lt_z_yes tt, λ l. refl)

module _ (h : ℤ) (l : nat_abs h < 65536) (s : Bool) (m : ℕ) (e : ℤ) (v : HasValue (fin s m e) (is_neg h) (grid (nat_abs h)) (2 ^ 149)) where
  abbrev ours : ℤ
  ours = numerator s m e

  nearest_of : (t : Bool) (n : ℕ) (f : ℤ) → InUnits (n * up f) (down f) → ¬ (numerator t n f *ℤ pos (down e) ≡ ours *ℤ pos (down f))
      → away_from h ours (down e) * down f < away_from h (numerator t n f) (down f) * down e
  nearest_of t n f y ne =
      let w = m * up e in
      let z = n * up f in
      let G = grid (nat_abs h) in
      let Y = y.q * 2 ^ y.j in
      let A = nat_abs h * 2 ^ 149 in
      rw (away_of h s m e, away_of h t n f)
      (cross_less (away s (is_neg h) (100 * w) (nat_abs h * down e)) (away t (is_neg h) (100 * z) (nat_abs h * down f)) (down e) (down f) (2 ^ 149)
      (away s (is_neg h) (100 * G) A) (away t (is_neg h) (100 * Y) A) (down_pos e) (down_pos f)
      (to_units s (is_neg h) w (down e) G (nat_abs h) (2 ^ 149) v.1) (to_units t (is_neg h) z (down f) Y (nat_abs h) (2 ^ 149) y.is)
      (subst (λ (b : Bool). away b (is_neg h) (100 * G) A < away t (is_neg h) (100 * Y) A) (sym v.0)
      (apart_more (nat_abs h) l y.q y.j y.few (is_neg h) t
      (λ b g. ne (same_number s t w z (down e) (down f) (2 ^ 149) G Y (pow_pos 149) v.1 y.is (b ∙ sym v.0) g))
      (λ a b. ne (both_zero s t w z (down e) (down f) (2 ^ 149) G Y (pow_pos 149) v.1 y.is a b)))))

  nearer : {y : Float} {i : ℤ} {j : ℕ} → Exactly y i j → T (fits binary32 y) → ¬ (i *ℤ pos (down e) ≡ ours *ℤ pos j)
      → away_from h ours (down e) * j < away_from h i j * down e
  nearer (plus n f) x = nearest_of false n f (in_units false n f x)
  nearer (minus n f) x = nearest_of true n f (in_units true n f x)

  same_sign : (t : Bool) (n : ℕ) (f : ℤ) → fin s m e ≡ fin t n f → (t ≡ true) ↔ (h <ℤ pos 0)
  same_sign t n f i = let same : t ≡ s = cc in subst (λ (b : Bool). (b ≡ true) ↔ (h <ℤ pos 0)) (sym (same ∙ v.0)) (sign_of h)

shows_nearest : (h : ℤ) → nat_abs h < 65536 → (x : Float) → HasValue x (is_neg h) (grid (nat_abs h)) (2 ^ 149) → T (fits binary32 x) → ShowsNearest h x
shows_nearest h l nan v f = absurd v
shows_nearest h l (inf t) v f = absurd v
shows_nearest h l (fin s m e) v f = record {
  n = numerator s m e;
  d = down e;
  exact = exactly s m e;
  single = f;
  sign = same_sign h l s m e v;
  nearest = λ y i j g k. nearer h l s m e v k g;
}

shows : (lo hi h : ℤ) → nat_abs lo < 656 → nat_abs hi < 656 → Shows h (Between (in_hundredths lo) (in_hundredths hi) h) (shown lo hi h)
unfolding shown
shows lo hi h a b = record {
  refuses = refused_outside (float_of h) (in_range lo hi h) (in_words lo hi h) (by_words lo hi h);
  nearest = λ x e. let i = gives_inside (float_of h) (in_range lo hi h) e in subst (ShowsNearest h) i.1 (here (in_words lo hi h i.0));
}
  where
    here : Between (in_hundredths lo) (in_hundredths hi) h → ShowsNearest h (float_of h)
    here w =
        let l = in_size lo hi h a b w.lowest.le w.highest.le in
        shows_nearest h l (float_of h)
        (subst (λ (x : Float). HasValue x (is_neg h) (grid (nat_abs h)) (2 ^ 149)) (sym (float_is h l)) (round_value (is_neg h) (nat_abs h) l)) (float_single h)

pub shown_rule : ShownRule
shown_rule = record { level = λ h. shows level_low level_high h (lit< tt) (lit< tt); quality = λ h. shows quality_low quality_high h (lit< tt) (lit< tt) }
