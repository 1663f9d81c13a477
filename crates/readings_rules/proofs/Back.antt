-- Hundredths shown as a float, and converted again, are the same hundredths.
-- In units of 2 ^ -149, 100 times the float is less than half of 2 ^ 149 from n 2 ^ 149, where n is the size of the hundredths.
use mathlib.Core.Path.{◌≡◌, refl, sym, ap, ◌∙◌, subst}
use mathlib.Core.Bool.{Bool, true, false, ◌&&◌}
use Prim.Native.Nat.{ℕ, ◌*◌, ◌^◌, ◌≤◌, ◌<◌, zero-le}
use native.Mathlib.Nat.{zero-mul, mul_right_comm, mul-le-mul_right, le_of_mul-le-mul_right, le_trans, le_of_eq}
use native.Mathlib.Omega.{arith}
use lib.Dec.{T, lit<}
use lib.Pow.{pow_pos}
use lib.IntN.{ℤ, pos, nat_abs, ◌*ℤ◌}
use lib.Signed.{le_z}
use lib.Ieee.{Float, nan, inf, fin, up, down, binary32, round}
use lib.Ieee.Fits.{and_i}
use lib.Ieee.Exact.{HasValue}
use lib.Arith.{le-zero}
use Rattle.refusal.specs.declared.Refusal.TheVariants.{ReadingOutOfRange}
use Rattle.refusal.specs.declared.Reason.{Reason}
use Rattle.refusal.specs.Told.{gives, refused, provided}
use Rattle.refusal.proofs.OneToOne.{gives_refused}
use Rattle.refusal.proofs.Provided.{same_reason}
use Rattle.readings_rules.specs.Ranges.{in_hundredths, in_range, level_low, level_high, quality_low, quality_high, level_in_range, quality_in_range}
use Rattle.readings_rules.specs.Hundredths.{signed, within, converted, hundredths_of, level_of, quality_of}
use Rattle.readings_rules.specs.Float.{float_of, shown}
use Rattle.readings_rules.specs.Claims.{Between, ReadsBack, ReadBack}
use Rattle.readings_rules.proofs.Ranges.{in_words, by_words}
use Rattle.readings_rules.proofs.Conversion.{refused_outside, inside_gives, gives_inside}
use Rattle.readings_rules.proofs.Fields.{near_hundredths}
use Rattle.readings_rules.proofs.Signs.{is_neg, signed_is, order, by_size}
use Rattle.readings_rules.proofs.Range.{in_size}
use Rattle.readings_rules.proofs.SingleFloat.{float_single}
use Rattle.readings_rules.proofs.Quotient.{grid, near_grid, grid_le, grid_ge, round_value, float_is}

-- ---- converted again
pub hundredths_back : (h : ℤ) → nat_abs h < 65536 → hundredths_of (float_of h) ≡ h
hundredths_back h l =
    ap hundredths_of (float_is h l)
    ∙ near_hundredths (round binary32 (is_neg h) (nat_abs h) 100) (is_neg h) (grid (nat_abs h)) (2 ^ 149) (nat_abs h) (pow_pos 149)
    (round_value (is_neg h) (nat_abs h) l) (near_grid (is_neg h) (nat_abs h) l)
    ∙ signed_is h

-- ---- and the float is in the range
module _ (n m : ℕ) (e : ℤ) (h : n < 65536) (v : m * up e * 2 ^ 149 ≡ grid n * down e) where
  size_below : (c : ℕ) → n ≤ c * 100 → m * up e ≤ c * down e
  size_below c l =
      le_of_mul-le-mul_right {m = m * up e} {n = c * down e} {k = 2 ^ 149}
      (le_trans (le_of_eq v) (le_trans (mul-le-mul_right (down e) (grid_le n c h l)) (le_of_eq (mul_right_comm c (2 ^ 149) (down e))))) (pow_pos 149)

  size_above : (c : ℕ) → c * 100 ≤ n → c * down e ≤ m * up e
  size_above c l =
      le_of_mul-le-mul_right {m = c * down e} {n = m * up e} {k = 2 ^ 149}
      (le_trans (le_of_eq (mul_right_comm c (down e) (2 ^ 149))) (le_trans (mul-le-mul_right (down e) (grid_ge n c h l)) (le_of_eq (sym v)))) (pow_pos 149)

  size-zero : n ≡ 0 → m * up e ≡ 0
  size-zero z = le-zero (subst (λ (x : ℕ). m * up e ≤ x) (zero-mul (down e)) (size_below 0 (subst (λ (x : ℕ). x ≤ 0 * 100) (sym z) zero-le)))

times_zero : (a d : ℕ) → a * 100 ≡ 0 → a * d ≡ 0
times_zero a d h = ap (λ (x : ℕ). x * d) (zero_of a h) ∙ zero-mul d
  where
    zero_of : (a : ℕ) → a * 100 ≡ 0 → a ≡ 0
    zero_of a h = omega arith

within_of : (lo hi : ℤ) (x : Float) (s : Bool) (n : ℕ) → n < 65536 → HasValue x s (grid n) (2 ^ 149)
    → T (le_z (lo *ℤ pos 100) (signed s n)) → T (le_z (signed s n) (hi *ℤ pos 100)) → T (within lo hi x)
unfolding within
within_of lo hi nan s n h v p q = absurd v
within_of lo hi (inf t) s n h v p q = absurd v
within_of lo hi (fin t m e) s n h v p q =
    let d = down e in
    let a = nat_abs lo in
    let b = nat_abs hi in
    let w = m * up e in
    let low : T (le_z (lo *ℤ pos d) (signed s w)) =
    subst (λ (z : ℤ). T (le_z z (signed s w))) (sym (by_size lo d))
    (order (is_neg lo) s (a * 100) n (a * d) w (size_above n m e h v.1 a) (size_below n m e h v.1 a) (times_zero a d) (size-zero n m e h v.1)
    (subst (λ (z : ℤ). T (le_z z (signed s n))) (by_size lo 100) p)) in
    let high : T (le_z (signed s w) (hi *ℤ pos d)) =
    subst (λ (z : ℤ). T (le_z (signed s w) z)) (sym (by_size hi d))
    (order s (is_neg hi) n (b * 100) w (b * d) (size_below n m e h v.1 b) (size_above n m e h v.1 b) (size-zero n m e h v.1) (times_zero b d)
    (subst (λ (z : ℤ). T (le_z (signed s n) z)) (by_size hi 100) q)) in
    subst (λ (y : Bool). T (le_z (lo *ℤ pos d) (signed y w) && le_z (signed y w) (hi *ℤ pos d))) (sym v.0)
    (and_i (le_z (lo *ℤ pos d) (signed s w)) (le_z (signed s w) (hi *ℤ pos d)) low high)

-- Hundredths in a range, shown as a float and converted, are the same hundredths.
module _ (lo hi h : ℤ) (a : nat_abs lo < 656) (b : nat_abs hi < 656) where
  read_back : T (in_range lo hi h) → converted lo hi (float_of h) ≡ gives h
  unfolding converted
  read_back t =
      let w = in_words lo hi h t in
      let l : nat_abs h < 65536 = in_size lo hi h a b w.lowest.le w.highest.le in
      let inside : T (within lo hi (float_of h)) =
      subst (λ (x : Float). T (within lo hi x)) (sym (float_is h l))
      (within_of lo hi (round binary32 (is_neg h) (nat_abs h) 100) (is_neg h) (nat_abs h) l (round_value (is_neg h) (nat_abs h) l)
      (subst (λ (z : ℤ). T (le_z (lo *ℤ pos 100) z)) (sym (signed_is h)) w.lowest.le)
      (subst (λ (z : ℤ). T (le_z z (hi *ℤ pos 100))) (sym (signed_is h)) w.highest.le)) in
      inside_gives (hundredths_of (float_of h)) (within lo hi (float_of h)) inside ∙ ap gives (hundredths_back h l)

  reads : Between (in_hundredths lo) (in_hundredths hi) h
      → ReadsBack h (shown lo hi h) (converted lo hi) (provided (in_range lo hi h) ReadingOutOfRange (gives h))
  unfolding shown
  reads w =
      let t : T (in_range lo hi h) = by_words lo hi h w in
      record {
        x = float_of h;
        is = inside_gives (float_of h) (in_range lo hi h) t;
        single = float_single h;
        again = read_back t;
        same = inside_gives h (in_range lo hi h) t;
      }

  -- for the calls: of what `shown` tells, a float reads back as h, and a refusal stays
  pub shown_back : (x : Float) → gives x ≡ shown lo hi h → converted lo hi x ≡ provided (in_range lo hi h) ReadingOutOfRange (gives h)
  unfolding shown
  shown_back x e =
      let i = gives_inside (float_of h) (in_range lo hi h) (sym e) in
      ap (converted lo hi) (sym i.1) ∙ read_back i.0 ∙ sym (inside_gives h (in_range lo hi h) i.0)

  pub refused_back : (n : Reason) → refused n ≡ shown lo hi h → refused n ≡ provided (in_range lo hi h) ReadingOutOfRange (gives h)
  unfolding shown
  refused_back n e = go (in_range lo hi h) e
    where
      go : (t : Bool) → refused n ≡ provided t ReadingOutOfRange (gives (float_of h)) → refused n ≡ provided t ReadingOutOfRange (gives h)
      go true e = absurd (gives_refused (sym e))
      go false e = ap refused (same_reason refl e)

pub reads_back : ReadBack
reads_back = record {
  level = λ h. reads level_low level_high h (lit< tt) (lit< tt);
  quality = λ h. reads quality_low quality_high h (lit< tt) (lit< tt);
  level_refused = λ h. refused_outside h (level_in_range h) (in_words level_low level_high h) (by_words level_low level_high h);
  quality_refused = λ h. refused_outside h (quality_in_range h) (in_words quality_low quality_high h) (by_words quality_low quality_high h);
}

-- ---- for crates above: of the float itself, by the tests
pub level_back : (h : ℤ) → level_in_range h ≡ true → level_of (float_of h) ≡ gives h
level_back h e = read_back level_low level_high h (lit< tt) (lit< tt) (subst T (sym e) tt)

pub quality_back : (h : ℤ) → quality_in_range h ≡ true → quality_of (float_of h) ≡ gives h
quality_back h e = read_back quality_low quality_high h (lit< tt) (lit< tt) (subst T (sym e) tt)
