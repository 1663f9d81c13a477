-- A burst by what its two floats tell, and that its hundredths lie in their ranges: a nearest whole number does not leave a range with whole ends.
use mathlib.Core.Path.{◌≡◌, refl, sym, ap, ap₂, subst, ◌∙◌}
use mathlib.Core.Logic.{◌↔◌, ◌⊎◌, inl, inr, ⊎_elim}
use mathlib.Core.Bool.{Bool, true, false}
use Prim.Native.Nat.{ℕ, suc, ◌+◌, ◌*◌, ◌≤◌, ◌<◌}
use native.Mathlib.Nat.{zero-mul, suc-mul, mul-le-mul_right, mul_right_comm, le_of_suc-le-suc, lt_of_not-le}
use native.Mathlib.Omega.{arith}
use lib.Dec.{T}
use lib.Arith.{le-zero}
use lib.IntN.{ℤ, pos, nat_abs, ◌*ℤ◌}
use lib.Signed.{le_z}
use lib.Ieee.{Float, nan, inf, fin, up, down}
use lib.Ieee.Bits.{is_true}
use lib.Ieee.Fits.{down_pos, and_i, and_l, and_r}
use Rattle.refusal.specs.declared.Reason.{Reason}
use Rattle.refusal.specs.declared.Reason.TheVariants.{Alone}
use Rattle.refusal.specs.Told.{Told, gives, refused}
use Rattle.refusal.proofs.OneToOne.{gives_refused}
use Rattle.readings_rules.specs.declared.Burst.{Burst}
use Rattle.readings_rules.specs.declared.Burst.TheVariants.{Heard, Missed}
use Rattle.readings_rules.specs.declared.Reading.{Reading}
use Rattle.readings_rules.specs.Ranges.{in_range, level_low, level_high, quality_low, quality_high, level_in_range, quality_in_range}
use Rattle.readings_rules.specs.Hundredths.{signed, within, converted, hundredths_of, level_of, quality_of}
use Rattle.readings_rules.specs.Burst.{BurstResult, heard, burst_of, both_of, InRange}
use Rattle.readings_rules.specs.Code.{Near}
use Rattle.readings_rules.specs.Claims.{BurstRule, BurstInRange}
use Rattle.readings_rules.proofs.Ranges.{range_rule}
use Rattle.readings_rules.proofs.Conversion.{gives_inside, converts}
use Rattle.readings_rules.proofs.Near.{near_size, size_of}
use Rattle.readings_rules.proofs.Fields.{hundredths_near}
use Rattle.readings_rules.proofs.Signs.{is_neg, order, by_size, zero_factor}

-- ---- a heard burst by what its two floats tell, each refused with 1 or not at all

both_gives : (s t : Told ℤ) (l q : ℤ) → (both_of s t ≡ gives (heard l q)) ↔ ((s ≡ gives l) × (t ≡ gives q))
both_gives (gives a) (gives b) l q = (λ e. (cc, cc), λ h. cc)
both_gives (gives a) (refused m) l q = (λ e. absurd (gives_refused (sym e)), λ h. absurd (gives_refused (sym h.1)))
both_gives (refused m) t l q = (λ e. absurd (gives_refused (sym e)), λ h. absurd (gives_refused (sym h.0)))

both_refused : (s t : Told ℤ) → ((m : Reason) → s ≡ refused m → m ≡ Alone 1) → ((m : Reason) → t ≡ refused m → m ≡ Alone 1)
    → (n : Reason) → (both_of s t ≡ refused n) ↔ ((n ≡ Alone 1) × ((s ≡ refused (Alone 1)) ⊎ (t ≡ refused (Alone 1))))
both_refused (gives a) (gives b) f g n = (λ e. absurd (gives_refused e), λ h. absurd (⊎_elim gives_refused gives_refused h.1))
both_refused (gives a) (refused m) f g n =
    let one : m ≡ Alone 1 = g m refl in
    (λ e. (cc, inr (ap refused one)), λ h. ap refused (one ∙ sym h.0))
both_refused (refused m) t f g n =
    let one : m ≡ Alone 1 = f m refl in
    (λ e. (cc, inl (ap refused one)), λ h. ap refused (one ∙ sym h.0))

pub burst_rule : BurstRule
burst_rule = record {
  nothing = refl;
  both = λ r. both_gives (level_of r.level) (quality_of r.quality);
  either = λ r. both_refused (level_of r.level) (quality_of r.quality) (one level_low level_high r.level) (one quality_low quality_high r.quality);
}
  where
    one : (low high : ℤ) (x : Float) (m : Reason) → converted low high x ≡ refused m → m ≡ Alone 1
    one low high x m e = (((converts low high x).refuses m).0 e).0

pub burst_1 : (b : Burst Float) (n : Reason) → burst_of b ≡ refused n → n ≡ Alone 1
burst_1 (Heard r) n e = ((burst_rule.either r n).0 e).0
burst_1 Missed n e = absurd (gives_refused e)

-- ---- a nearest whole number stays within whole bounds
module _ (s : Bool) (a w d k : ℕ) (p : 0 < d) (n : Near s (100 * w) d k) where
  weak : (2 * (100 * w) ≤ 2 * (k * d) + d) × (2 * (k * d) ≤ 2 * (100 * w) + d)
  weak = go s n
    where
      go : (s : Bool) → Near s (100 * w) d k → (2 * (100 * w) ≤ 2 * (k * d) + d) × (2 * (k * d) ≤ 2 * (100 * w) + d)
      go false n = (n.0, omega (arith, n.1))
      go true n = (omega (arith, n.1), n.0)

  stays_above : a * d ≤ w → a * 100 ≤ k
  stays_above h = le_of_suc-le-suc (lt_of_not-le (λ (g : suc k ≤ a * 100). no (mul-le-mul_right d g) (mul_right_comm a 100 d)))
    where
      no : suc k * d ≤ a * 100 * d → a * 100 * d ≡ a * d * 100 → ⊥
      no b e = omega (arith, suc-mul k d, weak.0)

  stays_below : w ≤ a * d → k ≤ a * 100
  stays_below h = le_of_suc-le-suc (lt_of_not-le (λ (g : suc (a * 100) ≤ k). no (mul-le-mul_right d g) (mul_right_comm a 100 d)))
    where
      no : suc (a * 100) * d ≤ k * d → a * 100 * d ≡ a * d * 100 → ⊥
      no b e = omega (arith, suc-mul (a * 100) d, weak.1)

  stays_zero : w ≡ 0 → k ≡ 0
  stays_zero z = le-zero (stays_none z)
    where
      stays_none : w ≡ 0 → k ≤ 0
      stays_none z = le_of_suc-le-suc (lt_of_not-le (λ (g : 1 ≤ k). no (mul-le-mul_right d g)))
        where
          no : 1 * d ≤ k * d → ⊥
          no b = omega (arith, weak.1)

-- ---- the hundredths of a float from low to high dB lie from 100 low to 100 high
hundredths_in : (lo hi : ℤ) (x : Float) → T (within lo hi x) → T (in_range lo hi (hundredths_of x))
unfolding within
hundredths_in lo hi nan t = absurd t
hundredths_in lo hi (inf s) t = absurd t
hundredths_in lo hi (fin s m e) t =
    let w = m * up e in
    let d = down e in
    let k = size_of s (100 * w) d in
    let n = near_size s (100 * w) d (down_pos e) in
    let a = nat_abs lo in
    let b = nat_abs hi in
    let low : T (le_z (lo *ℤ pos 100) (signed s k)) =
    subst (λ (z : ℤ). T (le_z z (signed s k))) (sym (by_size lo 100))
    (order (is_neg lo) s (a * d) w (a * 100) k (stays_above s a w d k (down_pos e) n) (stays_below s a w d k (down_pos e) n)
    (λ z. ap (λ (y : ℕ). y * 100) (zero_factor a d (down_pos e) z) ∙ zero-mul 100) (stays_zero s a w d k (down_pos e) n)
    (subst (λ (z : ℤ). T (le_z z (signed s w))) (by_size lo d) (and_l (le_z (lo *ℤ pos d) (signed s w)) (le_z (signed s w) (hi *ℤ pos d)) t))) in
    let high : T (le_z (signed s k) (hi *ℤ pos 100)) =
    subst (λ (z : ℤ). T (le_z (signed s k) z)) (sym (by_size hi 100))
    (order s (is_neg hi) w (b * d) k (b * 100) (stays_below s b w d k (down_pos e) n) (stays_above s b w d k (down_pos e) n)
    (stays_zero s b w d k (down_pos e) n) (λ z. ap (λ (y : ℕ). y * 100) (zero_factor b d (down_pos e) z) ∙ zero-mul 100)
    (subst (λ (z : ℤ). T (le_z (signed s w) z)) (by_size hi d) (and_r (le_z (lo *ℤ pos d) (signed s w)) (le_z (signed s w) (hi *ℤ pos d)) t))) in
    subst (λ (z : ℤ). T (in_range lo hi z)) (sym (hundredths_near s m e k n))
    (and_i (le_z (lo *ℤ pos 100) (signed s k)) (le_z (signed s k) (hi *ℤ pos 100)) low high)

pub converted_in : (lo hi : ℤ) (x : Float) (h : ℤ) → converted lo hi x ≡ gives h → in_range lo hi h ≡ true
unfolding converted
converted_in lo hi x h e =
    let i = gives_inside (hundredths_of x) (within lo hi x) e in
    is_true (in_range lo hi h) (subst (λ (z : ℤ). T (in_range lo hi z)) i.1 (hundredths_in lo hi x i.0))

both_in : (l q : Told ℤ) → ((h : ℤ) → l ≡ gives h → level_in_range h ≡ true) → ((h : ℤ) → q ≡ gives h → quality_in_range h ≡ true) → InRange (both_of l q)
both_in (gives l) (gives q) f g = (f l refl, g q refl)
both_in (gives l) (refused n) f g = tt
both_in (refused n) q f g = tt

pub burst_in_range_lem : (b : Burst Float) → InRange (burst_of b)
burst_in_range_lem (Heard r) =
    both_in (level_of r.level) (quality_of r.quality) (converted_in level_low level_high r.level) (converted_in quality_low quality_high r.quality)
burst_in_range_lem Missed = tt

pub burst_in_range : BurstInRange
burst_in_range b l q e =
    let i = subst InRange e (burst_in_range_lem b) in
    ((range_rule.level l).0 i.0, (range_rule.quality q).0 i.1)

-- ---- for the code: a heard burst by what its two floats tell, and the range with it
pub burst_is : {b : Burst Float} {r : Reading Float} {l q : Told ℤ} → b ≡ Heard r → l ≡ level_of r.level → q ≡ quality_of r.quality → both_of l q ≡ burst_of b
burst_is e f g = ap₂ both_of f g ∙ ap burst_of (sym e)

pub in_range_too : (b : Burst Float) {t : Told BurstResult} → t ≡ burst_of b → (t ≡ burst_of b) × InRange t
in_range_too b e = (e, subst InRange (sym e) (burst_in_range_lem b))
