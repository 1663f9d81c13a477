-- From a float to hundredths in document 01's words: the exact float is the fraction that the test and the rounding work on.
use mathlib.Core.Path.{◌≡◌, refl, sym, ap, subst}
use mathlib.Core.Bool.{Bool, true, false}
use Prim.Native.Nat.{ℕ, ◌*◌}
use lib.Dec.{T}
use lib.IntN.{ℤ, pos, neg_ℤ, ◌*ℤ◌}
use lib.Signed.{le_z, le_z_yes, ◌≤ℤ◌}
use lib.Ieee.{Float, nan, inf, fin, up, down}
use lib.Ieee.Fits.{down_pos, and_i, and_l, and_r}
use Rattle.refusal.specs.declared.Refusal.TheVariants.{ReadingOutOfRange}
use Rattle.refusal.specs.Told.{gives, refused, provided}
use Rattle.refusal.proofs.OneToOne.{gives_refused}
use Rattle.readings_rules.specs.Ranges.{level_low, level_high, quality_low, quality_high}
use Rattle.readings_rules.specs.Rounding.{NearestLower}
use Rattle.readings_rules.specs.Hundredths.{numerator, within, hundredths_of, converted}
use Rattle.readings_rules.specs.Claims.{RefusedOutside, Exactly, plus, minus, Within, Converts, ConversionRule}
use Rattle.readings_rules.proofs.Rule.{rounding_rule}

-- ---- values where a test holds: refused with 1 exactly where its words do not hold

module _ {A : Type 0} (a : A) where
  pub refused_outside : {P : Type 0} (t : Bool) → (T t → P) → (P → T t) → RefusedOutside P (provided t ReadingOutOfRange (gives a))
  refused_outside true f g n = (λ e. absurd (gives_refused e), λ h. absurd (h.1 (f tt)))
  refused_outside false f g n = (λ e. (cc, g), λ h. ap refused (sym h.0))

  pub inside_gives : (t : Bool) → T t → provided t ReadingOutOfRange (gives a) ≡ gives a
  inside_gives true i = refl
  inside_gives false i = absurd i

  pub gives_inside : {b : A} (t : Bool) → provided t ReadingOutOfRange (gives a) ≡ gives b → T t × (a ≡ b)
  gives_inside true e = (tt, cc)
  gives_inside false e = absurd (gives_refused (sym e))

-- ---- the exact float

pub exactly : (s : Bool) (m : ℕ) (e : ℤ) → Exactly (fin s m e) (numerator s m e) (down e)
exactly false m e = plus m e
exactly true m e = minus m e

module _ (low high : ℤ) where
  in_words : (x : Float) → T (within low high x) → Within low high x
  unfolding within
  in_words nan t = absurd t
  in_words (inf s) t = absurd t
  in_words (fin s m e) t =
      let n = numerator s m e in
      let below = le_z (low *ℤ pos (down e)) n in
      let above = le_z n (high *ℤ pos (down e)) in
      record { n = n; d = down e; exact = exactly s m e; lowest = le_z_yes (and_l below above t); highest = le_z_yes (and_r below above t) }

  by_words : {x : Float} → Within low high x → T (within low high x)
  unfolding within
  by_words w = go w.exact w.lowest w.highest
    where
      go : {x : Float} {n : ℤ} {d : ℕ} → Exactly x n d → (low *ℤ pos d) ≤ℤ n → n ≤ℤ (high *ℤ pos d) → T (within low high x)
      go {n} {d} (plus m e) p q = and_i (le_z (low *ℤ pos d) n) (le_z n (high *ℤ pos d)) p.le q.le
      go {n} {d} (minus m e) p q = and_i (le_z (low *ℤ pos d) n) (le_z n (high *ℤ pos d)) p.le q.le

-- 100 times it, to the nearest
nearest_of : {x : Float} {n : ℤ} {d : ℕ} → Exactly x n d → NearestLower (pos 100 *ℤ n) d (hundredths_of x)
unfolding hundredths_of
nearest_of (plus m e) = (rounding_rule (pos 100 *ℤ pos (m * up e)) (down e) (down_pos e)).exists
nearest_of (minus m e) = (rounding_rule (pos 100 *ℤ neg_ℤ (pos (m * up e))) (down e) (down_pos e)).exists

pub converts : (low high : ℤ) (x : Float) → Converts low high x (converted low high x)
unfolding converted
converts low high x = record {
  refuses = refused_outside (hundredths_of x) (within low high x) (in_words low high x) (by_words low high);
  nearest = λ h e n d i. subst (NearestLower (pos 100 *ℤ n) d) (gives_inside (hundredths_of x) (within low high x) e).1 (nearest_of i);
}

pub conversion_rule : ConversionRule
unfolding converted
conversion_rule = record { level = converts level_low level_high; quality = converts quality_low quality_high; minus_zero = (refl, refl) }
