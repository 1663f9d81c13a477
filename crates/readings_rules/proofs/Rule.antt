-- The rounding rule as it is said: `nearest_lower` is the whole number nearest to n / d, of two the lower, and no other is.
-- A distance is compared by signs and sizes: of two numbers with one sign it is the gap of their sizes, else their sum. The number k has 2 |n - k d| ≤ d, and any other is at least d from k.
use Prim.Native.Nat.{ℕ, zero, suc, ◌+◌, ◌-◌, ◌*◌, ◌≤◌, ◌<◌}
use mathlib.Core.Path.{◌≡◌, refl, sym, ap, subst, ◌∙◌}
use mathlib.Core.Bool.{Bool, true, false}
use native.Mathlib.Nat.{suc-mul, mul-le-mul_right, le_antisymm, le_refl, le_of_suc-le-suc, lt_of_not-le}
use native.Mathlib.Omega.{arith}
use borrow.Author.Tests.{ltb-true, ltb-false}
use lib.Dec.{T, ltb, leb→le, le→leb, eqb}
use lib.IntN.{ℤ, pos, negsuc, neg_ℤ, neg_ℤ-neg_ℤ, nat_abs, sub_ℕ, ◌+ℤ◌, ◌-ℤ◌}
use lib.Signed.{le_z, le_z_yes}
use lib.Ieee.Fits.{and_i, eq→eqb}
use Rattle.readings_rules.specs.Rounding.{distance, NearestLower, nearest_lower}
use Rattle.readings_rules.specs.Hundredths.{signed}
use Rattle.readings_rules.specs.Code.{Near}
use Rattle.readings_rules.specs.Claims.{RoundingRule}
use Rattle.readings_rules.proofs.Near.{near_is, near_size, size_of, no_multiple}
use Rattle.readings_rules.proofs.Signs.{is_neg, signed_is, scaled, neg-neg, pos_neg}

-- ---- the distance of two whole numbers by signs and sizes
abbrev pub gap : ℕ → ℕ → ℕ
gap a b = (a - b) + (b - a)

abbrev pub away : Bool → Bool → ℕ → ℕ → ℕ
away false false a b = gap a b
away false true a b = a + b
away true false a b = a + b
away true true a b = gap a b

pub by_case : {P : Type 0} (b : Bool) → (b ≡ true → P) → (b ≡ false → P) → P
by_case true f g = f refl
by_case false f g = g refl

sub_gap : (a b : ℕ) → nat_abs (sub_ℕ a b) ≡ gap a b
sub_gap a b =
    by_case (ltb a b)
    (λ e. let l : a < b = ltb-true a b e in rw e (omega arith))
    (λ e. let l : b ≤ a = ltb-false a b e in rw e (omega arith))

apart : (s t : Bool) (a b : ℕ) → nat_abs (signed s a -ℤ signed t b) ≡ away s t a b
apart false false a zero = omega arith
apart false false a (suc b) = sub_gap a (suc b)
apart false true a b = ap (λ (z : ℤ). nat_abs (pos a +ℤ z)) (neg_ℤ-neg_ℤ (pos b))
apart true false zero zero = refl
apart true false zero (suc b) = sub_gap 0 (suc b) ∙ omega arith
apart true false (suc a) zero = sub_gap 0 (suc a) ∙ omega arith
apart true false (suc a) (suc b) = omega arith
apart true true zero b = ap (λ (z : ℤ). nat_abs (pos 0 +ℤ z)) (neg_ℤ-neg_ℤ (pos b)) ∙ omega arith
apart true true (suc a) b = ap (λ (z : ℤ). nat_abs (negsuc a +ℤ z)) (neg_ℤ-neg_ℤ (pos b)) ∙ sub_gap b (suc a) ∙ omega arith

pub away_is : (s t : Bool) (n d j : ℕ) → distance (signed s n) d (signed t j) ≡ away s t n (j * d)
away_is s t n d j = ap (λ (z : ℤ). nat_abs (signed s n -ℤ z)) (scaled t j d) ∙ apart s t n (j * d)

-- ---- the number is the nearest, and the lower of two
pub steps_apart : (a b d : ℕ) → a < b → a * d + d ≤ b * d
steps_apart a b d h = omega (arith, suc-mul a d, mul-le-mul_right {m = suc a} {n = b} d h)

module _ (n d k : ℕ) (p : 0 < d) where
  within_half : (s : Bool) → Near s n d k → 2 * gap n (k * d) ≤ d
  within_half false h = omega (arith, h.0, h.1)
  within_half true h = omega (arith, h.0, h.1)

  gap_least : (j : ℕ) → 2 * gap n (k * d) ≤ d → gap n (k * d) ≤ gap n (j * d)
  gap_least j h =
      by_case (ltb j k)
      (λ e. omega (arith, steps_apart j k d (ltb-true j k e)))
      (λ e. by_case (ltb k j)
      (λ f. omega (arith, steps_apart k j d (ltb-true k j f)))
      (λ f. let same : j ≡ k = le_antisymm (ltb-false k j f) (ltb-false j k e) in subst (λ (i : ℕ). gap n (k * d) ≤ gap n (i * d)) (sym same) (le_refl (gap n (k * d)))))

  sum_least : (j : ℕ) → 2 * gap n (k * d) ≤ d → gap n (k * d) ≤ n + j * d
  sum_least j h = by_case (ltb 0 k)
      (λ e. omega (arith, steps_apart 0 k d (ltb-true 0 k e)))
      (λ e. let none : k ≡ 0 = omega (arith, ltb-false 0 k e) in subst (λ (i : ℕ). gap n (i * d) ≤ n + j * d) (sym none) (omega arith))

  least : (s t : Bool) (j : ℕ) → Near s n d k → away s s n (k * d) ≤ away s t n (j * d)
  least false false j h = gap_least j (within_half false h)
  least false true j h = sum_least j (within_half false h)
  least true false j h = sum_least j (within_half true h)
  least true true j h = gap_least j (within_half true h)

  none_beside : (j : ℕ) → Near false n d k → n + j * d ≡ gap n (k * d) → (k ≡ 0) × (j ≡ 0)
  none_beside j h e = (
    no_multiple k d p (omega (arith, within_half false h, h.1)),
    no_multiple j d p (omega (arith, within_half false h)),
  )

  lower : (s t : Bool) (j : ℕ) → Near s n d k → away s t n (j * d) ≡ away s s n (k * d) → T (le_z (signed s k) (signed t j))
  lower false false j h e = le→leb k j (le_of_suc-le-suc (lt_of_not-le (λ (g : suc j ≤ k). no (steps_apart j k d g))))
    where
      no : j * d + d ≤ k * d → ⊥
      no g = omega (arith, h.0, h.1, e)
  lower false true j h e =
      let z = none_beside j h e in
      subst T (pos_neg k j) (and_i (eqb k j) (eqb k 0) (eq→eqb (z.0 ∙ sym z.1)) (eq→eqb z.0))
  lower true false j h e = go k
    where
      go : (k : ℕ) → T (le_z (neg_ℤ (pos k)) (pos j))
      go zero = le→leb 0 j (omega arith)
      go (suc k) = tt
  lower true true j h e = subst T (neg-neg k j) (le→leb j k (le_of_suc-le-suc (lt_of_not-le (λ (g : suc k ≤ j). no (steps_apart k j d g)))))
    where
      no : k * d + d ≤ j * d → ⊥
      no g = omega (arith, h.0, h.1, e)

near_nearest : (s : Bool) (n d k : ℕ) → 0 < d → Near s n d k → NearestLower (signed s n) d (signed s k)
near_nearest s n d k p h =
    record {
      nearest =
          λ j.
          subst (λ (i : ℤ). distance (signed s n) d (signed s k) ≤ distance (signed s n) d i) (signed_is j)
          (subst (λ (x : ℕ). x ≤ distance (signed s n) d (signed (is_neg j) (nat_abs j))) (sym (away_is s s n d k))
          (subst (λ (x : ℕ). away s s n (k * d) ≤ x) (sym (away_is s (is_neg j) n d (nat_abs j))) (least n d k p s (is_neg j) (nat_abs j) h)));
      lower =
          λ j e.
          le_z_yes
          (subst (λ (i : ℤ). T (le_z (signed s k) i)) (signed_is j)
          (lower n d k p s (is_neg j) (nat_abs j) h
          (sym (away_is s (is_neg j) n d (nat_abs j)) ∙ ap (distance (signed s n) d) (signed_is j) ∙ e ∙ away_is s s n d k)));
    }

-- ---- and no other is
antisym : (a b : ℤ) → T (le_z a b) → T (le_z b a) → a ≡ b
antisym (pos a) (pos b) h g = ap pos (le_antisymm (leb→le a b h) (leb→le b a g))
antisym (pos a) (negsuc b) h g = absurd h
antisym (negsuc a) (pos b) h g = absurd g
antisym (negsuc a) (negsuc b) h g = ap negsuc (le_antisymm (leb→le a b g) (leb→le b a h))

only_one : (n : ℤ) (d : ℕ) (k l : ℤ) → NearestLower n d k → NearestLower n d l → k ≡ l
only_one n d k l a b =
    let same : distance n d k ≡ distance n d l = le_antisymm (a.nearest l) (b.nearest k) in
    antisym k l (a.lower l (sym same)).le (b.lower k same).le

pub rounding_rule : RoundingRule
rounding_rule n d p =
    let s = is_neg n in
    let w = nat_abs n in
    let k = size_of s w d in
    let computed : nearest_lower n d ≡ signed s k = ap (λ (z : ℤ). nearest_lower z d) (sym (signed_is n)) ∙ near_is s w d k p (near_size s w d p) in
    let here : NearestLower n d (nearest_lower n d) =
    subst (λ (z : ℤ). NearestLower n d z) (sym computed)
    (subst (λ (z : ℤ). NearestLower z d (signed s k)) (signed_is n) (near_nearest s w d k p (near_size s w d p))) in
    record { exists = here; unique = λ j h. only_one n d j (nearest_lower n d) h here }
