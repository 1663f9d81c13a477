-- Whole numbers made of natural ones: a difference is `pos` or `negsuc` by the order of its parts, and what is brought into a range from 0 up
-- stops where the difference of ℕ stops.
use mathlib.Core.Path.{◌≡◌, refl, sym, ap, subst}
use mathlib.Core.Bool.{Bool, true, false, ◌&&◌}
use Prim.Native.Nat.{ℕ, zero, suc, ◌+◌, ◌-◌, ◌*◌, ◌/◌, ◌≤◌, ◌<◌, min, max}
use native.Mathlib.Omega.{arith}
use borrow.Author.Tests.{ltb-true, ltb-false, lt-ltb, le-ltb}
use lib.Dec.{T, ltb}
use lib.IntN.{pos, negsuc, ◌-ℤ◌, ◌*ℤ◌, neg_ℤ-neg_ℤ}
use lib.Signed.{shr_z}
use Rattle.power_rules.specs.Constants.{code_step}
use Rattle.power_rules.specs.PowerSteps.{brought_into}

-- ---- tests
pub never : {X : Type 0} → false ≡ true → X
never e = absurd (subst T (sym e) tt)

pub both : (t u : Bool) → (t && u) ≡ true → (t ≡ true) × (u ≡ true)
both true true e = (refl, refl)
both true false e = never e
both false u e = never e

pub and-true : (t u : Bool) → t ≡ true → u ≡ true → (t && u) ≡ true
and-true t u e f = rw (e, f)

pub by_test : {X : Type 0} (t : Bool) → (t ≡ true → X) → (t ≡ false → X) → X
by_test true f g = f refl
by_test false f g = g refl

pub by_order : {X : Type 0} (a b : ℕ) → (b ≤ a → X) → (a < b → X) → X
by_order a b f g = by_test (ltb a b) (λ e. g (ltb-true a b e)) (λ e. f (ltb-false a b e))

-- ---- differences
pub sub-le : (a b : ℕ) → b ≤ a → pos a -ℤ pos b ≡ pos (a - b)
sub-le a zero h = ap pos (omega arith)
sub-le a (suc b) h = rw (le-ltb a (suc b) h)

pub sub_lt : (a b : ℕ) → a < b → pos a -ℤ pos b ≡ negsuc (b - suc a)
sub_lt a zero h = absurd (omega arith)
sub_lt a (suc b) h = rw (lt-ltb a (suc b) h)

-- B - g * (a - m), where a is below m, and where it is not
pub less_times_lt : (B g a m : ℕ) → a < m → pos B -ℤ pos g *ℤ (pos a -ℤ pos m) ≡ pos (B + g * (m - a))
less_times_lt B g a m h =
    let k : suc (m - suc a) ≡ m - a = omega arith in
    rw (sub_lt a m h, neg_ℤ-neg_ℤ (pos (g * suc (m - suc a))), k)

pub less_times_le : (B g a m : ℕ) → m ≤ a → pos B -ℤ pos g *ℤ (pos a -ℤ pos m) ≡ pos B -ℤ pos (g * (a - m))
less_times_le B g a m h = rw (sub-le a m h)

-- ---- brought into a range of natural numbers
module _ (low high : ℕ) (ordered : low ≤ high) where
  pub held : (n : ℕ) → brought_into (pos low) (pos high) (pos n) ≡ pos (max low (min high n))
  unfolding brought_into
  held n = by_order n low within (λ h. rw (lt-ltb n low h) (ap pos (omega arith)))
    where
      within : low ≤ n → brought_into (pos low) (pos high) (pos n) ≡ pos (max low (min high n))
      within h = by_order high n (λ k. rw (le-ltb n low h, le-ltb high n k) (ap pos (omega arith))) (λ k. rw (le-ltb n low h, lt-ltb high n k) (ap pos (omega arith)))

  pub held_below : (n : ℕ) → brought_into (pos low) (pos high) (negsuc n) ≡ pos low
  unfolding brought_into
  held_below n = refl

  -- rounded down to whole codes, and brought into the range
  pub held_floor : (a b : ℕ) → brought_into (pos low) (pos high) (shr_z (pos a -ℤ pos b) code_step) ≡ pos (max low (min high ((a - b) / code_step)))
  held_floor a b =
      by_order a b
      (λ h. rw (sub-le a b h) (held ((a - b) / code_step)))
      (λ h. rw (sub_lt a b h, held_below ((b - suc a) / code_step)) (ap pos (omega arith)))

pub held_sub : (high a b : ℕ) → brought_into (pos 0) (pos high) (pos a -ℤ pos b) ≡ pos (min high (a - b))
held_sub high a b =
    by_order a b
    (λ h. rw (sub-le a b h, held 0 high (omega arith) (a - b)) (ap pos (omega arith)))
    (λ h. rw (sub_lt a b h, held_below 0 high (omega arith) (b - suc a)) (ap pos (omega arith)))
