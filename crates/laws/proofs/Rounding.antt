-- Division rounded down: `shr_z` gives the greatest whole number not above the quotient. Adding k to a number raises its k-th part by one; so
-- a mean of numbers below t is t less their mean distance, rounded up.
use Prim.Native.Nat.{ℕ, zero, suc, ◌+◌, ◌-◌, ◌*◌, ◌/◌, ◌≤◌, ◌<◌}
use mathlib.Core.Path.{◌≡◌, sym, ap, ◌∙◌, subst}
use native.Mathlib.Omega.{arith}
use native.Mathlib.Nat.{add-div_right, div-eq_of_lt, div-mul-le_self, le-div_iff_mul-le, div-lt_iff_lt-mul}
use lib.Dec.{ltb, leb→le, le→leb}
use lib.IntN.{ℤ, pos, negsuc, neg_ℤ, suc_ℤ, pred_ℤ, ◌+ℤ◌, ◌-ℤ◌, ◌*ℤ◌, pred-suc, suc_ℤ-+ℤ, pred_ℤ-+ℤ, +ℤ_idl, +ℤ_assoc, +ℤ_comm, -ℤ-+ℤ_cancel}
use lib.IntN.{zero-*ℤ, suc_ℤ-*ℤ, pred_ℤ-*ℤ, *ℤ_comm, pos-*ℤ-pos, negsuc-*ℤ-pos}
use lib.Signed.{shr_z, ◌≤ℤ◌}
use borrow.Table.Steps.{cases}
use borrow.Author.Tests.{ltb-true, ltb-false}
use Rattle.laws.specs.Rounding.{RoundedDown}
use Rattle.laws.proofs.Order.{pos_le, neg_le, le_neg}

one_more_lem : (m k : ℕ) → 0 < k → (m + k) / k ≡ suc (m / k)
one_more_lem m k h = omega (arith, add-div_right m h)

-- k more
floor_up : (k : ℕ) (a : ℤ) → 0 < k → shr_z (a +ℤ pos k) k ≡ suc_ℤ (shr_z a k)
floor_up k (pos m) h = ap pos (one_more_lem m k h)
floor_up k (negsuc m) h =
    cases (ltb k (suc m))
    (λ e.
    let l : k ≤ m = omega (arith, ltb-true k (suc m) e) in
    let q : m / k ≡ suc ((suc m - suc k) / k) =
    ap (λ (n : ℕ). n / k) (back l) ∙ one_more_lem (suc m - suc k) k h in
    rw (e, q))
    (λ e.
    let l : m < k = omega (arith, ltb-false k (suc m) e) in
    let p : m / k ≡ 0 = div-eq_of_lt l in
    let q : (k - suc m) / k ≡ 0 = div-eq_of_lt (omega arith) in
    rw (e, p, q))
  where
    back : k ≤ m → m ≡ (suc m - suc k) + k
    back l = omega arith

floor_down : (k : ℕ) (a : ℤ) → 0 < k → shr_z (a -ℤ pos k) k ≡ pred_ℤ (shr_z a k)
floor_down k a h =
    sym (pred-suc (shr_z (a -ℤ pos k) k))
    ∙ ap pred_ℤ (sym (floor_up k (a -ℤ pos k) h) ∙ ap (λ (z : ℤ). shr_z z k) (-ℤ-+ℤ_cancel a (pos k)))

-- to the right place for a step
past : (a b c : ℤ) → a +ℤ b +ℤ c ≡ a +ℤ c +ℤ b
past a b c = +ℤ_assoc a b c ∙ ap (λ (z : ℤ). a +ℤ z) (+ℤ_comm b c) ∙ sym (+ℤ_assoc a c b)

module _ (k : ℕ) (h : 0 < k) (a : ℤ) where
  floor_raised : (n : ℕ) → shr_z (pos n *ℤ pos k +ℤ a) k ≡ pos n +ℤ shr_z a k
  floor_raised zero = ap (λ (z : ℤ). shr_z z k) (ap (λ (z : ℤ). z +ℤ a) (zero-*ℤ (pos k)) ∙ +ℤ_idl a) ∙ sym (+ℤ_idl (shr_z a k))
  floor_raised (suc n) =
      ap (λ (z : ℤ). shr_z z k) (ap (λ (z : ℤ). z +ℤ a) (suc_ℤ-*ℤ (pos n) (pos k)) ∙ past (pos n *ℤ pos k) (pos k) a)
      ∙ floor_up k (pos n *ℤ pos k +ℤ a) h
      ∙ ap suc_ℤ (floor_raised n)
      ∙ sym (suc_ℤ-+ℤ (pos n) (shr_z a k))

  floor_lowered : (n : ℕ) → shr_z (negsuc n *ℤ pos k +ℤ a) k ≡ negsuc n +ℤ shr_z a k
  floor_lowered zero =
      ap (λ (z : ℤ). shr_z z k) (ap (λ (z : ℤ). z +ℤ a) (pred_ℤ-*ℤ (pos 0) (pos k)) ∙ past (pos 0 *ℤ pos k) (neg_ℤ (pos k)) a)
      ∙ floor_down k (pos 0 *ℤ pos k +ℤ a) h
      ∙ ap pred_ℤ (floor_raised 0)
      ∙ sym (pred_ℤ-+ℤ (pos 0) (shr_z a k))
  floor_lowered (suc n) =
      ap (λ (z : ℤ). shr_z z k) (ap (λ (z : ℤ). z +ℤ a) (pred_ℤ-*ℤ (negsuc n) (pos k)) ∙ past (negsuc n *ℤ pos k) (neg_ℤ (pos k)) a)
      ∙ floor_down k (negsuc n *ℤ pos k +ℤ a) h
      ∙ ap pred_ℤ (floor_lowered n)
      ∙ sym (pred_ℤ-+ℤ (negsuc n) (shr_z a k))

  floor_shifted : (t : ℤ) → shr_z (t *ℤ pos k +ℤ a) k ≡ t +ℤ shr_z a k
  floor_shifted (pos n) = floor_raised n
  floor_shifted (negsuc n) = floor_lowered n

-- below 0, rounded down
floor_neg : (s k : ℕ) → 0 < k → shr_z (neg_ℤ (pos s)) k ≡ neg_ℤ (pos ((s + (k - 1)) / k))
floor_neg zero k h =
    let a : 0 / k ≡ 0 = div-eq_of_lt h in
    let b : (0 + (k - 1)) / k ≡ 0 = div-eq_of_lt (omega arith) in
    ap pos a ∙ ap (λ (n : ℕ). neg_ℤ (pos n)) (sym b)
floor_neg (suc s) k h =
    let e : suc s + (k - 1) ≡ s + k = omega arith in
    let d : (suc s + (k - 1)) / k ≡ suc (s / k) = ap (λ (n : ℕ). n / k) e ∙ one_more_lem s k h in
    ap (λ (n : ℕ). neg_ℤ (pos n)) (sym d)

-- the mean of k numbers that are s below t in all
pub floor_below : (t : ℤ) (s k : ℕ) → 0 < k → shr_z (pos k *ℤ t -ℤ pos s) k ≡ t -ℤ pos ((s + (k - 1)) / k)
floor_below t s k h =
    ap (λ (z : ℤ). shr_z (z -ℤ pos s) k) (*ℤ_comm (pos k) t)
    ∙ floor_shifted k h (neg_ℤ (pos s)) t
    ∙ ap (λ (z : ℤ). t +ℤ z) (floor_neg s k h)

-- ---- in words

module _ (n : ℕ) (some : 0 < n) where
  not_above_lem : (s : ℤ) → (shr_z s n *ℤ pos n) ≤ℤ s
  not_above_lem (pos a) =
      subst (λ (z : ℤ). z ≤ℤ pos a) (sym (pos-*ℤ-pos (a / n) n))
      (pos_le (div-mul-le_self a n))
  not_above_lem (negsuc a) =
      subst (λ (z : ℤ). z ≤ℤ negsuc a) (sym (negsuc-*ℤ-pos (a / n) n))
      (neg_le (suc (a / n) * n) a ((div-lt_iff_lt-mul {k = n} {x = a} {y = suc (a / n)} some).0 (omega arith)))

  largest_such : (s k : ℤ) → (k *ℤ pos n) ≤ℤ s → k ≤ℤ shr_z s n
  largest_such (pos a) (pos j) h =
      let m : j * n ≤ a = leb→le (j * n) a (subst (λ (z : ℤ). z ≤ℤ pos a) (pos-*ℤ-pos j n) h).le in
      pos_le ((le-div_iff_mul-le {k = n} {x = j} {y = a} some).1 m)
  largest_such (pos a) (negsuc j) h = record { le = tt }
  largest_such (negsuc a) (pos j) h = absurd (subst (λ (z : ℤ). z ≤ℤ negsuc a) (pos-*ℤ-pos j n) h).le
  largest_such (negsuc a) (negsuc j) h =
      let m : suc a ≤ suc j * n = le_neg (suc j * n) a (subst (λ (z : ℤ). z ≤ℤ negsuc a) (negsuc-*ℤ-pos j n) h) in
      let q : a / n < suc j = (div-lt_iff_lt-mul {k = n} {x = a} {y = suc j} some).1 m in
      record { le = le→leb (a / n) j (omega arith) }

pub rounds_down : (n : ℤ) (d : ℕ) → 0 < d → RoundedDown n d (shr_z n d)
rounds_down n d some = record { not_above = not_above_lem d some n; greatest = largest_such d some n }
