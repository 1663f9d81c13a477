-- The order of whole numbers with a sign, from the tests that compute it.
use Prim.Native.Nat.{ℕ, zero, suc, ◌≤◌, ◌<◌}
use mathlib.Core.Path.{◌≡◌, refl, ap}
use mathlib.Core.Bool.{true, false, not}
use native.Mathlib.Omega.{arith}
use lib.Dec.{leb→le, le→leb}
use lib.IntN.{ℤ, pos, negsuc, neg_ℤ}
use lib.Signed.{lt_z, le_z, ◌≤ℤ◌, ◌<ℤ◌, lt_z_yes, lt_z_no, le_z_yes, <ℤ-≤ℤ_trans, clash_ℤ}
use borrow.Table.Steps.{cases}
use borrow.Author.Tests.{le-leb}
use Rattle.laws.proofs.Tests.{T_true, true_t}

-- ---- tests and facts

pub lt_yes : (a b : ℤ) → lt_z a b ≡ true → a <ℤ b
lt_yes a b e = lt_z_yes (T_true e)

pub lt_no : (a b : ℤ) → lt_z a b ≡ false → b ≤ℤ a
lt_no a b e = lt_z_no (T_true (ap not e))

pub yes_lt : {a b : ℤ} → a <ℤ b → lt_z a b ≡ true
yes_lt {a} {b} h = true_t (lt_z a b) h.lt

pub le_yes : (a b : ℤ) → le_z a b ≡ true → a ≤ℤ b
le_yes a b e = le_z_yes (T_true e)

pub yes_le : {a b : ℤ} → a ≤ℤ b → le_z a b ≡ true
yes_le {a} {b} h = true_t (le_z a b) h.le

-- ---- laws of the order

-- of two numbers one is below the other, or not
pub by_order {ℓ} : {P : Type ℓ} (a b : ℤ) → (a <ℤ b → P) → (b ≤ℤ a → P) → P
by_order a b f g = cases (lt_z a b) (λ e. f (lt_yes a b e)) (λ e. g (lt_no a b e))

pub ≤ℤ-trans : {a b c : ℤ} → a ≤ℤ b → b ≤ℤ c → a ≤ℤ c
≤ℤ-trans {a} {b} {c} h k = by_order c a (λ l. clash_ℤ (<ℤ-≤ℤ_trans l h) k) (λ l. l)

pub <ℤ-≤ℤ : (a b : ℤ) → a <ℤ b → a ≤ℤ b
<ℤ-≤ℤ (pos a) (pos b) h = let p : a < b = leb→le (suc a) b h.lt in le_yes (pos a) (pos b) (le-leb a b (omega arith))
<ℤ-≤ℤ (pos a) (negsuc b) h = absurd h.lt
<ℤ-≤ℤ (negsuc a) (pos b) h = le_yes (negsuc a) (pos b) refl
<ℤ-≤ℤ (negsuc a) (negsuc b) h = let p : b < a = leb→le (suc b) a h.lt in le_yes (negsuc a) (negsuc b) (le-leb b a (omega arith))

pub ≤ℤ-antisymm : (a b : ℤ) → a ≤ℤ b → b ≤ℤ a → a ≡ b
≤ℤ-antisymm (pos a) (pos b) h k =
    let p : a ≤ b = leb→le a b h.le in
    let q : b ≤ a = leb→le b a k.le in
    let e : a ≡ b = omega arith in
    ap pos e
≤ℤ-antisymm (pos a) (negsuc b) h k = absurd h.le
≤ℤ-antisymm (negsuc a) (pos b) h k = absurd k.le
≤ℤ-antisymm (negsuc a) (negsuc b) h k =
    let p : b ≤ a = leb→le b a h.le in
    let q : a ≤ b = leb→le a b k.le in
    let e : a ≡ b = omega arith in
    ap negsuc e

-- ---- numbers of a known sign

pub pos_le : {a b : ℕ} → a ≤ b → pos a ≤ℤ pos b
pos_le {a} {b} h = record { le = le→leb a b h }

-- -n against a number below 0
pub neg_le : (n a : ℕ) → suc a ≤ n → neg_ℤ (pos n) ≤ℤ negsuc a
neg_le zero a h = absurd (omega arith)
neg_le (suc n) a h = record { le = le→leb a n (omega arith) }

pub le_neg : (n a : ℕ) → neg_ℤ (pos n) ≤ℤ negsuc a → suc a ≤ n
le_neg zero a h = absurd h.le
le_neg (suc n) a h = omega (arith, leb→le a n h.le)
