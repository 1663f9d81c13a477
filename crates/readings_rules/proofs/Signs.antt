-- A whole number as a sign and a size: the order of two by their sizes, and what one order says of another.
use mathlib.Core.Path.{◌≡◌, refl, sym, ap, ◌∙◌, subst}
use mathlib.Core.Bool.{Bool, true, false, ◌&&◌}
use Prim.Native.Nat.{ℕ, zero, suc, ◌*◌, ◌≤◌, ◌<◌, zero-le}
use native.Mathlib.Nat.{zero-mul, le_of_eq, le_of_mul-le-mul_right}
use lib.Dec.{T, leb, eqb, leb→le, le→leb, leb-zero, leb-suc-zero, leb-suc-suc, eqb-zero-suc, eqb-suc-zero, eqb→eq}
use lib.Arith.{le-zero}
use lib.IntN.{ℤ, pos, negsuc, neg_ℤ, nat_abs, ◌*ℤ◌}
use lib.Signed.{le_z}
use lib.Ieee.Fits.{and_i, and_l, and_r, eq→eqb}
use Rattle.readings_rules.specs.Hundredths.{signed}

and-false : (a : Bool) → (a && false) ≡ false
and-false true = refl
and-false false = refl

pub neg-neg : (a b : ℕ) → leb b a ≡ le_z (neg_ℤ (pos a)) (neg_ℤ (pos b))
neg-neg zero zero = refl
neg-neg zero (suc b) = leb-suc-zero b
neg-neg (suc a) zero = leb-zero (suc a)
neg-neg (suc a) (suc b) = leb-suc-suc b a

pub pos_neg : (a b : ℕ) → (eqb a b && eqb a 0) ≡ le_z (pos a) (neg_ℤ (pos b))
pos_neg zero zero = refl
pos_neg zero (suc b) = ap (λ (x : Bool). x && true) (eqb-zero-suc b)
pos_neg (suc a) zero = ap (λ (x : Bool). x && x) (eqb-suc-zero a) ∙ sym (leb-suc-zero a)
pos_neg (suc a) (suc b) = ap (λ (x : Bool). eqb (suc a) (suc b) && x) (eqb-suc-zero a) ∙ and-false (eqb (suc a) (suc b))

pub scaled : (t : Bool) (w d : ℕ) → signed t w *ℤ pos d ≡ signed t (w * d)
scaled false w d = refl
scaled true zero d = ap pos (zero-mul d) ∙ ap (λ (x : ℕ). neg_ℤ (pos x)) (sym (zero-mul d))
scaled true (suc w) d = refl

-- ---- a whole number is a sign and a size
abbrev pub is_neg : ℤ → Bool
is_neg (pos n) = false
is_neg (negsuc n) = true

pub signed_is : (h : ℤ) → signed (is_neg h) (nat_abs h) ≡ h
signed_is (pos n) = refl
signed_is (negsuc n) = refl

-- one order follows from another
pub order : (t s : Bool) (x y x' y' : ℕ) → (x ≤ y → x' ≤ y') → (y ≤ x → y' ≤ x') → (x ≡ 0 → x' ≡ 0) → (y ≡ 0 → y' ≡ 0)
    → T (le_z (signed t x) (signed s y)) → T (le_z (signed t x') (signed s y'))
order false false x y x' y' f g zx zy t = le→leb x' y' (f (leb→le x y t))
order true true x y x' y' f g zx zy t = subst T (neg-neg x' y') (le→leb y' x' (g (leb→le y x (subst T (sym (neg-neg x y)) t))))
order true false x y zero y' f g zx zy t = le→leb 0 y' zero-le
order true false x y (suc x') y' f g zx zy t = tt
order false true x y x' y' f g zx zy t =
    let both : T (eqb x y && eqb x 0) = subst T (sym (pos_neg x y)) t in
    let x0 : x ≡ 0 = eqb→eq x 0 (and_r (eqb x y) (eqb x 0) both) in
    let y0 : y ≡ 0 = sym (eqb→eq x y (and_l (eqb x y) (eqb x 0) both)) ∙ x0 in
    subst T (pos_neg x' y') (and_i (eqb x' y') (eqb x' 0) (eq→eqb (zx x0 ∙ sym (zy y0))) (eq→eqb (zx x0)))

pub by_size : (z : ℤ) (d : ℕ) → z *ℤ pos d ≡ signed (is_neg z) (nat_abs z * d)
by_size z d = ap (λ (y : ℤ). y *ℤ pos d) (sym (signed_is z)) ∙ scaled (is_neg z) (nat_abs z) d

pub zero_factor : (x c : ℕ) → 0 < c → x * c ≡ 0 → x ≡ 0
zero_factor x c p h = le-zero (le_of_mul-le-mul_right {m = x} {n = 0} {k = c} (le_of_eq (h ∙ sym (zero-mul c))) p)
