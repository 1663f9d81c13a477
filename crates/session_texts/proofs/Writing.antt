-- A number's digits as `io` writes them, which float is a NaN, and which floats equal themselves.
use Prim.Native.Nat.{ℕ, zero, suc, ◌+◌, ◌-◌, ◌*◌, ◌/◌, ◌%◌, ◌^◌, ◌≤◌, ◌<◌}
use mathlib.Core.Path.{◌≡◌, refl, sym, ap, subst, ◌∙◌}
use mathlib.Core.Bool.{Bool, true, false, not, ◌&&◌, beq}
use mathlib.Core.List.{[], ◌∷◌, ◌++◌}
use native.Mathlib.Nat.{pow-suc, pow-le-pow_right, div-lt_iff_lt-mul, le_trans, lt_of_not-le}
use native.Mathlib.Decide.{dec_le, dec_lt}
use native.Mathlib.Omega.{arith}
use lib.Dec.{T, lit<}
use lib.Ieee.{Float, nan, inf, fin, is_nan, eq, up, down}
use borrow.Author.Tests.{lt-ltb, le-ltb, eq-eqb}
use Rattle.io.specs.Digits.{hex_digit_ascii, last_digits, IsDigitCount}
use Rattle.session_texts.specs.Text.{final_digits, decimal_text}
use Rattle.session_words.proofs.Lists.{cond-true, cond-false}

-- ---- decimal digits

-- one digit is enough for a number below 10
one_digit : (n k : ℕ) → n < 10 → IsDigitCount 10 1 n (suc k) → k ≡ 0
one_digit n zero l w = refl
one_digit n (suc k) l w =
    let p : 10 ^ 1 ≤ 10 ^ (suc (suc k) - 1) = pow-le-pow_right (lit< tt) {i = 1} {j = suc (suc k) - 1} (omega arith) in
    let z : ⊥ = omega (arith, le_trans p (w.2 (omega arith))) in
    absurd z

-- a tenth of it takes one digit less
tenth : (n k : ℕ) → 10 ≤ n → IsDigitCount 10 1 n (suc k) → IsDigitCount 10 1 (n / 10) k
tenth n zero h w = let z : ⊥ = omega (arith, w.1) in absurd z
tenth n (suc k) h w =
    let less : n < 10 ^ suc k * 10 = rw (pow-suc 10 (suc k)) at w.1 in
    let e : suc (suc k) - 1 ≡ suc k = omega arith in
    let f : suc k - 1 ≡ k = omega arith in
    let more : 10 ^ suc k ≤ n = subst (λ j. 10 ^ j ≤ n) e (w.2 (omega arith)) in
    let most : 10 ^ k * 10 ≤ n = rw (pow-suc 10 k) at more in
    let tens : 10 ^ k ≤ n / 10 = omega arith in
    (omega arith, (div-lt_iff_lt-mul (lit< tt)).1 less, λ _. subst (λ j. 10 ^ j ≤ n / 10) (sym f) tens)

digits_are : (f n k : ℕ) → k ≤ f → IsDigitCount 10 1 n k → last_digits 10 k n ≡ final_digits f n
unfolding final_digits
digits_are f n zero h w = let z : ⊥ = omega (arith, w.0) in absurd z
digits_are zero n (suc k) h w = let z : ⊥ = omega arith in absurd z
digits_are (suc f) n (suc k) h w = go (digits_are f (n / 10) k (omega arith)) (dec_lt n 10)
  where
    last : hex_digit_ascii (n % 10) ≡ 48 + n % 10
    last = cond-true _ _ (lt-ltb (n % 10) 10 (omega arith))

    go : (IsDigitCount 10 1 (n / 10) k → last_digits 10 k (n / 10) ≡ final_digits f (n / 10)) → Dec (n < 10)
        → last_digits 10 (suc k) n ≡ final_digits (suc f) n
    go rest (yes l) =
        ap (λ j. last_digits 10 j (n / 10) ++ (hex_digit_ascii (n % 10) ∷ [])) (one_digit n k l w)
        ∙ ap (λ x. x ∷ []) last
        ∙ sym (ap (λ r. r ++ ((48 + n % 10) ∷ [])) (cond-true [] (final_digits f (n / 10)) (lt-ltb n 10 l)))
    go rest (no l) =
        let m : 10 ≤ n = omega arith in
        ap (λ r. r ++ (hex_digit_ascii (n % 10) ∷ [])) (rest (tenth n k m w))
        ∙ ap (λ x. final_digits f (n / 10) ++ (x ∷ [])) last
        ∙ sym (ap (λ r. r ++ ((48 + n % 10) ∷ [])) (cond-false [] (final_digits f (n / 10)) (le-ltb n 10 m)))

-- a number of 64 bits takes at most 20
twenty : (n k : ℕ) → n < 18446744073709551616 → IsDigitCount 10 1 n k → Dec (k ≤ 20) → k ≤ 20
twenty n k h w (yes l) = l
twenty n k h w (no l) =
    let m : 20 < k = lt_of_not-le l in
    let p : 10 ^ 20 ≤ 10 ^ (k - 1) = pow-le-pow_right (lit< tt) {i = 20} {j = k - 1} (omega arith) in
    let z : ⊥ = omega (arith, le_trans p (w.2 (omega arith))) in
    absurd z

pub decimal_is : (n k : ℕ) → n < 18446744073709551616 → IsDigitCount 10 1 n k → last_digits 10 k n ≡ decimal_text n
decimal_is n k h w = digits_are 20 n k (twenty n k h w (dec_le k 20)) w

-- ---- eight hex digits

pub eight : (n k : ℕ) → n < 4294967296 → IsDigitCount 16 8 n k → k ≡ 8
eight n k h w = go (dec_lt 8 k)
  where
    go : Dec (8 < k) → k ≡ 8
    go (yes l) =
        let p : 16 ^ 8 ≤ 16 ^ (k - 1) = pow-le-pow_right (lit< tt) {i = 8} {j = k - 1} (omega arith) in
        let z : ⊥ = omega (arith, le_trans p (w.2 l)) in
        absurd z
    go (no l) = omega (arith, w.0)

-- ---- the one float that is a NaN

pub nan_is : (x : Float) → is_nan x ≡ true → nan ≡ x
unfolding is_nan
nan_is nan e = refl
nan_is (inf s) e = let z : ◌≡◌ {A = Bool} false true = e in cc
nan_is (fin s m k) e = let z : ◌≡◌ {A = Bool} false true = e in cc

-- ---- a float equals itself unless it is a NaN

pub equal_itself : (x : Float) → is_nan x ≡ false → eq x x ≡ true
unfolding is_nan eq
equal_itself nan e = let z : ◌≡◌ {A = Bool} true false = e in sym z
equal_itself (inf s) e = alike s
  where
    alike : (s : Bool) → beq s s ≡ true
    alike true = refl
    alike false = refl
equal_itself (fin true m k) e = ap (λ x. x && true) (eq-eqb (m * up k * down k) (m * up k * down k) refl)
equal_itself (fin false m k) e = ap (λ x. x && true) (eq-eqb (m * up k * down k) (m * up k * down k) refl)

pub no_nan : (x : Float) → eq x x ≡ true → T (not (is_nan x))
unfolding is_nan eq
no_nan nan e = let z : ◌≡◌ {A = Bool} false true = e in subst (λ b. T b) (sym z) tt
no_nan (inf s) e = tt
no_nan (fin s m k) e = tt

pub is_nan_lem : (x : Float) → eq x x ≡ false → nan ≡ x
unfolding is_nan
is_nan_lem nan e = refl
is_nan_lem (inf s) e = let z : ◌≡◌ {A = Bool} true false = sym (equal_itself (inf s) refl) ∙ e in cc
is_nan_lem (fin s m k) e = let z : ◌≡◌ {A = Bool} true false = sym (equal_itself (fin s m k) refl) ∙ e in cc
