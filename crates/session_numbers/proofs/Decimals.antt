-- Decimals: digits before a point and after it are the digits of one whole number, and a few digits make a number that a single float holds.
use Prim.Native.Nat.{ℕ, suc, ◌+◌, ◌-◌, ◌*◌, ◌^◌, ◌≤◌, ◌<◌}
use Rattle.std.proofs.Common.{◌≡◌, Bool, true, false, cond, ◌&&◌, List, [], ◌∷◌, ◌++◌, length, take}
use Rattle.std.proofs.Common.{drop, leb, ltb, None, Some, refl, sym, ap, ◌∙◌, arith, le-leb, add-one, ◌==◌}
use Rattle.std.specs.List.{position_or_len}
use Rattle.byte_scan.proofs.Places.{index_is}
use Rattle.std.specs.Prelude.{option_map, Float}
use Rattle.std.proofs.lemmas.Bool.{lt-leb}
use lib.Dec.{T, le→leb}
use lib.IntN.{pos}
use lib.Ieee.{binary32, in_float}
use native.Mathlib.Nat.{pow-suc, mul_assoc, mul_comm, mul-one, zero-add, add-zero, add-mul}
use native.Mathlib.Decide.{dec_le}
use borrow.Author.Tests.{leb-true}
use Rattle.session_words.proofs.Lists.{cond-true, cond-false}
use Rattle.session_numbers.specs.Numbers.{point, is_run, value_after, value_of, digits_of, decimal_digits, quotient, fraction_of, unsigned_of}

-- ---- the value of digits that go on

value_append : (v : ℕ) (s t : List ℕ) → value_after v (s ++ t) ≡ value_after (value_after v s) t
unfolding value_after
value_append v [] t = refl
value_append v (b ∷ s) t = value_append (v * 10 + (b - 48)) s t

-- what came before counts ten times for each digit
value_shift : (v : ℕ) (s : List ℕ) → value_after v s ≡ v * 10 ^ length s + value_of s
unfolding value_after
value_shift v [] = sym (add-zero (v * 1) ∙ mul-one v)
value_shift v (b ∷ s) =
    value_shift (v * 10 + (b - 48)) s
    ∙ ten v (b - 48) (10 ^ length s) (value_of s)
    ∙ ap (λ x. v * x + ((0 * 10 + (b - 48)) * 10 ^ length s + value_of s)) (sym (pow-suc 10 (length s)))
    ∙ ap (λ x. v * 10 ^ length (b ∷ s) + x) (sym (value_shift (0 * 10 + (b - 48)) s))
  where
    ten : (v d p x : ℕ) → (v * 10 + d) * p + x ≡ v * (p * 10) + ((0 * 10 + d) * p + x)
    ten v d p x =
        let e : (v * 10 + d) * p ≡ v * (p * 10) + d * p = add-mul (v * 10) d p ∙ ap (λ y. y + d * p) (mul_assoc v 10 p ∙ ap (λ y. v * y) (mul_comm 10 p)) in
        let f : (0 * 10 + d) * p ≡ d * p = ap (λ y. y * p) (zero-add d) in
        omega arith

-- the digits of two runs as one number
pub value_joined : (s t : List ℕ) → value_of s * 10 ^ length t + value_of t ≡ value_of (s ++ t)
value_joined s t = sym (value_append 0 s t ∙ value_shift (value_of s) t)

-- ---- what a run of digits tells by its value

both : (a b : Bool) → (a && b) ≡ true → (a ≡ true) × (b ≡ true)
both true b e = (refl, e)
both false b e = let z : ◌≡◌ {A = Bool} false true = e in (z, cc)

pub record Run (highest : ℕ) (s : List ℕ) (v : ℕ) : Type 0 where
  pub is : is_run s ≡ true
  pub most : length s ≤ highest
  pub value : v ≡ value_of s

pub run_some : (most : ℕ) (s : List ℕ) (v : ℕ) → Some v ≡ digits_of most s → Run most s v
unfolding digits_of
run_some most s v e = go (is_run s && leb (length s) most) refl e
  where
    go : (x : Bool) → (is_run s && leb (length s) most) ≡ x → Some v ≡ cond x (Some (value_of s)) None → Run most s v
    go true f e = let p = both (is_run s) (leb (length s) most) f in record { is = p.0; most = leb-true _ _ p.1; value = cc }
    go false f e = let z : ◌≡◌ {A = ℕ} 0 1 = cc in let w : ⊥ = omega arith in absurd w

pub run_none : (most : ℕ) (s : List ℕ) → None ≡ digits_of most s → (is_run s && leb (length s) most) ≡ false
unfolding digits_of
run_none most s e = go (is_run s && leb (length s) most) refl e
  where
    go : (x : Bool) → (is_run s && leb (length s) most) ≡ x → None ≡ cond x (Some (value_of s)) None → (is_run s && leb (length s) most) ≡ false
    go true f e = let z : ◌≡◌ {A = ℕ} 0 1 = cc in let w : ⊥ = omega arith in absurd w
    go false f e = f

-- ---- digits before a point and after it

fraction_by : (s t : List ℕ) → (is_run s && is_run t && leb (length s + length t) decimal_digits) ≡ false → None ≡ fraction_of s t
unfolding fraction_of
fraction_by s t e = sym (cond-false _ _ e)

pub fraction_long : (s t : List ℕ) → decimal_digits < length s → None ≡ fraction_of s t
fraction_long s t h =
    fraction_by s t (ap (λ x. is_run s && is_run t && x) (lt-leb (length s + length t) decimal_digits (omega arith)) ∙ nothing (is_run s && is_run t))
  where
    nothing : (x : Bool) → (x && false) ≡ false
    nothing true = refl
    nothing false = refl

pub fraction_first : (s t : List ℕ) → length s ≤ decimal_digits → None ≡ digits_of decimal_digits s → None ≡ fraction_of s t
fraction_first s t h e =
    fraction_by s t (ap (λ x. x && is_run t && leb (length s + length t) decimal_digits) (sym (whole (is_run s)) ∙ ap (λ x. is_run s && x) (sym (le-leb _ _ h))
    ∙ run_none decimal_digits s e))
  where
    whole : (x : Bool) → (x && true) ≡ x
    whole true = refl
    whole false = refl

-- the room after the point
room_is : (m n k : ℕ) → m ≤ k → leb n (k - m) ≡ leb (m + n) k
room_is m n k h = go (dec_le (m + n) k)
  where
    go : Dec (m + n ≤ k) → leb n (k - m) ≡ leb (m + n) k
    go (yes l) = le-leb n (k - m) (omega arith) ∙ sym (le-leb (m + n) k l)
    go (no l) = let g : k < m + n = omega arith in lt-leb n (k - m) (omega arith) ∙ sym (lt-leb (m + n) k g)

pub fraction_second : (s t : List ℕ) → length s ≤ decimal_digits → None ≡ digits_of (decimal_digits - length s) t → None ≡ fraction_of s t
fraction_second s t h e =
    fraction_by s t (first (is_run s) (is_run t) (leb (length s + length t) decimal_digits)
    (ap (λ x. is_run t && x) (sym (room_is (length s) (length t) decimal_digits h)) ∙ run_none (decimal_digits - length s) t e))
  where
    first : (a b c : Bool) → (b && c) ≡ false → (a && b && c) ≡ false
    first true b c e = e
    first false b c e = refl

pub fraction_both : (s t : List ℕ) (b a : ℕ) (x : Float) → Run decimal_digits s b → Run (decimal_digits - length s) t a
    → x ≡ quotient (b * 10 ^ length t + a) (length t) → Some x ≡ fraction_of s t
unfolding fraction_of
fraction_both s t b a x p q e =
    let l : length s + length t ≤ decimal_digits = omega arith in
    ap Some (e ∙ ap (λ y. quotient (y * 10 ^ length t + a) (length t)) p.value ∙ ap (λ y. quotient (value_of s * 10 ^ length t + y) (length t)) q.value
    ∙ ap (λ y. quotient y (length t)) (value_joined s t))
    ∙ sym (cond-true _ _ (ap (λ y. y && is_run t && leb (length s + length t) decimal_digits) p.is
    ∙ ap (λ y. y && leb (length s + length t) decimal_digits) q.is ∙ le-leb _ _ l))

-- ---- with a point and without

-- the place of the first point as the library tells it
module _ (s : List ℕ) where
  abbrev at : ℕ
  at = position_or_len (λ x. x == point) s

  pub unsigned_point : (p : ℕ) → Some p ≡ cond (ltb at (length s)) (Some at) None → fraction_of (take p s) (drop (p + 1) s) ≡ unsigned_of s
  unfolding unsigned_of
  unsigned_point p e = rw (index_is point s) (go (ltb at (length s)) e)
    where
      go : (t : Bool) → Some p ≡ cond t (Some at) None
          → fraction_of (take p s) (drop (p + 1) s)
          ≡ cond t (fraction_of (take at s) (drop (suc at) s)) (option_map (λ v. quotient v 0) (digits_of decimal_digits s))
      go true e = let q : p ≡ at = cc in rw (add-one, q) refl
      go false e = cc

  pub unsigned_plain : None ≡ cond (ltb at (length s)) (Some at) None → option_map (λ v. quotient v 0) (digits_of decimal_digits s) ≡ unsigned_of s
  unfolding unsigned_of
  unsigned_plain e = rw (index_is point s) (go (ltb at (length s)) e)
    where
      go : (t : Bool) → None ≡ cond t (Some at) None
          → option_map (λ v. quotient v 0) (digits_of decimal_digits s)
          ≡ cond t (fraction_of (take at s) (drop (suc at) s)) (option_map (λ v. quotient v 0) (digits_of decimal_digits s))
      go true e = cc
      go false e = refl

-- ---- a single float holds such numbers

pub held : (n : ℕ) → n ≤ 10000000 → T (in_float binary32 (pos n))
unfolding in_float
held n h = le→leb n 16777216 (omega arith)
