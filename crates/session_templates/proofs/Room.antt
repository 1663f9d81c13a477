-- What is written part by part is the line, as far as there is room; and the whole line, where its template is not too wide.
use Prim.Native.Nat.{ℕ, zero, suc, ◌+◌, ◌/◌, ◌%◌, ◌≤◌, ◌<◌}
use mathlib.Core.Path.{◌≡◌, refl, sym, ap, ◌∙◌}
use mathlib.Core.Bool.{Bool, true, false, cond, ◌||◌, true≢false}
use mathlib.Core.List.{List, [], ◌∷◌, ◌++◌, append_assoc, append-nil}
use native.Mathlib.Omega.{arith}
use lib.ListN.{length, take, drop, get_or, length-append}
use lib.Seq.{take_all}
use lib.Dec.{eqb, ltb}
use lib.IntN.{ℤ, pos, negsuc}
use lib.Ieee.{Float, binary32, to_bits}
use Rattle.io.specs.Digits.{hex_digit_ascii, last_digits}
use Rattle.session_texts.specs.Text.{room, final_digits, decimal_text, signed_text, bits_text}
use Rattle.session_words.specs.Bytes.{newline}
use Rattle.session_words.proofs.Lists.{take_again, drop_at, drop_end}
use Rattle.session_templates.specs.Filled.{letter_a, letter_b, letter_z, stands_for, piece, filled, wide, widest, line}

-- ---- the most bytes of a number

last_most : (k n : ℕ) → length (final_digits k n) ≤ k
unfolding final_digits
last_most zero n = omega arith
last_most (suc k) n = rw length-append (go (ltb n 10) (last_most k (n / 10)))
  where
    go : (b : Bool) → length (final_digits k (n / 10)) ≤ k → length (cond b [] (final_digits k (n / 10))) + 1 ≤ suc k
    go true h = omega arith
    go false h = omega arith

decimal_most : (n : ℕ) → length (decimal_text n) ≤ 20
decimal_most n = last_most 20 n

signed_most : (z : ℤ) → length (signed_text z) ≤ 21
signed_most (pos n) = omega (arith, decimal_most n)
signed_most (negsuc n) = omega (arith, decimal_most (suc n))

digits_length : (b k n : ℕ) → length (last_digits b k n) ≡ k
digits_length b zero n = refl
digits_length b (suc k) n = length-append (last_digits b k (n / b)) (hex_digit_ascii (n % b) ∷ []) ∙ omega (arith, digits_length b k (n / b))

pub bits_length : (x : Float) → length (bits_text x) ≡ 8
bits_length x = digits_length 16 8 (to_bits binary32 x)

-- ---- a line of some parts: n is the text of no bytes, t and u the texts with one part more each, and r the text with the newline

begun : (a : List ℕ) {n t : List ℕ} → n ≡ [] → t ≡ take room (n ++ a) → t ≡ take room a
begun a none e = e ∙ ap (λ x. take room (x ++ a)) none

further : (a b : List ℕ) {t u : List ℕ} → t ≡ take room a → u ≡ take room (t ++ b) → u ≡ take room (a ++ b)
further a b before e = e ∙ ap (λ x. take room (x ++ b)) before ∙ take_again room a b

whole : (a : List ℕ) → length a < room → take room (line a) ≡ line a
whole a short = take_all room (line a) (rw length-append (omega arith))

pub line_of_2 : (a b : List ℕ) {n t u r : List ℕ} → n ≡ [] → t ≡ take room (n ++ a) → u ≡ take room (t ++ b) → r ≡ take room (line u)
    → length a + length b < room → r ≡ line (a ++ b)
line_of_2 a b none e f end short =
    further (a ++ b) (newline ∷ []) (further a b (begun a none e) f) end ∙ whole (a ++ b) (rw length-append short)

-- ---- a line by its template

module _ (a b : ℕ) (z : ℤ) where
  piece_most : (x : ℕ) → length (piece a b z x) ≤ wide x
  piece_most x = go (eqb x letter_a) (eqb x letter_b) (eqb x letter_z)
    where
      go : (p q r : Bool) → length (cond p (decimal_text a) (cond q (decimal_text b) (cond r (signed_text z) (x ∷ [])))) ≤ cond (p || q || r) 21 1
      go true q r = omega (arith, decimal_most a)
      go false true r = omega (arith, decimal_most b)
      go false false true = signed_most z
      go false false false = omega arith

  filled_most : (t : List ℕ) → length (filled t a b z) ≤ widest t
  filled_most [] = omega arith
  filled_most (x ∷ t) = rw length-append (omega (arith, piece_most x, filled_most t))

  -- a byte that stands for itself
  pub plain_byte : (x : ℕ) → stands_for x ≡ false → piece a b z x ≡ x ∷ []
  plain_byte x e = go (eqb x letter_a) (eqb x letter_b) (eqb x letter_z) e
    where
      go : (p q r : Bool) → (p || q || r) ≡ false → cond p (decimal_text a) (cond q (decimal_text b) (cond r (signed_text z) (x ∷ []))) ≡ x ∷ []
      go true q r e = absurd (true≢false e)
      go false true r e = absurd (true≢false e)
      go false false true e = absurd (true≢false e)
      go false false false e = refl

  module _ (t : List ℕ) where
    -- the byte at a place
    pub piece_at : (i : ℕ) → i < length t → filled (drop i t) a b z ≡ piece a b z (get_or t i 0) ++ filled (drop (i + 1) t) a b z
    piece_at i h = ap (λ d. filled d a b z) (drop_at t i 0 h)

    -- a part of the template from i up to j is written, and says p
    pub filled_on : (i j : ℕ) (p x : List ℕ) {y : List ℕ} → filled (drop i t) a b z ≡ p ++ filled (drop j t) a b z → y ≡ take room (x ++ p)
        → take room (x ++ filled (drop i t) a b z) ≡ take room (y ++ filled (drop j t) a b z)
    filled_on i j p x {y} says e =
        ap (λ d. take room (x ++ d)) says
        ∙ ap (take room) (sym (append_assoc x p (filled (drop j t) a b z)))
        ∙ sym (take_again room (x ++ p) (filled (drop j t) a b z))
        ∙ ap (λ y. take room (y ++ filled (drop j t) a b z)) (sym e)

    -- all of it, with the newline
    pub filled_end : (i : ℕ) (x : List ℕ) {r : List ℕ} → length t ≤ i → take room (filled t a b z) ≡ take room (x ++ filled (drop i t) a b z)
        → r ≡ take room (line x) → r ≡ take room (line (filled t a b z))
    filled_end i x over so_far e =
        let all : take room (filled t a b z) ≡ take room x
        = so_far ∙ ap (λ d. take room (x ++ filled d a b z)) (drop_end t i over) ∙ ap (take room) (append-nil x) in
        e ∙ sym (take_again room x (newline ∷ []))
        ∙ ap (λ y. take room (line y)) (sym all)
        ∙ take_again room (filled t a b z) (newline ∷ [])

    -- which finds room where the template is not too wide
    pub fits : widest t < room → take room (line (filled t a b z)) ≡ line (filled t a b z)
    fits short = whole (filled t a b z) (omega (arith, filled_most t))

-- ---- a letter that stands for a number

-- neither of the first two: the last
pub last_letter : (x : ℕ) → stands_for x ≡ true → eqb x letter_a ≡ false → eqb x letter_b ≡ false → eqb x letter_z ≡ true
last_letter x h e f = go (eqb x letter_a) (eqb x letter_b) h e f
  where
    go : (p q : Bool) → (p || q || eqb x letter_z) ≡ true → p ≡ false → q ≡ false → eqb x letter_z ≡ true
    go true q h e f = absurd (true≢false e)
    go false true h e f = absurd (true≢false f)
    go false false h e f = h
