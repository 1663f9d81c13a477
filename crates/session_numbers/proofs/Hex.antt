-- Hex digits, and going along a word of them.
use Rattle.std.proofs.Common.{◌≡◌, ℕ, ◌+◌, ◌-◌, ◌*◌, ◌<◌, ◌≤◌, Bool, true, false, cond, ◌&&◌, List, length, get_or, drop}
use Rattle.std.proofs.Common.{None, Some, refl, sym, ap, ◌∙◌, arith, le-leb}
use Rattle.std.proofs.lemmas.Bool.{lt-leb}
use Rattle.std.proofs.lemmas.Bool.Decides.{nat_tests}
use Rattle.session_numbers.specs.Numbers.{is_hex_digit, hex_digit, all_hex_digits, hex_value_after}
use Rattle.session_numbers.specs.Code.{digit_in}
use Rattle.session_numbers.proofs.Radices.{hexadecimal_digit}
use Rattle.session_words.proofs.Lists.{drop_at, drop_end}

-- what a byte counts as, by where it lies
by_test : (b : ℕ) (t : Bool) → is_hex_digit b ≡ t → cond t (Some (hex_digit b)) None ≡ digit_in 16 b
by_test b t e = ap (λ t. cond t (Some (hex_digit b)) None) (sym e) ∙ sym (hexadecimal_digit b)

pub hex_below : (b : ℕ) → b < 48 → None ≡ digit_in 16 b
hex_below b h = by_test b false (simp (lt-leb 48 b h, lt-leb 97 b (omega arith)))

pub hex_decimal : (b : ℕ) → 48 ≤ b → b ≤ 57 → Some (b - 48) ≡ digit_in 16 b
hex_decimal b h k =
    let e : b - 48 ≡ hex_digit b = simp (le-leb b 57 k) in
    ap Some e ∙ by_test b true (simp (le-leb 48 b h, le-leb b 57 k))

pub hex_between : (b : ℕ) → 57 < b → b < 97 → None ≡ digit_in 16 b
hex_between b h k = by_test b false (simp (le-leb 48 b (omega arith), lt-leb b 57 h, lt-leb 97 b k))

pub hex_letter : (b : ℕ) → 97 ≤ b → b ≤ 102 → Some (b - 97 + 10) ≡ digit_in 16 b
hex_letter b h k =
    let e : b - 97 + 10 ≡ hex_digit b = simp (lt-leb b 57 (omega arith)) (omega arith) in
    ap Some e ∙ by_test b true (simp (le-leb 48 b (omega arith), lt-leb b 57 (omega arith), le-leb 97 b h, le-leb b 102 k))

pub hex_above : (b : ℕ) → 102 < b → None ≡ digit_in 16 b
hex_above b h = by_test b false (simp (le-leb 48 b (omega arith), lt-leb b 57 (omega arith), le-leb 97 b (omega arith), lt-leb b 102 h))

-- a byte is no hex digit, and counts as none, or it is one, with a value below 16
pub data HexByte (b : ℕ) : Type 0 where
  other : is_hex_digit b ≡ false → digit_in 16 b ≡ None → HexByte b
  digit : is_hex_digit b ≡ true → digit_in 16 b ≡ Some (hex_digit b) → hex_digit b < 16 → HexByte b

small_digit : (b : ℕ) → is_hex_digit b ≡ true → hex_digit b < 16
small_digit b e = grind (arith, nat_tests)

pub hex_byte : (b : ℕ) → HexByte b
hex_byte b = go (is_hex_digit b) refl
  where
    go : (t : Bool) → is_hex_digit b ≡ t → HexByte b
    go true e = digit e (sym (by_test b true e)) (small_digit b e)
    go false e = other e (sym (by_test b false e))

-- what a byte is by what it counts as
pub hex_stop : (b : ℕ) → None ≡ digit_in 16 b → is_hex_digit b ≡ false
hex_stop b e = go (hex_byte b)
  where
    go : HexByte b → is_hex_digit b ≡ false
    go (other p q) = p
    go (digit p q l) = cc

pub record HexTurn (b d : ℕ) : Type 0 where
  pub is : is_hex_digit b ≡ true
  pub value : d ≡ hex_digit b
  pub small : d < 16

pub hex_turn : (b d : ℕ) → Some d ≡ digit_in 16 b → HexTurn b d
hex_turn b d e = go (hex_byte b)
  where
    go : HexByte b → HexTurn b d
    go (other p q) = cc
    go (digit p q l) = let v : d ≡ hex_digit b = cc in record { is = p; value = v; small = omega arith }

-- ---- going along a word

pub hex_on : (s : List ℕ) (i : ℕ) → i < length s → is_hex_digit (get_or s i 0) ≡ true → all_hex_digits (drop i s) ≡ all_hex_digits (drop (i + 1) s)
unfolding all_hex_digits
hex_on s i h e = ap all_hex_digits (drop_at s i 0 h) ∙ ap (λ x. x && all_hex_digits (drop (i + 1) s)) e

pub hex_off : (s : List ℕ) (i : ℕ) → i < length s → is_hex_digit (get_or s i 0) ≡ false → all_hex_digits (drop i s) ≡ false
unfolding all_hex_digits
hex_off s i h e = ap all_hex_digits (drop_at s i 0 h) ∙ ap (λ x. x && all_hex_digits (drop (i + 1) s)) e

pub hex_end : (s : List ℕ) (i : ℕ) → length s ≤ i → all_hex_digits (drop i s) ≡ true
unfolding all_hex_digits
hex_end s i h = ap all_hex_digits (drop_end s i h)

pub hex_value_on : (v : ℕ) (s : List ℕ) (i : ℕ) → i < length s
    → hex_value_after v (drop i s) ≡ hex_value_after (v * 16 + hex_digit (get_or s i 0)) (drop (i + 1) s)
unfolding hex_value_after
hex_value_on v s i h = ap (hex_value_after v) (drop_at s i 0 h)

pub hex_value_end : (v : ℕ) (s : List ℕ) (i : ℕ) → length s ≤ i → hex_value_after v (drop i s) ≡ v
unfolding hex_value_after
hex_value_end v s i h = ap (hex_value_after v) (drop_end s i h)
