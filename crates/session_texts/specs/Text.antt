-- Numbers as the text of an answer.
use Rattle.std.specs.Prelude.{ℕ, zero, suc, ◌+◌, ◌/◌, ◌%◌, cond, List, [], ◌∷◌, ◌++◌, ltb, ℤ, pos, negsuc, Float}
use Rattle.std.specs.Float.{binary32}
use Rattle.std.specs.Float.Ieee.{to_bits}
use Rattle.io.specs.Digits.{last_digits}
use Rattle.session_texts.specs.declared.Text.{Text}
use Rattle.session_words.specs.Bytes.{minus}
use Rattle.session_words.specs.Held.{held}

-- at most so many decimal digits of a number: those of its tenth, if that is not 0, and the last one
unfoldable pub final_digits : ℕ → ℕ → List ℕ
final_digits zero n = []
final_digits (suc k) n = cond (ltb n 10) [] (final_digits k (n / 10)) ++ ((48 + n % 10) ∷ [])

-- a whole number in decimal; no number of 64 bits has more than 20 digits
abbrev pub decimal_text : ℕ → List ℕ
decimal_text n = final_digits 20 n

-- a minus sign where it is below 0
abbrev pub signed_text : ℤ → List ℕ
signed_text (pos n) = decimal_text n
signed_text (negsuc n) = minus ∷ decimal_text (suc n)

-- a float's bits as 8 lower-case hex digits
abbrev pub bits_text : Float → List ℕ
bits_text x = last_digits 16 8 (to_bits binary32 x)

-- the most bytes of an answer, with its newline
abbrev pub room : ℕ
room = 64

-- what a text of the code says
abbrev pub said : Text → List ℕ
said t = held t.bytes
