-- Session files, section Words: which words are numbers, and their values.
use Rattle.std.specs.Prelude.{ℕ, suc, ◌+◌, ◌-◌, ◌*◌, ◌^◌, Bool, true, false, cond, ◌&&◌, ◌||◌, List, [], ◌∷◌, ◌++◌}
use Rattle.std.specs.Prelude.{length, take, drop, eqb, leb, ltb, ℤ, pos, negsuc, neg_ℤ, nat_abs, Float, Option, None, Some, option_map}
use Rattle.std.specs.Int.Signed.{le_z}
use Rattle.std.specs.Float.{nan, inf, binary32}
use Rattle.std.specs.Float.Ieee.{of_int, of_bits, div, neg}
use Rattle.byte_scan.specs.Bytes.{index_of}
use Rattle.session_words.specs.Bytes.{minus, bytes_of, alike}

-- a decimal digit, `0` to `9`
abbrev pub is_digit : ℕ → Bool
is_digit b = leb 48 b && leb b 57

unfoldable pub all_digits : List ℕ → Bool
all_digits [] = true
all_digits (b ∷ s) = is_digit b && all_digits s

-- digits read from the first on: each makes ten of what came before it and adds its own value
unfoldable pub value_after : ℕ → List ℕ → ℕ
value_after v [] = v
value_after v (b ∷ s) = value_after (v * 10 + (b - 48)) s

abbrev pub value_of : List ℕ → ℕ
value_of s = value_after 0 s

-- a run of one digit or more
abbrev pub is_run : List ℕ → Bool
is_run s = ltb 0 (length s) && all_digits s

-- the value of 1 to so many digits; leading zeros count
unfoldable pub digits_of : ℕ → List ℕ → Option ℕ
digits_of most s = cond (is_run s && leb (length s) most) (Some (value_of s)) None

-- the most digits of a whole number
abbrev pub whole_digits : ℕ
whole_digits = 10

-- an optional minus sign: what is read after it becomes a number below 0, and without it the plain one
unfoldable pub with_sign : {A B : Type 0} → (A → B) → (A → B) → (List ℕ → Option A) → List ℕ → Option B
with_sign below plain read [] = None
with_sign below plain read (b ∷ s) = cond (eqb b minus) (option_map below (read s)) (option_map plain (read (b ∷ s)))

-- a whole number: an optional minus sign and 1 to 10 digits; -0 is 0
unfoldable pub whole_of : List ℕ → Option ℤ
whole_of s = with_sign (λ n. neg_ℤ (pos n)) pos (digits_of whole_digits) s

-- a whole number, where it lies from low to high
abbrev pub within : ℤ → ℤ → Option ℤ → Option ℤ
within low high None = None
within low high (Some z) = cond (le_z low z && le_z z high) (Some z) None

-- a whole number from 0 to the highest
unfoldable pub natural_of : ℕ → List ℕ → Option ℕ
natural_of highest s = option_map nat_abs (within (pos 0) (pos highest) (whole_of s))

-- CH: 0 to 65,535
abbrev pub channel_of : List ℕ → Option ℕ
channel_of = natural_of 65535

-- BYTE: 0 to 255
abbrev pub byte_of : List ℕ → Option ℕ
byte_of = natural_of 255

-- INT: 32 bits with a sign
unfoldable pub int_of : List ℕ → Option ℤ
int_of s = within (negsuc 2147483647) (pos 2147483647) (whole_of s)

-- the most digits of a decimal
abbrev pub decimal_digits : ℕ
decimal_digits = 7

-- the byte of a decimal point
abbrev pub point : ℕ
point = 46

-- the nearest single float to v / 10 ^ k: both are whole numbers that a single float holds, and `div` rounds their exact quotient once
unfoldable pub quotient : ℕ → ℕ → Float
quotient v k = div binary32 (of_int binary32 (pos v)) (of_int binary32 (pos (10 ^ k)))

-- digits before a point and after it, at least one each, at most 7 in all
unfoldable pub fraction_of : List ℕ → List ℕ → Option Float
fraction_of s t = cond (is_run s && is_run t && leb (length s + length t) decimal_digits) (Some (quotient (value_of (s ++ t)) (length t))) None

-- a decimal without a sign
unfoldable pub unsigned_of : List ℕ → Option Float
unsigned_of s =
    cond (ltb (index_of point s) (length s))
    (fraction_of (take (index_of point s) s) (drop (suc (index_of point s)) s))
    (option_map (λ v. quotient v 0) (digits_of decimal_digits s))

-- a decimal: an optional minus sign before it. Minus zero keeps its sign
unfoldable pub decimal_of : List ℕ → Option Float
decimal_of s = with_sign neg (λ x. x) unsigned_of s

-- a lower-case hex digit, `0` to `9` and `a` to `f`, and its value
abbrev pub is_hex_digit : ℕ → Bool
is_hex_digit b = is_digit b || (leb 97 b && leb b 102)

abbrev pub hex_digit : ℕ → ℕ
hex_digit b = cond (leb b 57) (b - 48) (b - 87)

unfoldable pub all_hex_digits : List ℕ → Bool
all_hex_digits [] = true
all_hex_digits (b ∷ s) = is_hex_digit b && all_hex_digits s

unfoldable pub hex_value_after : ℕ → List ℕ → ℕ
hex_value_after v [] = v
hex_value_after v (b ∷ s) = hex_value_after (v * 16 + hex_digit b) s

-- a float by its bits: exactly 8 hex digits
unfoldable pub bits_of : List ℕ → Option Float
bits_of s = cond (eqb (length s) 8 && all_hex_digits s) (Some (of_bits binary32 (hex_value_after 0 s))) None

-- NUM: `nan`, `inf`, `-inf`, the bits after `0x`, or a decimal
unfoldable pub num_of : List ℕ → Option Float
num_of s =
    cond (alike s (bytes_of "nan")) (Some nan)
    (cond (alike s (bytes_of "inf")) (Some (inf false))
    (cond (alike s (bytes_of "-inf")) (Some (inf true))
    (cond (alike (take 2 s) (bytes_of "0x")) (bits_of (drop 2 s))
    (decimal_of s))))
