-- The digits of the two radices, and what a run of them writes, as the definitions of decimal and of hex digits have it.
use Rattle.std.proofs.Common.{◌≡◌, ℕ, ◌+◌, ◌-◌, ◌*◌, ◌<◌, ◌≤◌, Bool, true, false, cond, ◌&&◌, List}
use Rattle.std.proofs.Common.{[], ◌∷◌, None, Some, length, refl, ap, ◌∙◌, arith, lt-ltb, le-leb, eq-eqb, ne_eqb}
use Rattle.std.proofs.lemmas.Bool.Decides.{nat_tests}
use Rattle.std.proofs.lemmas.Bool.{lt-leb}
use Rattle.std.specs.Prelude.{option_map, option_and_then}
use Rattle.std.specs.Float.{binary32}
use Rattle.std.specs.Float.Ieee.{of_bits}
use Rattle.session_numbers.specs.Numbers.{is_digit, all_digits, is_run, value_after, value_of, digits_of, bits_of}
use Rattle.session_numbers.specs.Numbers.{is_hex_digit, hex_digit, all_hex_digits, hex_value_after}
use Rattle.session_numbers.specs.Code.{digit_in, run_after}

decimal_digit : (b : ℕ) → digit_in 10 b ≡ cond (is_digit b) (Some (b - 48)) None
decimal_digit b = grind (arith, nat_tests)

pub hexadecimal_digit : (b : ℕ) → digit_in 16 b ≡ cond (is_hex_digit b) (Some (hex_digit b)) None
hexadecimal_digit b = grind (arith, nat_tests)

pub run_ten : (v : ℕ) (s : List ℕ) → run_after 10 v s ≡ cond (all_digits s) (Some (value_after v s)) None
unfolding run_after all_digits value_after
run_ten v [] = refl
run_ten v (b ∷ s) = rw (decimal_digit b) (go (is_digit b) (run_ten (v * 10 + (b - 48)) s))
  where
    go : (t : Bool) → run_after 10 (v * 10 + (b - 48)) s ≡ cond (all_digits s) (Some (value_after (v * 10 + (b - 48)) s)) None
        → option_and_then (λ d. run_after 10 (v * 10 + d) s) (cond t (Some (b - 48)) None)
        ≡ cond (t && all_digits s) (Some (value_after (v * 10 + (b - 48)) s)) None
    go true e = e
    go false e = refl

pub run_sixteen : (v : ℕ) (s : List ℕ) → run_after 16 v s ≡ cond (all_hex_digits s) (Some (hex_value_after v s)) None
unfolding run_after all_hex_digits hex_value_after
run_sixteen v [] = refl
run_sixteen v (b ∷ s) = rw (hexadecimal_digit b) (go (is_hex_digit b) (run_sixteen (v * 16 + hex_digit b) s))
  where
    go : (t : Bool) → run_after 16 (v * 16 + hex_digit b) s ≡ cond (all_hex_digits s) (Some (hex_value_after (v * 16 + hex_digit b) s)) None
        → option_and_then (λ d. run_after 16 (v * 16 + d) s) (cond t (Some (hex_digit b)) None)
        ≡ cond (t && all_hex_digits s) (Some (hex_value_after (v * 16 + hex_digit b) s)) None
    go true e = e
    go false e = refl

-- ---- a run of digits in their number

module _ (most : ℕ) (s : List ℕ) where
  pub digits_run : 0 < length s → length s ≤ most → run_after 10 0 s ≡ digits_of most s
  unfolding digits_of
  digits_run h k = run_ten 0 s ∙ (rw (lt-ltb 0 (length s) h, le-leb (length s) most k) (go (all_digits s)))
    where
      go : (t : Bool) → cond t (Some (value_of s)) None ≡ cond (true && t && true) (Some (value_of s)) None
      go true = refl
      go false = refl

  pub digits_empty : length s ≡ 0 → None ≡ digits_of most s
  unfolding digits_of
  digits_empty h = rw h refl

  pub digits_long : most < length s → None ≡ digits_of most s
  unfolding digits_of
  digits_long h = rw (lt-leb (length s) most h) (go (is_run s))
    where
      go : (t : Bool) → None ≡ cond (t && false) (Some (value_of s)) None
      go true = refl
      go false = refl

module _ (s : List ℕ) where
  pub bits_length : (length s ≡ 8 → ⊥) → None ≡ bits_of s
  unfolding bits_of
  bits_length h = rw (ne_eqb (length s) 8 h) refl

  bits_run : length s ≡ 8 → option_map (of_bits binary32) (run_after 16 0 s) ≡ bits_of s
  unfolding bits_of
  bits_run h = rw (run_sixteen 0 s, eq-eqb (length s) 8 h) (go (all_hex_digits s))
    where
      go : (t : Bool) → option_map (of_bits binary32) (cond t (Some (hex_value_after 0 s)) None)
          ≡ cond (true && t) (Some (of_bits binary32 (hex_value_after 0 s))) None
      go true = refl
      go false = refl

  pub bits_none : length s ≡ 8 → None ≡ run_after 16 0 s → None ≡ bits_of s
  bits_none h e = ap (option_map (of_bits binary32)) e ∙ bits_run h

  pub bits_some : length s ≡ 8 → (v : ℕ) → Some v ≡ run_after 16 0 s → Some (of_bits binary32 v) ≡ bits_of s
  bits_some h v e = ap (option_map (of_bits binary32)) e ∙ bits_run h
