-- Going along a run of digits from its first byte on: what its definition does at a byte, in any radix, and the definitions for decimal digits.
use Rattle.std.proofs.Common.{◌≡◌, ℕ, ◌+◌, ◌-◌, ◌*◌, ◌<◌, ◌≤◌, Bool, true, false, cond, ◌&&◌, List, length, get_or, drop}
use Rattle.std.proofs.Common.{None, Some, leb, ltb, refl, ap, ◌∙◌, arith, le-leb, lt-ltb, add-one, drop-cons}
use Rattle.std.proofs.lemmas.Bool.{lt-leb}
use Rattle.std.proofs.lemmas.List.{at_drop_all}
use Rattle.session_numbers.specs.Numbers.{is_digit, all_digits, value_after, value_of, digits_of}
use Rattle.session_numbers.specs.Code.{digit_in, run_after}
use Rattle.session_words.proofs.Lists.{drop_at, drop_end, cond-true}

pub run_on : (r v : ℕ) (s : List ℕ) (i d : ℕ) → i < length s → digit_in r (get_or s i 0) ≡ Some d
    → run_after r v (drop i s) ≡ run_after r (v * r + d) (drop (i + 1) s)
unfolding run_after
run_on r v s i d h e = rw (add-one, drop-cons s i 0, e)

pub run_off : (r v : ℕ) (s : List ℕ) (i : ℕ) → i < length s → digit_in r (get_or s i 0) ≡ None → run_after r v (drop i s) ≡ None
unfolding run_after
run_off r v s i h e = rw (drop-cons s i 0, e)

pub run_end : (r v : ℕ) (s : List ℕ) (i : ℕ) → length s ≤ i → run_after r v (drop i s) ≡ Some v
unfolding run_after
run_end r v s i h = at_drop_all (run_after r v) s i h

-- ---- decimal digits

digit_at : (b : ℕ) → 48 ≤ b → b ≤ 57 → is_digit b ≡ true
digit_at b h k = ap (λ x. x && leb b 57) (le-leb 48 b h) ∙ le-leb b 57 k

low_digit : (b : ℕ) → b < 48 → is_digit b ≡ false
low_digit b h = ap (λ x. x && leb b 57) (lt-leb 48 b h)

high_digit : (b : ℕ) → 57 < b → is_digit b ≡ false
high_digit b h = ap (λ x. x && leb b 57) (le-leb 48 b (omega arith)) ∙ lt-leb b 57 h

pub digits_on : (s : List ℕ) (i : ℕ) → i < length s → 48 ≤ get_or s i 0 → get_or s i 0 ≤ 57 → all_digits (drop i s) ≡ all_digits (drop (i + 1) s)
unfolding all_digits
digits_on s i h k l = ap all_digits (drop_at s i 0 h) ∙ ap (λ x. x && all_digits (drop (i + 1) s)) (digit_at _ k l)

pub digits_low : (s : List ℕ) (i : ℕ) → i < length s → get_or s i 0 < 48 → all_digits (drop i s) ≡ false
unfolding all_digits
digits_low s i h k = ap all_digits (drop_at s i 0 h) ∙ ap (λ x. x && all_digits (drop (i + 1) s)) (low_digit _ k)

pub digits_high : (s : List ℕ) (i : ℕ) → i < length s → 57 < get_or s i 0 → all_digits (drop i s) ≡ false
unfolding all_digits
digits_high s i h k = ap all_digits (drop_at s i 0 h) ∙ ap (λ x. x && all_digits (drop (i + 1) s)) (high_digit _ k)

pub digits_end : (s : List ℕ) (i : ℕ) → length s ≤ i → all_digits (drop i s) ≡ true
unfolding all_digits
digits_end s i h = ap all_digits (drop_end s i h)

pub value_on : (v : ℕ) (s : List ℕ) (i : ℕ) → i < length s → value_after v (drop i s) ≡ value_after (v * 10 + (get_or s i 0 - 48)) (drop (i + 1) s)
unfolding value_after
value_on v s i h = ap (value_after v) (drop_at s i 0 h)

pub value_end : (v : ℕ) (s : List ℕ) (i : ℕ) → length s ≤ i → value_after v (drop i s) ≡ v
unfolding value_after
value_end v s i h = ap (value_after v) (drop_end s i h)

-- the value of a word by its tests
pub digits_some : (most : ℕ) (s : List ℕ) → 0 < length s → length s ≤ most → all_digits s ≡ true → digits_of most s ≡ Some (value_of s)
unfolding digits_of
digits_some most s h k e =
    ap (λ x. cond (x && all_digits s && leb (length s) most) (Some (value_of s)) None) (lt-ltb 0 (length s) h)
    ∙ ap (λ x. cond (x && leb (length s) most) (Some (value_of s)) None) e
    ∙ cond-true _ _ (le-leb _ _ k)

pub digits_none : (most : ℕ) (s : List ℕ) → all_digits s ≡ false → digits_of most s ≡ None
unfolding digits_of
digits_none most s e = ap (λ x. cond (ltb 0 (length s) && x && leb (length s) most) (Some (value_of s)) None) e ∙ both (ltb 0 (length s))
  where
    both : (x : Bool) → cond (x && false && leb (length s) most) (Some (value_of s)) None ≡ None
    both true = refl
    both false = refl
