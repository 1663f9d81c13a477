-- A channel's bit set by an or with its power of two: a clear bit adds the power, a set one leaves the word as it was.
use Rattle.std.proofs.Common.{ℕ, ◌+◌, ◌*◌, ◌/◌, ◌%◌, ◌^◌, ◌≡◌, arith, sym, ap, ◌∙◌, List, get_or, Bool, true, false, cond}
use mathlib.Core.Logic.{⊎_elim}
use Rattle.std.specs.Int.Bits.{bit_or, or_add_and}
use Rattle.std.proofs.lemmas.Nat.Bits.{and_pow}
use Rattle.std.proofs.lemmas.List.{set-get_or}
use lib.ListN.{set}
use Rattle.sweep_rules.specs.Map.{is_set, bit_at, with_bit}
use Rattle.sweep_rules.proofs.Tests.{which}
use Rattle.sweep_rules.proofs.Words.{power-is, digit_one, digit_zero}

-- of a word
or_set : (w k : ℕ) → bit_at w k ≡ true → bit_or w (2 ^ k) ≡ w
or_set w k e =
    let a = and_pow w k ∙ ap (λ (n : ℕ). n * 2 ^ k) (digit_one w k e) in
    let b = or_add_and w (2 ^ k) in
    omega arith

or_clear : (w k : ℕ) → bit_at w k ≡ false → bit_or w (2 ^ k) ≡ w + 2 ^ k
or_clear w k e =
    let a = and_pow w k ∙ ap (λ (n : ℕ). n * 2 ^ k) (digit_zero w k e) in
    let b = or_add_and w (2 ^ k) in
    omega arith

-- of a map
pub bit_put : (m : List ℕ) (c : ℕ) → set m (c / 64) (bit_or (get_or m (c / 64) 0) ((1 * 2 ^ (c % 64)) % 18446744073709551616)) ≡ with_bit m c
unfolding with_bit is_set
bit_put m c =
    let w = get_or m (c / 64) 0 in
    let k = c % 64 in
    ap (λ (n : ℕ). set m (c / 64) (bit_or w n)) (power-is k (omega arith))
    ∙ ⊎_elim
    (λ (t : is_set m c ≡ true).
    ap (set m (c / 64)) (or_set w k t) ∙ set-get_or m (c / 64) 0 ∙ sym (ap (λ (b : Bool). cond b m (set m (c / 64) (w + 2 ^ k))) t))
    (λ (t : is_set m c ≡ false). ap (set m (c / 64)) (or_clear w k t) ∙ sym (ap (λ (b : Bool). cond b m (set m (c / 64) (w + 2 ^ k))) t))
    (which (is_set m c))
