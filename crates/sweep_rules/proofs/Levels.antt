-- A level of 0: what the test says of the whole number, and of the bits of an i32. The levels of a word, by its halves.
use Prim.Native.Nat.{ℕ, ◌+◌, ◌/◌, ◌%◌}
use mathlib.Core.Path.{◌≡◌, sym, ap, ap₂, ◌∙◌}
use mathlib.Core.Bool.{Bool, true, false, ◌&&◌, ◌||◌, or-false}
use mathlib.Core.List.{List}
use native.Mathlib.Nat.{not-suc-le-zero, add_assoc, div-eq_of_lt}
use lib.ListN.{get_or}
use native.Mathlib.Numerals.{add-one}
use native.Mathlib.Omega.{arith}
use lib.IntN.{ℤ, pos, negsuc, nat_abs}
use lib.Dec.{eqb}
use lib.Pow.{pow_pos}
use Rattle.readings_rules.specs.Ranges.{level_in_range}
use borrow.Author.Tests.{eqb-true}
use mir.Syntax.{w32}
use mir.Val.{to_z, of_z, SFits}
use mir.ValLaws.{to_z-of_z}
use Rattle.sweep_rules.specs.Map.{bit_at, all_below}
use Rattle.sweep_rules.specs.Record.{implies, is_zero}
use Rattle.sweep_rules.specs.Code.{level_fine, levels_fine, word_fine}
use Rattle.sweep_rules.proofs.Tests.{both, right, same_test, each_all, all_split, all_same}
use Rattle.sweep_rules.proofs.Words.{bit_low, bit_high}

abs_zero : (z : ℤ) → nat_abs z ≡ 0 → z ≡ pos 0
abs_zero (pos n) e = ap pos e
abs_zero (negsuc n) e = absurd (not-suc-le-zero {n = 0} (omega arith))

pub is_zero_lem : (z : ℤ) → is_zero z ≡ true → z ≡ pos 0
is_zero_lem z e = abs_zero z (eqb-true (nat_abs z) 0 e)

pub zero_is : (z : ℤ) → z ≡ pos 0 → is_zero z ≡ true
zero_is z e = ap is_zero e

-- the test of an i32's bits
pub zero_test : (z : ℤ) → SFits w32 z → eqb (of_z w32 z) 0 ≡ is_zero z
zero_test z fits = same_test (eqb (of_z w32 z) 0) (is_zero z)
    (λ e. zero_is z (sym (to_z-of_z w32 z fits) ∙ ap (to_z w32) (eqb-true (of_z w32 z) 0 e)))
    (λ e. ap (λ (y : ℤ). eqb (of_z w32 y) 0) (is_zero_lem z e))

-- one level more
pub levels_step : (levels : List ℤ) (at h k : ℕ) → levels_fine levels at h (k + 1) ≡ (levels_fine levels at h k && level_fine (get_or levels (at + k) (pos 0)) (bit_at h k))
unfolding levels_fine all_below
levels_step levels at h k = ap (λ (n : ℕ). all_below n (λ j. level_fine (get_or levels (at + j) (pos 0)) (bit_at h j))) (add-one k)

-- the levels of a word are those of its lower half and those of its upper half
pub halves : (levels : List ℤ) (at h : ℕ) → levels_fine levels at h 64 ≡ (levels_fine levels at (h % 4294967296) 32 && levels_fine levels (at + 32) (h / 4294967296) 32)
unfolding levels_fine
halves levels at h =
    let here : ℕ → ℕ → Bool = λ j k. level_fine (get_or levels (at + j) (pos 0)) (bit_at h k) in
    all_split (λ j. here j j) 32 32
    ∙ ap₂ (λ (a b : Bool). a && b)
    (all_same (λ j. here j j) (λ j. level_fine (get_or levels (at + j) (pos 0)) (bit_at (h % 4294967296) j)) 32 (λ j l. ap (level_fine (get_or levels (at + j) (pos 0))) (sym (bit_low h j l))))
    (all_same (λ j. here (32 + j) (32 + j)) (λ j. level_fine (get_or levels (at + 32 + j) (pos 0)) (bit_at (h / 4294967296) j)) 32
    (λ j l. ap₂ (λ (n : ℕ) (b : Bool). level_fine (get_or levels n (pos 0)) b) (sym (add_assoc at 32 j)) (sym (bit_high h j))))

-- ---- where no bit is set

pub no_bit : (k : ℕ) → bit_at 0 k ≡ false
unfolding bit_at
no_bit k = ap (λ (n : ℕ). eqb (n % 2) 1) (div-eq_of_lt (pow_pos k))

-- a level is fine where it is 0, which is in the range
pub zero_fine : (z : ℤ) (k : ℕ) → is_zero z ≡ level_fine z (bit_at 0 k)
zero_fine z k = same_test (is_zero z) (level_fine z false)
    (λ e. both (ap level_in_range (is_zero_lem z e)) (ap (λ (b : Bool). b || false) e))
    (λ e. right (level_in_range z) (is_zero z) (sym (ap (λ (b : Bool). level_in_range z && b) (or-false (is_zero z))) ∙ e))
    ∙ ap (level_fine z) (sym (no_bit k))

-- a word of which none is heard is fine by its levels
pub none_heard : (levels : List ℤ) (at v : ℕ) → levels_fine levels at 0 64 ≡ word_fine levels at v 0
unfolding word_fine
none_heard levels at v = sym (ap (λ (b : Bool). b && levels_fine levels at 0 64) (each_all 64 (λ k. implies (bit_at 0 k) (bit_at v k)) (λ k l. ap (λ (b : Bool). implies b (bit_at v k)) (no_bit k))))
