-- The set bits of a word from a place on, and the clear bit after them.
use Rattle.std.proofs.Common.{ℕ, zero, suc, ◌+◌, ◌-◌, ◌*◌, ◌/◌, ◌%◌, ◌^◌, ◌<◌, ◌≤◌, ◌≡◌, arith, sym, ap, ◌∙◌, List, get_or, false, w64, min, max}
use native.Mathlib.Nat.{not-suc-le-zero, eq-zero-or-pos}
use mathlib.Core.Logic.{⊎_elim}
use lib.Count.{count_trailing_zeros}
use lib.Pow.{shr-shr, shr_le}
use Rattle.std.proofs.lemmas.Nat.Bits.{bit_at-trailing_zeros, bit_at_not, bit_at-lt}
use Rattle.sweep_rules.specs.Map.{bit_at, is_set}
use Rattle.sweep_rules.specs.Next.{channel, lowest_not}
use Rattle.sweep_rules.proofs.Tests.{fails, same_or_not}
use Rattle.sweep_rules.proofs.Words.{digit_one, run_in_word}
use Rattle.sweep_rules.proofs.Maps.{set_in_word}
use Rattle.sweep_rules.proofs.Lowest.{swept_end, lowest_here, lowest_run, lowest_none}

abbrev pub run_from : ℕ → ℕ → ℕ
run_from w k = count_trailing_zeros 64 (18446744073709551615 - w / 2 ^ k)

-- the run ends within the word
run_within : (w k r : ℕ) → ((j : ℕ) → j < r → k + j < 64) → k < 64 → k + r ≤ 64
run_within w k zero h l = omega arith
run_within w k (suc r) h l = let e = h r (omega arith) in omega arith

pub run_le : (w k : ℕ) → w < 2 ^ 64 → k < 64 → k + run_from w k ≤ 64
run_le w k fit l = run_within w k (run_from w k) (λ j h. (run_in_word w k fit j h).0) l

-- where it ends before the word's end, the next bit is clear
pub run_end : (w k : ℕ) → w < 2 ^ 64 → k + run_from w k < 64 → bit_at w (k + run_from w k) ≡ false
unfolding count_trailing_zeros
run_end w k fit l =
    let x = w / 2 ^ k in
    let small : x < 2 ^ 64 = omega (arith, shr_le w k) in
    let n = 18446744073709551615 - x in
    let r = run_from w k in
    ⊎_elim
    (λ (z : n ≡ 0). let e : r ≡ 64 = ap (count_trailing_zeros 64) z in absurd (not-suc-le-zero {n = 0} (omega arith)))
    (λ (p : 0 < n).
    let b = bit_at-trailing_zeros w64 n p (omega arith) in
    let c = bit_at_not w64 x r small (omega arith) in
    let d = bit_at-lt x r in
    let s = ap (λ (m : ℕ). m % 2) (shr-shr w k r) in
    fails (bit_at w (k + r)) (λ t. let o = digit_one w (k + r) t in not-suc-le-zero {n = 0} (omega arith)))
    (eq-zero-or-pos n)

-- the same of a map
pub clear_after : (m : List ℕ) (i k c : ℕ) → get_or m i 0 < 2 ^ 64 → k + run_from (get_or m i 0) k < 64
    → c ≡ i * 64 + (k + run_from (get_or m i 0) k) → is_set m c ≡ false
clear_after m i k c fit l e = ap (is_set m) e ∙ set_in_word m i (k + run_from (get_or m i 0) k) l ∙ run_end (get_or m i 0) k fit l

-- ---- the search for the lowest channel whose bit is clear, at word i, from its first swept channel on

module _ (m : List ℕ) (i first : ℕ) (h : i < 17) (e : first ≡ max 2 (i * 64)) (fit : get_or m i 0 < 2 ^ 64) where
  abbrev pub past : ℕ
  past = first + run_from (get_or m i 0) (first % 64)

  passed : lowest_not (is_set m) (swept_end - past) past ≡ lowest_not (is_set m) (swept_end - first) first
  passed = lowest_run (is_set m) first (run_from (get_or m i 0) (first % 64)) (λ j l.
      let r = run_in_word (get_or m i 0) (first % 64) fit j l in
      let s = r.0 in
      let at : first + j ≡ i * 64 + (first % 64 + j) = omega arith in
      ap (is_set m) at ∙ set_in_word m i (first % 64 + j) r.0 ∙ r.1)

  pub found : past < min 1087 ((i + 1) * 64) → channel past ≡ lowest_not (is_set m) (swept_end - first) first
  found l = sym (lowest_here (is_set m) past (omega arith) (clear_after m i (first % 64) past fit (omega arith) (omega arith))) ∙ passed

  -- else the search goes on at the next word
  pub goes_on : min 1087 ((i + 1) * 64) ≤ past
      → lowest_not (is_set m) (swept_end - max 2 ((i + 1) * 64)) (max 2 ((i + 1) * 64)) ≡ lowest_not (is_set m) (swept_end - first) first
  goes_on l =
      let k = run_le (get_or m i 0) (first % 64) fit (omega arith) in
      ⊎_elim
      (λ (a : past ≡ max 2 ((i + 1) * 64)). ap (λ (c : ℕ). lowest_not (is_set m) (swept_end - c) c) (sym a) ∙ passed)
      (λ (n : past ≡ max 2 ((i + 1) * 64) → ⊥).
      lowest_none (is_set m) (max 2 ((i + 1) * 64)) (omega arith) ∙ sym (lowest_none (is_set m) past (omega arith)) ∙ passed)
      (same_or_not past (max 2 ((i + 1) * 64)))
