-- Laws of the bits of a word. A word is split at a place k into what stands above it, its bit and what stands below it; the ones, the
-- common bits of two words and a run of set bits go bit by bit from the lowest.
use Prim.Native.Nat.{ℕ, zero, suc, ◌+◌, ◌-◌, ◌*◌, ◌/◌, ◌%◌, ◌^◌, ◌≤◌, ◌<◌}
use mathlib.Core.Path.{◌≡◌, refl, sym, ap, ap₂, ◌∙◌, subst}
use mathlib.Core.Bool.{true, false, cond}
use mathlib.Core.Logic.{⊎_elim}
use native.Mathlib.Nat.{not-suc-le-zero, lt_of_le_of_lt, lt_of_lt_of_le, lt_of_not-le, zero-mul, one-mul, mod-eq_of_lt, div-eq_of_lt, zero-add, div-one, add_assoc, mod-lt, pow-suc, add-div_right, add-mul-div_right}
use native.Mathlib.Numerals.{add-one, one-add}
use native.Mathlib.Omega.{arith}
use lib.Count.{ones, ones_step, ones-le, count_trailing_zeros, under}
use lib.Bits.{bit_and, and_step, and_shr}
use lib.Pow.{field, mod-mod-pow, shr-shr, shr_lt, shr_le, pow_mono, mod-pow-add, split, high, pow_pos, pow-add, pow-lt}
use lib.Arith.{digits_lt, lt-one}
use lib.Dec.{lit<, eqb}
use borrow.Author.Tests.{eqb-true, eqb-false, eq-eqb}
use Rattle.sweep_rules.specs.Map.{bit_at, all_below, how_many}
use Rattle.sweep_rules.specs.Record.{implies}
use Rattle.sweep_rules.proofs.Tests.{which, fails, same_test, implied, follows, each_all, all_each}

-- the bit as a digit

pub digit_one : (w k : ℕ) → bit_at w k ≡ true → w / 2 ^ k % 2 ≡ 1
unfolding bit_at
digit_one w k e = eqb-true (w / 2 ^ k % 2) 1 e

pub digit_zero : (w k : ℕ) → bit_at w k ≡ false → w / 2 ^ k % 2 ≡ 0
unfolding bit_at
digit_zero w k e = let n = eqb-false (w / 2 ^ k % 2) 1 e in omega arith

pub one_digit : (w k : ℕ) → w / 2 ^ k % 2 ≡ 1 → bit_at w k ≡ true
unfolding bit_at
one_digit w k e = eq-eqb (w / 2 ^ k % 2) 1 e

pub same_digit : (w v j k : ℕ) → w / 2 ^ j % 2 ≡ v / 2 ^ k % 2 → bit_at w j ≡ bit_at v k
unfolding bit_at
same_digit w v j k e = ap (λ (n : ℕ). eqb n 1) e

-- ---- the halves of a word

pub bit_low : (w k : ℕ) → k < 32 → bit_at (w % 4294967296) k ≡ bit_at w k
bit_low w k h =
    let a : 32 ≡ 31 - k + 1 + k = omega arith in
    same_digit (w % 4294967296) w k k
    (ap (λ (n : ℕ). w % 2 ^ n / 2 ^ k % 2) a
    ∙ ap (λ (n : ℕ). n % 2) (field w (31 - k + 1) k)
    ∙ mod-mod-pow (w / 2 ^ k) (31 - k) 1)

pub bit_high : (w k : ℕ) → bit_at (w / 4294967296) k ≡ bit_at w (32 + k)
bit_high w k = same_digit (w / 4294967296) w k (32 + k) (ap (λ (n : ℕ). n % 2) (shr-shr w 32 k))

-- ---- the ones of a word

one_more_lem : (n d : ℕ) → d ≤ 1 → cond (eqb d 1) (suc n) n ≡ n + d
one_more_lem n d h = ⊎_elim
    (λ (t : eqb d 1 ≡ true). let e = eqb-true d 1 t in rw t (omega arith))
    (λ (t : eqb d 1 ≡ false). let e = eqb-false d 1 t in rw t (omega arith))
    (which (eqb d 1))

-- the bits below place k, and the ones above
ones_from : (w k : ℕ) → how_many k (bit_at w) + ones (w / 2 ^ k) ≡ ones w
unfolding how_many bit_at
ones_from w zero = zero-add (ones (w / 1)) ∙ ap ones (div-one w)
ones_from w (suc k) =
    let e : ones (w / 2 ^ k / 2) ≡ ones (w / 2 ^ suc k) = ap ones (shr-shr w k 1 ∙ ap (λ (n : ℕ). w / 2 ^ n) (add-one k)) in
    let m = one_more_lem (how_many k (bit_at w)) (w / 2 ^ k % 2) (omega arith) in
    omega (arith, ones_from w k, ones_step (w / 2 ^ k), e, m)

-- the ones of a word are its set bits
pub ones_bits : (w k : ℕ) → w < 2 ^ k → how_many k (bit_at w) ≡ ones w
ones_bits w k h =
    let e : ones (w / 2 ^ k) ≡ ones 0 = ap ones (div-eq_of_lt h) in
    omega (arith, ones_from w k, e, ones-le 0 0 (lit< tt))

-- ---- the bits that two words have in common

and_digit : (a b k : ℕ) → bit_and a b / 2 ^ k % 2 ≤ b / 2 ^ k % 2
and_digit a b k = let s = ap (λ (n : ℕ). n % 2) (and_shr a b k) in omega (arith, s, and_step (a / 2 ^ k) (b / 2 ^ k))

-- where the common bits are all of h's, each bit of h is one of v
common_bit : (h v k : ℕ) → bit_and h v ≡ h → bit_at h k ≡ true → bit_at v k ≡ true
common_bit h v k e b =
    let a = and_digit h v k in
    let o = digit_one h k b in
    let q = ap (λ (n : ℕ). n / 2 ^ k % 2) e in
    one_digit v k (omega arith)

bit_half : (w k : ℕ) → bit_at (w / 2) k ≡ bit_at w (suc k)
bit_half w k = same_digit (w / 2) w k (suc k) (ap (λ (n : ℕ). n % 2) (shr-shr w 1 k ∙ ap (λ (n : ℕ). w / 2 ^ n) (one-add k)))

-- and where each bit of h is one of v, the common bits are all of h's
bits_common : (n h v : ℕ) → h < 2 ^ n → ((k : ℕ) → k < n → bit_at h k ≡ true → bit_at v k ≡ true) → bit_and h v ≡ h
bits_common zero h v l f = ap (λ (x : ℕ). bit_and x v) (lt-one l) ∙ sym (lt-one l)
bits_common (suc n) h v l f =
    let lower : h / 2 < 2 ^ n = omega (arith, pow-suc 2 n) in
    let r = bits_common n (h / 2) (v / 2) lower (λ k m b. bit_half v k ∙ f (suc k) (omega arith) (sym (bit_half h k) ∙ b)) in
    ⊎_elim
    (λ (t : bit_at h 0 ≡ true).
    let a = digit_one h 0 t in
    let b = digit_one v 0 (f 0 (omega arith) t) in
    omega (arith, and_step h v, r))
    (λ (t : bit_at h 0 ≡ false).
    let a = digit_zero h 0 t in
    omega (arith, and_step h v, r))
    (which (bit_at h 0))

-- the test that a word's common bits with another are all of its own
pub within_test : (h v : ℕ) → h < 2 ^ 64 → eqb (bit_and h v) h ≡ all_below 64 (λ k. implies (bit_at h k) (bit_at v k))
within_test h v fits = same_test (eqb (bit_and h v) h) (all_below 64 (λ k. implies (bit_at h k) (bit_at v k)))
    (λ e. each_all 64 (λ k. implies (bit_at h k) (bit_at v k)) (λ k l. implied (bit_at h k) (bit_at v k) (common_bit h v k (eqb-true (bit_and h v) h e))))
    (λ e. eq-eqb (bit_and h v) h (bits_common 64 h v fits (λ k l. follows (bit_at h k) (bit_at v k) (all_each 64 (λ k. implies (bit_at h k) (bit_at v k)) e k l))))

-- ---- a clear bit is set by adding its power of two

-- the word by what stands above place k and what stands below it
clear_split : (w k : ℕ) → w / 2 ^ k % 2 ≡ 0 → w ≡ w / 2 ^ suc k * 2 ^ suc k + w % 2 ^ k
clear_split w k h =
    let e : w % 2 ^ suc k ≡ w % 2 ^ k =
    ap (λ (n : ℕ). w % 2 ^ n) (sym (one-add k))
    ∙ mod-pow-add w 1 k ∙ ap (λ (n : ℕ). n * 2 ^ k + w % 2 ^ k) h ∙ ap (λ (n : ℕ). n + w % 2 ^ k) (zero-mul (2 ^ k)) ∙ zero-add (w % 2 ^ k)
    in sym (ap (λ (n : ℕ). w / 2 ^ suc k * 2 ^ suc k + n) (sym e) ∙ split w (suc k))

-- what stands below place k and the bit there are below 2 ^ (k + 1)
low_lt : (w k : ℕ) → w % 2 ^ k + 2 ^ k < 2 ^ suc k
low_lt w k = omega (arith, mod-lt w (pow_pos k), pow-suc 2 k)

set_split : (w k : ℕ) → w / 2 ^ k % 2 ≡ 0 → w + 2 ^ k ≡ w / 2 ^ suc k * 2 ^ suc k + (w % 2 ^ k + 2 ^ k)
set_split w k h = ap (λ (n : ℕ). n + 2 ^ k) (clear_split w k h) ∙ add_assoc (w / 2 ^ suc k * 2 ^ suc k) (w % 2 ^ k) (2 ^ k)

module _ (w k : ℕ) (clear : bit_at w k ≡ false) where
  pub set_fits : w < 2 ^ 64 → k < 64 → w + 2 ^ k < 2 ^ 64
  set_fits hw hk =
      let e : 63 - k + suc k ≡ 64 = omega arith in
      let q : w / 2 ^ suc k < 2 ^ (63 - k) = shr_lt (63 - k) (suc k) (subst (λ (n : ℕ). w < 2 ^ n) (sym e) hw) in
      let p : 2 ^ (63 - k) * 2 ^ suc k ≡ 2 ^ 64 = sym (pow-add 2 (63 - k) (suc k)) ∙ ap (λ (n : ℕ). 2 ^ n) e in
      subst (λ (n : ℕ). n < 2 ^ 64) (sym (set_split w k (digit_zero w k clear)))
      (subst (λ (n : ℕ). w / 2 ^ suc k * 2 ^ suc k + (w % 2 ^ k + 2 ^ k) < n) p (digits_lt q (low_lt w k)))

  -- the bit is set
  pub set_it : bit_at (w + 2 ^ k) k ≡ true
  set_it =
      let e : (w + 2 ^ k) / 2 ^ k ≡ w / 2 ^ k + 1 = add-div_right w (pow_pos k) in
      let z = digit_zero w k clear in
      one_digit (w + 2 ^ k) k (omega arith)

  -- and no other
  pub set_below : (j : ℕ) → j < k → bit_at (w + 2 ^ k) j ≡ bit_at w j
  set_below j h =
      let a : 2 ^ k ≡ 2 ^ (k - suc j) * 2 * 2 ^ j =
      ap (λ (n : ℕ). 2 ^ n) (omega arith) ∙ pow-add 2 (suc (k - suc j)) j ∙ ap (λ (n : ℕ). n * 2 ^ j) (pow-suc 2 (k - suc j))
      in
      let e : (w + 2 ^ k) / 2 ^ j ≡ w / 2 ^ j + 2 ^ (k - suc j) * 2 =
      ap (λ (n : ℕ). (w + n) / 2 ^ j) a ∙ add-mul-div_right w (2 ^ (k - suc j) * 2) (pow_pos j)
      in
      same_digit (w + 2 ^ k) w j j (omega (arith, e))

  pub set_above : (j : ℕ) → k < j → bit_at (w + 2 ^ k) j ≡ bit_at w j
  set_above j h =
      let e : (w + 2 ^ k) / 2 ^ suc k ≡ w / 2 ^ suc k =
      ap (λ (n : ℕ). n / 2 ^ suc k) (set_split w k (digit_zero w k clear)) ∙ high (w / 2 ^ suc k) (suc k) (low_lt w k)
      in
      let f : suc k + (j - suc k) ≡ j = omega arith in
      let g : (x : ℕ) → x / 2 ^ suc k / 2 ^ (j - suc k) ≡ x / 2 ^ j = λ x. shr-shr x (suc k) (j - suc k) ∙ ap (λ (n : ℕ). x / 2 ^ n) f in
      same_digit (w + 2 ^ k) w j j (ap (λ (n : ℕ). n % 2) (sym (g (w + 2 ^ k)) ∙ ap (λ (n : ℕ). n / 2 ^ (j - suc k)) e ∙ g w))

-- the shift that makes a power of two, below the width
pub power-is : (k : ℕ) → k < 64 → (1 * 2 ^ k) % 18446744073709551616 ≡ 2 ^ k
power-is k h = mod-eq_of_lt (subst (λ (n : ℕ). n < 2 ^ 64) (sym (one-mul (2 ^ k))) (pow-lt h)) ∙ one-mul (2 ^ k)

-- ---- a run of set bits: the zeros at the low end of a word turned over

module _ (P x : ℕ) (h : x < P * 2) where
  over_digit : (P * 2 - 1 - x) % 2 ≡ 1 - x % 2
  over_digit = omega arith

  over_half : (P * 2 - 1 - x) / 2 ≡ P - 1 - x / 2
  over_half = omega arith

-- the lowest bit, and the run of the rest
run_step : (k x : ℕ) → x < 2 ^ suc k → count_trailing_zeros (suc k) (2 ^ suc k - 1 - x) ≡ under (1 - x % 2) (count_trailing_zeros k (2 ^ k - 1 - x / 2))
unfolding count_trailing_zeros
run_step k x h =
    let e = pow-suc 2 k in
    let b : x < 2 ^ k * 2 = subst (λ (n : ℕ). x < n) e h in
    ap₂ (λ (d q : ℕ). under d (count_trailing_zeros k q)) (ap (λ (n : ℕ). (n - 1 - x) % 2) e ∙ over_digit (2 ^ k) x b) (ap (λ (n : ℕ). (n - 1 - x) / 2) e ∙ over_half (2 ^ k) x b)

run_first : (k x j : ℕ) → x < 2 ^ suc k → j < count_trailing_zeros (suc k) (2 ^ suc k - 1 - x) → (x % 2 ≡ 1) × (j < suc (count_trailing_zeros k (2 ^ k - 1 - x / 2)))
run_first k x j h l = by (x % 2) _ (omega arith) (subst (λ (n : ℕ). j < n) (run_step k x h) l)
  where
    by : (r t : ℕ) → r ≤ 1 → j < under (1 - r) t → (r ≡ 1) × (j < suc t)
    by zero t h l = absurd (not-suc-le-zero l)
    by (suc zero) t h l = (refl, l)
    by (suc (suc r)) t h l = absurd (not-suc-le-zero {n = 0} (omega arith))

-- each bit in the run is set
run_set : (k x j : ℕ) → x < 2 ^ k → j < count_trailing_zeros k (2 ^ k - 1 - x) → bit_at x j ≡ true
unfolding count_trailing_zeros
run_set zero x j h l = absurd (not-suc-le-zero l)
run_set (suc k) x zero h l = one_digit x 0 (ap (λ (n : ℕ). n % 2) (div-one x) ∙ (run_first k x 0 h l).0)
run_set (suc k) x (suc j) h l = let r = (run_first k x (suc j) h l).1 in sym (bit_half x j) ∙ run_set k (x / 2) j (omega (arith, pow-suc 2 k)) (omega arith)

-- from place s of a word on: the run's bits are set, and stand in the word; where there is no run, the bit at s is clear
module _ (w s : ℕ) (h : w < 2 ^ 64) where
  rest_lt : w / 2 ^ s < 2 ^ 64
  rest_lt = lt_of_le_of_lt (shr_le w s) h

  pub run_in_word : (j : ℕ) → j < count_trailing_zeros 64 (2 ^ 64 - 1 - w / 2 ^ s) → (s + j < 64) × (bit_at w (s + j) ≡ true)
  run_in_word j l =
      let b : bit_at w (s + j) ≡ true = same_digit w (w / 2 ^ s) (s + j) j (ap (λ (n : ℕ). n % 2) (sym (shr-shr w s j))) ∙ run_set 64 (w / 2 ^ s) j rest_lt l in
      let o = digit_one w (s + j) b in (
        lt_of_not-le (λ (g : 64 ≤ s + j).
            let z : w / 2 ^ (s + j) ≡ 0 = div-eq_of_lt (lt_of_lt_of_le h (pow_mono g)) in
            not-suc-le-zero {n = 0} (omega arith)),
        b,
      )

  pub run_at_clear : count_trailing_zeros 64 (2 ^ 64 - 1 - w / 2 ^ s) ≡ 0 → bit_at w s ≡ false
  run_at_clear z = fails (bit_at w s) (λ b.
      let t = count_trailing_zeros 63 (2 ^ 63 - 1 - w / 2 ^ s / 2) in
      let e : 0 ≡ suc t = sym z ∙ run_step 63 (w / 2 ^ s) rest_lt ∙ ap (λ (n : ℕ). under (1 - n) t) (digit_one w s b) in
      not-suc-le-zero {n = 0} (omega arith))
