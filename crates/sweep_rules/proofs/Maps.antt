-- Laws of a map: its bits word by word, their number, and a map with one bit more. A channel's bit stands in one word, so that a change of
-- that word changes no other channel's.
use Prim.Native.Nat.{ℕ, suc, ◌+◌, ◌-◌, ◌*◌, ◌/◌, ◌%◌, ◌^◌, ◌<◌}
use mathlib.Core.Path.{◌≡◌, refl, sym, ap, ap₂, ◌∙◌}
use mathlib.Core.Bool.{Bool, true, false, ◌||◌}
use mathlib.Core.List.{List, [], ◌∷◌}
use mathlib.Core.Logic.{◌⊎◌, inl, inr, ⊎_elim}
use native.Mathlib.Nat.{zero-add, eq-or-lt_of_le}
use native.Mathlib.Omega.{arith}
use lib.ListN.{length, get_or, set}
use lib.Seq.{get_or-set_same, get_or-set_other}
use lib.Count.{ones, count_trailing_zeros}
use lib.Dec.{ltb}
use borrow.Author.Tests.{eq-eqb, ne_eqb, ltb-true, ltb-false}
use Rattle.sweep_rules.specs.Map.{bit_at, is_set, with_bit, how_many, set_bits}
use Rattle.sweep_rules.specs.Claims.{ones_of, OnesAreChannels, OneBitSet}
use Rattle.sweep_rules.proofs.Tests.{which, same_or_not, many_split, many_same}
use Rattle.sweep_rules.proofs.Words.{ones_bits, set_it, set_below, set_above, run_in_word, run_at_clear}

-- ---- the number of set bits

-- the bit at place k of word i is that of channel 64 i + k
pub set_in_word : (m : List ℕ) (i k : ℕ) → k < 64 → is_set m (i * 64 + k) ≡ bit_at (get_or m i 0) k
unfolding is_set
set_in_word m i k h =
    let a : (i * 64 + k) / 64 ≡ i = omega arith in
    let b : (i * 64 + k) % 64 ≡ k = omega arith in
    ap (λ (j : ℕ). bit_at (get_or m j 0) ((i * 64 + k) % 64)) a ∙ ap (bit_at (get_or m i 0)) b

-- the set bits from channel c on, in its word
module _ (m : List ℕ) (c : ℕ) (h : get_or m (c / 64) 0 < 2 ^ 64) where
  abbrev run : ℕ
  run = count_trailing_zeros 64 (2 ^ 64 - 1 - get_or m (c / 64) 0 / 2 ^ (c % 64))

  pub set_in_run : (j : ℕ) → j < run → is_set m (c + j) ≡ true
  unfolding is_set
  set_in_run j l =
      let r = run_in_word (get_or m (c / 64) 0) (c % 64) h j l in
      let s = r.0 in
      let a : (c + j) / 64 ≡ c / 64 = omega arith in
      let b : (c + j) % 64 ≡ c % 64 + j = omega arith in
      ap (λ (i : ℕ). bit_at (get_or m i 0) ((c + j) % 64)) a ∙ ap (bit_at (get_or m (c / 64) 0)) b ∙ r.1

  pub clear_at_none : run ≡ 0 → is_set m c ≡ false
  unfolding is_set
  clear_at_none z = run_at_clear (get_or m (c / 64) 0) (c % 64) h z

-- the channels of a map without its first word
set_in_tail : (w : ℕ) (ws : List ℕ) (c : ℕ) → is_set (w ∷ ws) (64 + c) ≡ is_set ws c
unfolding is_set
set_in_tail w ws c =
    let a : (64 + c) / 64 ≡ suc (c / 64) = omega arith in
    let b : (64 + c) % 64 ≡ c % 64 = omega arith in
    ap (λ (j : ℕ). bit_at (get_or (w ∷ ws) j 0) ((64 + c) % 64)) a ∙ ap (bit_at (get_or ws (c / 64) 0)) b

ones_list : (m : List ℕ) → ((i : ℕ) → get_or m i 0 < 2 ^ 64) → ones_of m ≡ how_many (length m * 64) (is_set m)
unfolding ones_of how_many
ones_list [] h = refl
ones_list (w ∷ ws) h =
    let e : suc (length ws) * 64 ≡ 64 + length ws * 64 = omega arith in
    let here : how_many 64 (is_set (w ∷ ws)) ≡ ones w = many_same (is_set (w ∷ ws)) (bit_at w) 64 (λ c l. ap (is_set (w ∷ ws)) (sym (zero-add c)) ∙ set_in_word (w ∷ ws) 0 c l) ∙ ones_bits w 64 (h 0) in
    let rest : how_many (length ws * 64) (λ c. is_set (w ∷ ws) (64 + c)) ≡ ones_of ws = many_same (λ c. is_set (w ∷ ws) (64 + c)) (is_set ws) (length ws * 64) (λ c l. set_in_tail w ws c) ∙ sym (ones_list ws (λ i. h (suc i))) in
    sym (ap (λ (n : ℕ). how_many n (is_set (w ∷ ws))) e ∙ many_split (is_set (w ∷ ws)) 64 (length ws * 64) ∙ ap₂ (λ (x y : ℕ). x + y) here rest)

pub ones_are_channels : OnesAreChannels
unfolding set_bits
ones_are_channels m long fits = ones_list m fits ∙ ap (λ (n : ℕ). how_many (n * 64) (is_set m)) long

-- ---- one bit more

-- which of two numbers is less
order : (a b : ℕ) → (a < b) ⊎ ((a ≡ b) ⊎ (b < a))
order a b = ⊎_elim
    (λ (t : ltb a b ≡ true). inl (ltb-true a b t))
    (λ (t : ltb a b ≡ false). let g = ltb-false a b t in ⊎_elim (λ (q : b ≡ a). inr (inl (sym q))) (λ (l : b < a). inr (inr l)) (eq-or-lt_of_le g))
    (which (ltb a b))

module _ (m : List ℕ) (c : ℕ) (low : c / 64 < length m) (clear : is_set m c ≡ false) where
  word : ℕ
  word = get_or m (c / 64) 0

  clear_word : bit_at word (c % 64) ≡ false
  unfolding is_set word
  clear_word = clear

  with_clear : with_bit m c ≡ set m (c / 64) (word + 2 ^ (c % 64))
  unfolding with_bit word
  with_clear = rw clear

  new_word : get_or (with_bit m c) (c / 64) 0 ≡ word + 2 ^ (c % 64)
  new_word = ap (λ (l : List ℕ). get_or l (c / 64) 0) with_clear ∙ get_or-set_same m (c / 64) (word + 2 ^ (c % 64)) 0 low

  other_word : (i : ℕ) → (i ≡ c / 64 → ⊥) → get_or (with_bit m c) i 0 ≡ get_or m i 0
  other_word i n = ap (λ (l : List ℕ). get_or l i 0) with_clear ∙ get_or-set_other m (c / 64) i (word + 2 ^ (c % 64)) 0 n

  pub bit_set : is_set (with_bit m c) c ≡ true
  unfolding is_set
  bit_set = ap (λ (w : ℕ). bit_at w (c % 64)) new_word ∙ set_it word (c % 64) clear_word

  same_word : (d : ℕ) → (d ≡ c → ⊥) → d / 64 ≡ c / 64 → is_set (with_bit m c) d ≡ is_set m d
  unfolding is_set word
  same_word d n e =
      ap (λ (i : ℕ). bit_at (get_or (with_bit m c) i 0) (d % 64)) e
      ∙ ap (λ (w : ℕ). bit_at w (d % 64)) new_word
      ∙ ⊎_elim
      (λ (l : d % 64 < c % 64). set_below word (c % 64) clear_word (d % 64) l)
      (λ (r : (d % 64 ≡ c % 64) ⊎ (c % 64 < d % 64)). ⊎_elim
      (λ (q : d % 64 ≡ c % 64). absurd (n (omega arith)))
      (λ (g : c % 64 < d % 64). set_above word (c % 64) clear_word (d % 64) g)
      r)
      (order (d % 64) (c % 64))
      ∙ ap (λ (i : ℕ). bit_at (get_or m i 0) (d % 64)) (sym e)

  pub bit_kept : (d : ℕ) → (d ≡ c → ⊥) → is_set (with_bit m c) d ≡ is_set m d
  unfolding is_set
  bit_kept d n = ⊎_elim (λ (e : d / 64 ≡ c / 64). same_word d n e) (λ (o : d / 64 ≡ c / 64 → ⊥). ap (λ (w : ℕ). bit_at w (d % 64)) (other_word (d / 64) o)) (same_or_not (d / 64) (c / 64))

with_set : (m : List ℕ) (c : ℕ) → is_set m c ≡ true → with_bit m c ≡ m
unfolding with_bit
with_set m c t = rw t

pub one_bit_set : OneBitSet
one_bit_set m c d long low = ⊎_elim
    (λ (t : is_set m c ≡ true). ap (λ (l : List ℕ). is_set l d) (with_set m c t) ∙ ⊎_elim
    (λ (e : d ≡ c). ap (is_set m) e ∙ t ∙ sym (ap (λ (b : Bool). b || is_set m d) (eq-eqb d c e)))
    (λ (n : d ≡ c → ⊥). sym (ap (λ (b : Bool). b || is_set m d) (ne_eqb d c n)))
    (same_or_not d c))
    (λ (t : is_set m c ≡ false). let w : c / 64 < length m = omega arith in ⊎_elim
    (λ (e : d ≡ c). ap (is_set (with_bit m c)) e ∙ bit_set m c w t ∙ sym (ap (λ (b : Bool). b || is_set m d) (eq-eqb d c e)))
    (λ (n : d ≡ c → ⊥). bit_kept m c w t d n ∙ sym (ap (λ (b : Bool). b || is_set m d) (ne_eqb d c n)))
    (same_or_not d c))
    (which (is_set m c))
