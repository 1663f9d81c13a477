-- A well formed record, channel by channel and word by word. Channel c stands at place c % 64 of word c / 64, so what holds of each place of
-- each word holds of each channel, and the other way round.
use Prim.Native.Nat.{ℕ, ◌+◌, ◌*◌, ◌/◌, ◌%◌, ◌≤◌, ◌<◌}
use mathlib.Core.Path.{◌≡◌, refl, sym, ap, ◌∙◌}
use mathlib.Core.Bool.{Bool, true, false, ◌&&◌, ◌||◌, not, false≢true}
use mathlib.Core.Logic.{◌⊎◌, inl, inr, ⊎_elim}
use mathlib.Core.List.{List}
use native.Mathlib.Nat.{not-suc-le-zero, div-one}
use native.Mathlib.Omega.{arith}
use lib.ListN.{get_or}
use lib.IntN.{pos}
use lib.Dec.{eqb, leb}
use borrow.Author.Tests.{eqb-true, eq-eqb, leb-true, leb-false, le-leb}
use Rattle.readings_rules.specs.Ranges.{level_in_range}
use Rattle.readings_rules.proofs.Ranges.{range_rule}
use Rattle.readings_rules.specs.Channels.{channel_highest}
use Rattle.sweep_rules.specs.Map.{channels, bit_at, is_set, all_below}
use Rattle.sweep_rules.specs.Record.{first_swept, last_swept, swept, visited, heard, level_at, implies, is_zero, heard_where_visited, no_bit_outside, zero_where_not_heard, levels_in_range, well_formed}
use Rattle.sweep_rules.specs.Claims.{WellFormed, WellFormedRule}
use Rattle.sweep_rules.specs.Code.{level_fine, levels_fine, word_fine, ends_clear}
use Rattle.sweep_rules.specs.declared.Sweep.{Sweep}
use Rattle.sweep_rules.proofs.Tests.{implied, follows, which, same_or_not, both, left, right, fails, clash, same_test, each_all, all_each}
use Rattle.sweep_rules.proofs.Words.{digit_one, digit_zero}
use Rattle.sweep_rules.proofs.Maps.{set_in_word}
use Rattle.sweep_rules.proofs.Levels.{is_zero_lem, zero_is}

-- ---- tests that follow from tests

pub or_left : (a b : Bool) → a ≡ true → (a || b) ≡ true
or_left true b e = refl
or_left false b e = absurd (false≢true e)

pub or_right : (a b : Bool) → b ≡ true → (a || b) ≡ true
or_right true b e = refl
or_right false b e = e

or_cases : (a b c : Bool) → (a || b) ≡ true → (a ≡ true → c ≡ true) → (b ≡ true → c ≡ true) → c ≡ true
or_cases true b c e f g = f refl
or_cases false b c e f g = g e

or_first : (a b : Bool) → (a || b) ≡ true → b ≡ false → a ≡ true
or_first true b e n = refl
or_first false b e n = absurd (clash e n)

negated : (a : Bool) → a ≡ false → not a ≡ true
negated true e = sym e
negated false e = refl

unnegated : (a : Bool) → not a ≡ true → a ≡ false
unnegated true e = sym e
unnegated false e = refl

-- ---- 2 to 1,086, and -15,000 to 0

pub swept_ends : (c : ℕ) → swept c ≡ true → (2 ≤ c) × (c ≤ 1086)
swept_ends c e = (leb-true 2 c (left (leb 2 c) (leb c 1086) e), leb-true c 1086 (right (leb 2 c) (leb c 1086) e))

pub ends_swept : (c : ℕ) → (2 ≤ c) × (c ≤ 1086) → swept c ≡ true
ends_swept c h = both (le-leb 2 c h.0) (le-leb c 1086 h.1)

-- ---- the four parts

module _ (s : Sweep) where
  all_four : well_formed s ≡ true → WellFormed s
  unfolding well_formed heard_where_visited no_bit_outside zero_where_not_heard levels_in_range
  all_four e =
      let abc = left (heard_where_visited s && no_bit_outside s && zero_where_not_heard s) (levels_in_range s) e in
      let d = right (heard_where_visited s && no_bit_outside s && zero_where_not_heard s) (levels_in_range s) e in
      let ab = left (heard_where_visited s && no_bit_outside s) (zero_where_not_heard s) abc in
      let c3 = right (heard_where_visited s && no_bit_outside s) (zero_where_not_heard s) abc in
      let a = left (heard_where_visited s) (no_bit_outside s) ab in
      let b = right (heard_where_visited s) (no_bit_outside s) ab in
      let outside : (c : ℕ) → c < channels → implies (visited s c || heard s c) (swept c) ≡ true
      = all_each channels (λ c. implies (visited s c || heard s c) (swept c)) b in
      let silent = all_each channels (λ c. implies (not (heard s c)) (is_zero (level_at s c))) c3 in
      record {
        heard_visited = λ c l h. follows (heard s c) (visited s c) (all_each channels (λ c. implies (heard s c) (visited s c)) a c l) h;
        visited_inside = λ c l v. swept_ends c (follows (visited s c || heard s c) (swept c) (outside c l) (or_left (visited s c) (heard s c) v));
        heard_inside = λ c l h. swept_ends c (follows (visited s c || heard s c) (swept c) (outside c l) (or_right (visited s c) (heard s c) h));
        level_zero = λ c l n. is_zero_lem (level_at s c) (follows (not (heard s c)) (is_zero (level_at s c)) (silent c l) (negated (heard s c) n));
        level_in_range = λ c l. (range_rule.level (level_at s c)).0 (all_each channels (λ c. level_in_range (level_at s c)) d c l);
      }

  -- its parts by the tests of the definition
  pub visited_swept : WellFormed s → (c : ℕ) → c < channels → visited s c ≡ true → swept c ≡ true
  visited_swept w c l v = ends_swept c (w.visited_inside c l v)

  heard_swept : WellFormed s → (c : ℕ) → c < channels → heard s c ≡ true → swept c ≡ true
  heard_swept w c l h = ends_swept c (w.heard_inside c l h)

  pub level_range : WellFormed s → (c : ℕ) → c < channels → level_in_range (level_at s c) ≡ true
  level_range w c l = (range_rule.level (level_at s c)).1 (w.level_in_range c l)

  pub formed : WellFormed s → well_formed s ≡ true
  unfolding well_formed heard_where_visited no_bit_outside zero_where_not_heard levels_in_range
  formed w = both
      (both
      (both
      (each_all channels (λ c. implies (heard s c) (visited s c)) (λ c l. implied (heard s c) (visited s c) (w.heard_visited c l)))
      (each_all channels (λ c. implies (visited s c || heard s c) (swept c)) (λ c l. implied (visited s c || heard s c) (swept c)
      (λ e. or_cases (visited s c) (heard s c) (swept c) e (visited_swept w c l) (heard_swept w c l)))))
      (each_all channels (λ c. implies (not (heard s c)) (is_zero (level_at s c))) (λ c l. implied (not (heard s c)) (is_zero (level_at s c))
      (λ e. zero_is (level_at s c) (w.level_zero c l (unnegated (heard s c) e))))))
      (each_all channels (λ c. level_in_range (level_at s c)) (level_range w))

  pub unformed : (WellFormed s → ⊥) → well_formed s ≡ false
  unformed n = fails (well_formed s) (λ e. n (all_four e))

pub well_formed_rule : WellFormedRule
well_formed_rule s = (all_four s, formed s)

-- ---- the channels outside 2 to 1,086

outside_swept : (c : ℕ) → c < channels → (swept c ≡ true) ⊎ ((c ≡ 0) ⊎ ((c ≡ 1) ⊎ (c ≡ channel_highest)))
outside_swept c l = ⊎_elim
    (λ (a : leb first_swept c ≡ true). ⊎_elim
    (λ (b : leb c last_swept ≡ true). inl (both a b))
    (λ (b : leb c last_swept ≡ false). let g = leb-false c last_swept b in inr (inr (inr (omega arith))))
    (which (leb c last_swept)))
    (λ (a : leb first_swept c ≡ false).
    let g = leb-false first_swept c a in
    ⊎_elim (λ (e : c ≡ 0). inr (inl e)) (λ (n : c ≡ 0 → ⊥). inr (inr (inl (omega arith)))) (same_or_not c 0))
    (which (leb first_swept c))

fourth : (n : ℕ) → n % 2 ≡ 0 → n / 2 % 2 ≡ 0 → n % 4 ≡ 0
fourth n a b = omega arith

-- the test of the lowest two bits and of the highest one
pub ends_test : (m : List ℕ) → (eqb (get_or m 0 0 % 4) 0 && eqb (get_or m 16 0 / 9223372036854775808 % 2) 0) ≡ ends_clear m
unfolding ends_clear is_set
ends_test m =
    let low = get_or m 0 0 in
    let high = get_or m 16 0 in
    same_test (eqb (low % 4) 0 && eqb (high / 9223372036854775808 % 2) 0) (ends_clear m)
    (λ e.
    let a = eqb-true (low % 4) 0 (left (eqb (low % 4) 0) (eqb (high / 9223372036854775808 % 2) 0) e) in
    let b = eqb-true (high / 9223372036854775808 % 2) 0 (right (eqb (low % 4) 0) (eqb (high / 9223372036854775808 % 2) 0) e) in
    each_all channels (λ c. implies (is_set m c) (swept c)) (λ c l. implied (is_set m c) (swept c) (λ t. ⊎_elim
    (λ (o : swept c ≡ true). o)
    (λ (o : (c ≡ 0) ⊎ ((c ≡ 1) ⊎ (c ≡ channel_highest))). absurd (not-suc-le-zero {n = 0} (outer c t a b o)))
    (outside_swept c l))))
    (λ e.
    let unset : (c : ℕ) → c < channels → swept c ≡ false → is_set m c ≡ false = λ c l o. fails (is_set m c) (λ t. clash (follows (is_set m c) (swept c) (all_each channels (λ c. implies (is_set m c) (swept c)) e c l) t) o) in
    let a = sym (ap (λ (n : ℕ). n % 2) (div-one low)) ∙ digit_zero low 0 (unset 0 (omega arith) refl) in
    let b = digit_zero low 1 (unset 1 (omega arith) refl) in
    let d = digit_zero high 63 (unset channel_highest (omega arith) refl) in
    both (eq-eqb (low % 4) 0 (fourth low a b)) (eq-eqb (high / 9223372036854775808 % 2) 0 (omega arith)))
  where
    outer : (c : ℕ) → is_set m c ≡ true → get_or m 0 0 % 4 ≡ 0 → get_or m 16 0 / 9223372036854775808 % 2 ≡ 0 → (c ≡ 0) ⊎ ((c ≡ 1) ⊎ (c ≡ channel_highest)) → 1 ≤ 0
    outer c t a b (inl e) = let d = digit_one (get_or m 0 0) 0 (sym (ap (is_set m) e) ∙ t) in omega arith
    outer c t a b (inr (inl e)) = let d = digit_one (get_or m 0 0) 1 (sym (ap (is_set m) e) ∙ t) in omega arith
    outer c t a b (inr (inr e)) = let d = digit_one (get_or m 16 0) 63 (sym (ap (is_set m) e) ∙ t) in omega arith

-- ---- word by word

-- word j of a record stands as it may
abbrev pub word_of : Sweep → ℕ → Bool
word_of s j = word_fine s.levels (j * 64) (get_or s.visited j 0) (get_or s.heard j 0)

module _ (s : Sweep) where
  pub words_formed : ends_clear s.visited ≡ true → ((j : ℕ) → j < 17 → word_of s j ≡ true) → WellFormed s
  unfolding ends_clear is_set word_fine levels_fine
  words_formed ends word =
      let in_word : (c : ℕ) → c < channels → c / 64 < 17 = λ c l. omega arith in
      let low : (c : ℕ) → c % 64 < 64 = λ c. omega arith in
      let within : ℕ → Bool = λ j. all_below 64 (λ k. implies (bit_at (get_or s.heard j 0) k) (bit_at (get_or s.visited j 0) k)) in
      let fine : ℕ → Bool = λ j. levels_fine s.levels (j * 64) (get_or s.heard j 0) 64 in
      let level_fine_lem : (c : ℕ) → c < channels → level_fine (level_at s c) (heard s c) ≡ true = λ c l.
      let q : c / 64 * 64 + c % 64 ≡ c = omega arith in
      ap (λ (d : ℕ). level_fine (get_or s.levels d (pos 0)) (heard s c)) (sym q)
      ∙ all_each 64 (λ j. level_fine (get_or s.levels (c / 64 * 64 + j) (pos 0)) (bit_at (get_or s.heard (c / 64) 0) j)) (right (within (c / 64)) (fine (c / 64)) (word (c / 64) (in_word c l))) (c % 64) (low c)
      in
      let hv : (c : ℕ) → c < channels → heard s c ≡ true → visited s c ≡ true = λ c l h.
      follows (heard s c) (visited s c)
      (all_each 64 (λ k. implies (bit_at (get_or s.heard (c / 64) 0) k) (bit_at (get_or s.visited (c / 64) 0) k)) (left (within (c / 64)) (fine (c / 64)) (word (c / 64) (in_word c l))) (c % 64) (low c))
      h
      in
      let vs : (c : ℕ) → c < channels → visited s c ≡ true → (2 ≤ c) × (c ≤ 1086) = λ c l v.
      swept_ends c (follows (visited s c) (swept c) (all_each channels (λ c. implies (is_set s.visited c) (swept c)) ends c l) v)
      in
      record {
        heard_visited = hv;
        visited_inside = vs;
        heard_inside = λ c l h. vs c l (hv c l h);
        level_zero = λ c l n. is_zero_lem (level_at s c) (or_first (is_zero (level_at s c)) (heard s c) (right (level_in_range (level_at s c)) (is_zero (level_at s c) || heard s c) (level_fine_lem c l)) n);
        level_in_range = λ c l. (range_rule.level (level_at s c)).0 (left (level_in_range (level_at s c)) (is_zero (level_at s c) || heard s c) (level_fine_lem c l));
      }

  pub formed_ends : WellFormed s → ends_clear s.visited ≡ true
  unfolding ends_clear
  formed_ends w = each_all channels (λ c. implies (is_set s.visited c) (swept c)) (λ c l. implied (visited s c) (swept c) (visited_swept s w c l))

  pub formed_word : WellFormed s → (j : ℕ) → j < 17 → word_of s j ≡ true
  unfolding word_fine levels_fine
  formed_word w j l =
      let h = get_or s.heard j 0 in
      let v = get_or s.visited j 0 in
      let at : (k : ℕ) → k < 64 → j * 64 + k < channels = λ k m. omega arith in
      let heard_bit : (k : ℕ) → k < 64 → heard s (j * 64 + k) ≡ bit_at h k = set_in_word s.heard j in
      both
      (each_all 64 (λ k. implies (bit_at h k) (bit_at v k)) (λ k m. implied (bit_at h k) (bit_at v k) (λ b. sym (set_in_word s.visited j k m) ∙ w.heard_visited (j * 64 + k) (at k m) (heard_bit k m ∙ b))))
      (each_all 64 (λ k. level_fine (level_at s (j * 64 + k)) (bit_at h k)) (λ k m. both (level_range s w (j * 64 + k) (at k m)) (⊎_elim
      (λ (t : bit_at h k ≡ true). or_right (is_zero (level_at s (j * 64 + k))) (bit_at h k) t)
      (λ (t : bit_at h k ≡ false). or_left (is_zero (level_at s (j * 64 + k))) (bit_at h k) (zero_is (level_at s (j * 64 + k)) (w.level_zero (j * 64 + k) (at k m) (heard_bit k m ∙ t))))
      (which (bit_at h k)))))

  -- a channel that is not visited is not heard
  pub not_heard : well_formed s ≡ true → (c : ℕ) → c < channels → visited s c ≡ false → heard s c ≡ false
  not_heard w c l v = fails (heard s c) (λ h. clash ((all_four s w).heard_visited c l h) v)
