-- The lowest number that does not pass a test: what is left of the search from c on, in each case of the test at c; that it is the lowest, and
-- the next channel by it; a finished sweep, channel by channel and by the number visited.
use Prim.Native.Nat.{ℕ, zero, suc, ◌+◌, ◌-◌, ◌≤◌, ◌<◌}
use mathlib.Core.Path.{◌≡◌, refl, sym, ap, ◌∙◌}
use mathlib.Core.Bool.{Bool, true, false, cond}
use mathlib.Core.Logic.{◌↔◌, ⊎_elim}
use native.Mathlib.Nat.{not-suc-le-zero, eq-or-lt_of_le, le_of_eq, add-zero, eq-zero-or-pos}
use native.Mathlib.Numerals.{add-one}
use native.Mathlib.Omega.{arith}
use Rattle.sweep_rules.specs.Map.{channels, how_many, set_bits}
use Rattle.sweep_rules.specs.Record.{first_swept, swept_channels, swept, visited, implies, finished}
use Rattle.sweep_rules.specs.Next.{channel, done, lowest_not, next_of, next_told}
use Rattle.sweep_rules.specs.Claims.{WellFormed, Finished, LowestUnvisited, NextLowest, FinishedRule}
use Rattle.sweep_rules.specs.declared.Sweep.{Sweep}
use Rattle.sweep_rules.proofs.Tests.{implied, follows, which, same_test, each_all, all_each, many_same, many_all}
use Rattle.sweep_rules.proofs.Formed.{swept_ends, ends_swept, visited_swept}
use Rattle.sweep_rules.proofs.ReadCalls.{answered, next-is}

-- the first channel after those that the sweep visits
abbrev pub swept_end : ℕ
swept_end = first_swept + swept_channels

module _ (p : ℕ → Bool) (c : ℕ) where
  left_over : c < swept_end → swept_end - c ≡ suc (swept_end - (c + 1))
  left_over h = omega arith

  pub lowest_here : c < swept_end → p c ≡ false → lowest_not p (swept_end - c) c ≡ channel c
  unfolding lowest_not
  lowest_here h e = ap (λ (n : ℕ). lowest_not p n c) (left_over h) ∙ rw e

  pub lowest_step : c < swept_end → p c ≡ true → lowest_not p (swept_end - (c + 1)) (c + 1) ≡ lowest_not p (swept_end - c) c
  unfolding lowest_not
  lowest_step h e = ap (lowest_not p (swept_end - (c + 1))) (add-one c) ∙ sym (ap (λ (n : ℕ). lowest_not p n c) (left_over h) ∙ rw e)

  pub lowest_none : swept_end ≤ c → lowest_not p (swept_end - c) c ≡ done
  unfolding lowest_not
  lowest_none h = let e : swept_end - c ≡ 0 = omega arith in ap (λ (n : ℕ). lowest_not p n c) e

-- r steps at once
pub lowest_run : (p : ℕ → Bool) (c r : ℕ) → ((j : ℕ) → j < r → p (c + j) ≡ true) → lowest_not p (swept_end - (c + r)) (c + r) ≡ lowest_not p (swept_end - c) c
lowest_run p c zero h = ap (λ (n : ℕ). lowest_not p (swept_end - n) n) (add-zero c)
lowest_run p c (suc r) h =
    let e : c + suc r ≡ c + r + 1 = omega arith in
    ap (λ (n : ℕ). lowest_not p (swept_end - n) n) e
    ∙ ⊎_elim
    (λ (z : swept_end - (c + r) ≡ 0). lowest_none p (c + r + 1) (omega arith) ∙ sym (lowest_none p (c + r) (omega arith)))
    (λ (l : 0 < swept_end - (c + r)). lowest_step p (c + r) (omega arith) (h r (omega arith)))
    (eq-zero-or-pos (swept_end - (c + r)))
    ∙ lowest_run p c r (λ j l. h j (omega arith))

-- ---- it is the lowest

module _ (p : ℕ → Bool) where
  pub found_lowest : (n c d : ℕ) → lowest_not p n c ≡ channel d → (c ≤ d) × (d < c + n) × (p d ≡ false) × ((e : ℕ) → c ≤ e → e < d → p e ≡ true)
  unfolding lowest_not
  found_lowest zero c d e = let z : ◌≡◌ {A = ℕ} 0 1 = cc in absurd (not-suc-le-zero {n = 0} (omega arith))
  found_lowest (suc n) c d e = ⊎_elim
      (λ (t : p c ≡ true).
      let s : cond (p c) (lowest_not p n (suc c)) (channel c) ≡ lowest_not p n (suc c) = rw t in
      let r = found_lowest n (suc c) d (sym s ∙ e) in
      let a = r.0 in
      let b = r.1 in (
        omega arith,
        omega arith,
        r.2,
        λ i l m. ⊎_elim (λ (q : c ≡ i). sym (ap p q) ∙ t) (λ (k : c < i). r.3 i k m) (eq-or-lt_of_le l),
      ))
      (λ (t : p c ≡ false).
      let s : cond (p c) (lowest_not p n (suc c)) (channel c) ≡ channel c = rw t in
      let q : c ≡ d = cc in (
        omega arith,
        omega arith,
        sym (ap p q) ∙ t,
        λ i l m. absurd (not-suc-le-zero {n = 0} (omega arith)),
      ))
      (which (p c))

  -- and where there is a lowest, it is found
  pub finds_lowest : (n c d : ℕ) → c ≤ d → d < c + n → p d ≡ false → ((e : ℕ) → c ≤ e → e < d → p e ≡ true) → lowest_not p n c ≡ channel d
  unfolding lowest_not
  finds_lowest zero c d l m f h = absurd (not-suc-le-zero {n = 0} (omega arith))
  finds_lowest (suc n) c d l m f h = ⊎_elim
      (λ (q : c ≡ d). let t = ap p q ∙ f in rw t (ap channel q))
      (λ (k : c < d). let t = h c (omega arith) k in rw t (finds_lowest n (suc c) d k (omega arith) f (λ e a b. h e (omega arith) b)))
      (eq-or-lt_of_le l)

  pub none_left : (n c : ℕ) → lowest_not p n c ≡ done → (e : ℕ) → c ≤ e → e < c + n → p e ≡ true
  unfolding lowest_not
  none_left zero c d e l m = absurd (not-suc-le-zero {n = 0} (omega arith))
  none_left (suc n) c d e l m = ⊎_elim
      (λ (t : p c ≡ true).
      let s : cond (p c) (lowest_not p n (suc c)) (channel c) ≡ lowest_not p n (suc c) = rw t in
      ⊎_elim (λ (q : c ≡ e). sym (ap p q) ∙ t) (λ (k : c < e). none_left n (suc c) (sym s ∙ d) e k (omega arith)) (eq-or-lt_of_le l))
      (λ (t : p c ≡ false).
      let s : cond (p c) (lowest_not p n (suc c)) (channel c) ≡ channel c = rw t in
      let z : ◌≡◌ {A = ℕ} 0 1 = cc in
      absurd (not-suc-le-zero {n = 0} (omega arith)))
      (which (p c))

  pub all_done : (n c : ℕ) → ((e : ℕ) → c ≤ e → e < c + n → p e ≡ true) → lowest_not p n c ≡ done
  unfolding lowest_not
  all_done zero c h = refl
  all_done (suc n) c h =
      let t = h c (omega arith) (omega arith) in
      rw t (all_done n (suc c) (λ e l m. h e (omega arith) (omega arith)))

-- ---- a finished sweep

module _ (s : Sweep) where
  finished_all : finished s ≡ true → Finished s
  unfolding finished
  finished_all f c a b =
      follows (swept c) (visited s c) (all_each channels (λ c. implies (swept c) (visited s c)) f c (omega arith)) (ends_swept c (a, b))

  swept_all : Finished s → (c : ℕ) → c < channels → swept c ≡ true → visited s c ≡ true
  swept_all h c l e = let i = swept_ends c e in h c i.0 i.1

  all_finished : ((c : ℕ) → c < channels → swept c ≡ true → visited s c ≡ true) → finished s ≡ true
  unfolding finished
  all_finished h = each_all channels (λ c. implies (swept c) (visited s c)) (λ c l. implied (swept c) (visited s c) (h c l))

  -- the channels that the sweep visits are 1,085
  number_swept : how_many channels swept ≡ 1085
  unfolding how_many
  number_swept = refl

  all_visited : WellFormed s → finished s ≡ true → set_bits s.visited ≡ 1085
  unfolding set_bits
  all_visited w f =
      many_same (visited s) swept channels (λ c l. same_test (visited s c) (swept c) (visited_swept s w c l) (swept_all (finished_all f) c l))
      ∙ number_swept

  visited_all : WellFormed s → set_bits s.visited ≡ 1085 → finished s ≡ true
  unfolding set_bits
  visited_all w e = all_finished (many_all (visited s) swept channels (visited_swept s w) (le_of_eq (number_swept ∙ sym e)))

pub finished_rule : FinishedRule
finished_rule = record {
  all = λ s. (finished_all s, λ h. all_finished s (swept_all s h));
  counted = λ s w. (all_visited s w, visited_all s w);
}

-- ---- the next channel

module _ (s : Sweep) where
  none_next : next_of s ≡ done → Finished s
  unfolding next_of
  none_next d c a b = none_left (visited s) swept_channels first_swept d c a (omega arith)

  all_next : Finished s → next_of s ≡ done
  unfolding next_of
  all_next h = all_done (visited s) swept_channels first_swept (λ c a b. h c a (omega arith))

  pub finished_done : (finished s ≡ true) ↔ (next_of s ≡ done)
  finished_done = (λ f. all_next ((finished_rule.all s).0 f), λ d. (finished_rule.all s).1 (none_next d))

  is_lowest : (c : ℕ) → next_of s ≡ channel c → LowestUnvisited s c
  unfolding next_of
  is_lowest c e =
      let r = found_lowest (visited s) swept_channels first_swept c e in
      record { inside = (r.0, omega (arith, r.1)); unvisited = r.2; lower = r.3 }

  lowest_is : (c : ℕ) → LowestUnvisited s c → next_of s ≡ channel c
  unfolding next_of
  lowest_is c l = finds_lowest (visited s) swept_channels first_swept c l.inside.0 (omega (arith, l.inside.1)) l.unvisited l.lower

pub next_lowest : NextLowest
next_lowest s = record {
  lowest = λ c.
      let told = answered s (next_of s) (next_told s) (next-is s) (channel c) in
      (λ e. ((told.0 e).0, is_lowest s c (told.0 e).1), λ h. told.1 (h.0, lowest_is s c h.1));
  none =
      let told = answered s (next_of s) (next_told s) (next-is s) done in
      (λ e. ((told.0 e).0, none_next s (told.0 e).1), λ h. told.1 (h.0, all_next s h.1));
}
