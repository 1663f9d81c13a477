-- What one filing does to a record. The tests passed, it sets the bit of its channel in each map that it marks, which changes no other bit, and
-- stores a level at no other place.
use Rattle.std.specs.Prelude.{Float}
use Prim.Native.Nat.{ℕ, ◌≤◌, ◌<◌}
use mathlib.Core.Path.{◌≡◌, refl, sym, ap, ◌∙◌, subst}
use mathlib.Core.Bool.{Bool, true, false, ◌||◌}
use mathlib.Core.Logic.{◌⊎◌, inl, inr, ⊎_elim, ◌↔◌}
use mathlib.Core.List.{List}
use native.Mathlib.Omega.{arith}
use lib.ListN.{length, length-set}
use lib.Seq.{get_or-set_same, get_or-set_other}
use lib.IntN.{ℤ, pos}
use lib.Dec.{eqb, leb}
use borrow.Author.Tests.{eqb-true, eq-eqb, leb-true, leb-false}
use Rattle.refusal.specs.declared.Reason.TheVariants.{Alone}
use Rattle.refusal.specs.Told.{Told, refused, gives, accepted, acceptance}
use Rattle.refusal.proofs.OneToOne.{gives_refused}
use Rattle.readings_rules.specs.declared.Burst.{Burst}
use Rattle.readings_rules.specs.declared.Burst.TheVariants.{Heard, Missed}
use Rattle.readings_rules.specs.declared.Reading.{Reading}
use Rattle.readings_rules.specs.Burst.{burst_of, both_of}
use Rattle.readings_rules.specs.Hundredths.{level_of, quality_of}
use Rattle.sweep_rules.specs.Map.{is_set, with_bit}
use Rattle.sweep_rules.specs.Record.{visited, well_formed}
use Rattle.sweep_rules.specs.Filing.{with_missed, with_heard, with_burst, filing, leaves}
use Rattle.sweep_rules.specs.Claims.{Typed, WellFormed, Accepts, unformed, channel_below, channel_above, visited_before, Filed, FilingRule}
use Rattle.sweep_rules.specs.declared.Sweep.{Sweep}
use Rattle.sweep_rules.proofs.Tests.{which}
use Rattle.sweep_rules.proofs.MapLength.{length_with}
use Rattle.sweep_rules.proofs.Maps.{one_bit_set}
use Rattle.sweep_rules.proofs.Formed.{or_left, or_right, not_heard, ends_swept, well_formed_rule}
use Rattle.sweep_rules.proofs.Filed.{file_in}
use Rattle.sweep_rules.proofs.ReadCalls.{says_no}
use Rattle.sweep_rules.proofs.Refusals.{to_row, from_row}

-- ---- the marks

-- a map with the bit of channel c marks c, and those that it marked before
marked : (m : List ℕ) (c d : ℕ) → length m ≡ 17 → c < 1088 → (is_set (with_bit m c) d ≡ true) ↔ ((is_set m d ≡ true) ⊎ (d ≡ c))
marked m c d long low = (
  λ e. by (eqb d c) refl (sym (one_bit_set m c d long low) ∙ e),
  λ o. one_bit_set m c d long low ∙ back o,
)
  where
    by : (t : Bool) → eqb d c ≡ t → (t || is_set m d) ≡ true → (is_set m d ≡ true) ⊎ (d ≡ c)
    by true q e = inr (eqb-true d c q)
    by false q e = inl e

    back : (is_set m d ≡ true) ⊎ (d ≡ c) → (eqb d c || is_set m d) ≡ true
    back (inl e) = or_right (eqb d c) (is_set m d) e
    back (inr q) = or_left (eqb d c) (is_set m d) (eq-eqb d c q)

same_reading : (b : Burst Float) (r q : Reading Float) → b ≡ Heard r → b ≡ Heard q → q ≡ r
same_reading b r q d e = cc

pub heard_missed : {b : Burst Float} {r : Reading Float} → b ≡ Heard r → b ≡ Missed → ⊥
heard_missed p q = let z : ◌≡◌ {A = ℕ} 0 1 = cc in omega arith

module _ (s : Sweep) (c : ℕ) (b : Burst Float) (typed : Typed s) (low : c < 1088) where
  missed_filed : WellFormed s → visited s c ≡ false → b ≡ Missed → Filed s c b (with_missed s c)
  unfolding with_missed
  missed_filed w clear is = record {
    visits = λ d. marked s.visited c d typed.visited low;
    hears = λ r q. absurd (heard_missed q is);
    level_stored = λ r q. absurd (heard_missed q is);
    level_kept = λ r q. absurd (heard_missed q is);
    misses = λ q d. refl;
    levels_kept = λ q d. refl;
    level_zero = λ q. w.level_zero c low (not_heard s ((well_formed_rule s).1 w) c low clear);
    typed = record { levels = typed.levels; visited = length_with s.visited c ∙ typed.visited; heard = typed.heard };
  }

  heard_filed : (r : Reading Float) (level : ℤ) → b ≡ Heard r → level_of r.level ≡ gives level → Filed s c b (with_heard s c level)
  unfolding with_heard
  heard_filed r level is e = record {
    visits = λ d. marked s.visited c d typed.visited low;
    hears = λ r2 q d. marked s.heard c d typed.heard low;
    level_stored = λ r2 q.
        ap (λ (x : Reading Float). level_of x.level) (same_reading b r r2 is q)
        ∙ e
        ∙ ap gives (sym (get_or-set_same s.levels c level (pos 0) (subst (λ (n : ℕ). c < n) (sym typed.levels) low)));
    level_kept = λ r2 q d n. get_or-set_other s.levels c d level (pos 0) n;
    misses = λ q. absurd (heard_missed is q);
    levels_kept = λ q. absurd (heard_missed is q);
    level_zero = λ q. absurd (heard_missed is q);
    typed = record {
      levels = length-set s.levels c level ∙ typed.levels;
      visited = length_with s.visited c ∙ typed.visited;
      heard = length_with s.heard c ∙ typed.heard;
    };
  }

-- ---- the tests passed

pub record Passed (s : Sweep) (c : ℕ) : Type 0 where
  pub formed : WellFormed s
  pub inside : (2 ≤ c) × (c ≤ 1086)
  pub clear : visited s c ≡ false

module _ (s : Sweep) (c : ℕ) (b : Burst Float) where
  -- where the table has no number
  pub passed : Accepts s c b → Passed s c
  passed A = record { formed = w; inside = (least, most); clear = clear }
    where
      w : WellFormed s
      w = ⊎_elim
          (λ (e : well_formed s ≡ true). (well_formed_rule s).0 e)
          (λ (e : well_formed s ≡ false). absurd (A (Alone 9) (unformed (says_no (well_formed s) (well_formed_rule s).1 e))))
          (which (well_formed s))

      least : 2 ≤ c
      least = ⊎_elim
          (λ (e : leb 2 c ≡ true). leb-true 2 c e)
          (λ (e : leb 2 c ≡ false). absurd (A (Alone 2) (channel_below w (leb-false 2 c e))))
          (which (leb 2 c))

      most : c ≤ 1086
      most = ⊎_elim
          (λ (e : leb c 1086 ≡ true). leb-true c 1086 e)
          (λ (e : leb c 1086 ≡ false). absurd (A (Alone 2) (channel_above w (leb-false c 1086 e))))
          (which (leb c 1086))

      clear : visited s c ≡ false
      clear = ⊎_elim (λ (v : visited s c ≡ true). absurd (A (Alone 3) (visited_before w least most v))) (λ (v : visited s c ≡ false). v) (which (visited s c))

  -- by the burst and its two floats
  module _ (typed : Typed s) (P : Passed s c) where
    low : c < 1088
    low = omega (arith, P.inside.1)

    by_burst : (x : Burst Float) → b ≡ x → (t : Sweep) → with_burst s c (burst_of x) ≡ gives t → Filed s c b t
    unfolding with_burst
    by_burst (Heard r) is t e = by (level_of r.level) (quality_of r.quality) refl e
      where
        by : (l q : Told ℤ) → level_of r.level ≡ l → with_burst s c (both_of l q) ≡ gives t → Filed s c b t
        by (gives level) (gives quality) d f = let same : with_heard s c level ≡ t = cc in subst (Filed s c b) same (heard_filed s c b typed low r level is d)
        by (gives level) (refused n) d f = absurd (gives_refused (sym f))
        by (refused n) q d f = absurd (gives_refused (sym f))
    by_burst Missed is t e = let same : with_missed s c ≡ t = cc in subst (Filed s c b) same (missed_filed s c b typed low P.formed P.clear is)

  -- an accepted filing is told the record
  taken : Accepts s c b → (a : Told Sweep) → filing s c b ≡ a → (acceptance a ≡ accepted) × (Typed s → Filed s c b (leaves s a))
  taken A (refused n) e = absurd (A n (to_row s c b n e))
  taken A (gives t) e =
      let P = passed A in
      (refl, λ typed. by_burst typed P b refl t (sym (file_in s c b ((well_formed_rule s).1 P.formed) (ends_swept c P.inside) P.clear) ∙ e))

pub filing_rule : FilingRule
filing_rule s c b = record {
  refuses = λ n row. let e = from_row s c b row in (ap acceptance e, ap (leaves s) e);
  accepts = λ A. (taken s c b A (filing s c b) refl).0;
  files = λ A. (taken s c b A (filing s c b) refl).1;
}
