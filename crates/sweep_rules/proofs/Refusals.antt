-- The refusals in document 01's words. A test that fails names the row of the table, and a row decides the tests.
use Rattle.std.specs.Prelude.{Float}
use Prim.Native.Nat.{ℕ, ◌≤◌}
use mathlib.Core.Path.{◌≡◌, refl, sym, ap, ◌∙◌, subst}
use mathlib.Core.Bool.{Bool, true, false, ◌&&◌}
use mathlib.Core.Logic.{◌⊎◌, inl, inr, ⊎_elim}
use native.Mathlib.Omega.{arith}
use lib.Dec.{leb}
use borrow.Author.Tests.{leb-false}
use Rattle.refusal.specs.declared.Reason.{Reason}
use Rattle.refusal.specs.declared.Reason.TheVariants.{Alone}
use Rattle.refusal.specs.Told.{refused, acceptance}
use Rattle.refusal.proofs.OneToOne.{gives_refused}
use Rattle.refusal.proofs.Provided.{acceptance_refused, same_reason}
use Rattle.readings_rules.specs.declared.Burst.{Burst}
use Rattle.readings_rules.specs.declared.Burst.TheVariants.{Heard, Missed}
use Rattle.readings_rules.specs.declared.Reading.{Reading}
use Rattle.readings_rules.specs.Hundredths.{level_of, quality_of}
use Rattle.readings_rules.specs.Burst.{burst_of}
use Rattle.readings_rules.proofs.Conversion.{conversion_rule}
use Rattle.readings_rules.proofs.Bursts.{burst_rule}
use Rattle.sweep_rules.specs.Record.{swept, visited, well_formed}
use Rattle.sweep_rules.specs.Filing.{filing, checking}
use Rattle.sweep_rules.specs.Next.{next_of, next_told}
use Rattle.sweep_rules.specs.Counts.{counts_of, counts_told}
use Rattle.sweep_rules.specs.Claims.{WellFormed, Refuses, unformed, channel_below, channel_above, visited_before, level_outside, quality_outside, RefusalRule}
use Rattle.sweep_rules.specs.declared.Sweep.{Sweep}
use Rattle.sweep_rules.proofs.Tests.{which}
use Rattle.sweep_rules.proofs.Formed.{swept_ends, ends_swept, well_formed_rule}
use Rattle.sweep_rules.proofs.Filed.{file_9, file_2, file_3, file_in, burst_refused, by_burst}
use Rattle.sweep_rules.proofs.ReadCalls.{fails, says_no, only_9, next-is, counts-is, test_is}

-- ---- a filing

module _ (s : Sweep) (c : ℕ) (b : Burst Float) where
  row_is : {a n : Reason} → filing s c b ≡ refused n → filing s c b ≡ refused a → Refuses s c b a → Refuses s c b n
  row_is e q row = subst (Refuses s c b) (same_reason q e) row

  -- by the readings' rules: one of its two floats is outside its range
  burst_row : WellFormed s → 2 ≤ c → c ≤ 1086 → visited s c ≡ false → (x : Burst Float) → b ≡ x → (n : Reason) → burst_of x ≡ refused n → Refuses s c b n
  burst_row w low high v (Heard r) is n e =
      let q = (burst_rule.either r n).0 e in
      subst (Refuses s c b) (sym q.0) (⊎_elim
      (λ (l : level_of r.level ≡ refused (Alone 1)). level_outside r w low high v is (((conversion_rule.level r.level).refuses (Alone 1)).0 l).1)
      (λ (l : quality_of r.quality ≡ refused (Alone 1)).
      quality_outside r w low high v is (((conversion_rule.quality r.quality).refuses (Alone 1)).0 l).1)
      q.1)
  burst_row w low high v Missed is n e = absurd (gives_refused e)

  pub to_row : (n : Reason) → filing s c b ≡ refused n → Refuses s c b n
  to_row n e =
      ⊎_elim
      (λ (w : well_formed s ≡ true). ⊎_elim
      (λ (i : swept c ≡ true).
      let h = swept_ends c i in
      ⊎_elim
      (λ (v : visited s c ≡ true). row_is e (file_3 s c b w i v) (visited_before ((well_formed_rule s).0 w) h.0 h.1 v))
      (λ (v : visited s c ≡ false). burst_row ((well_formed_rule s).0 w) h.0 h.1 v b refl n (by_burst s c (burst_of b) n (sym (file_in s c b w i v) ∙ e)))
      (which (visited s c)))
      (λ (i : swept c ≡ false). row_is e (file_2 s c b w i) (outside w i))
      (which (swept c)))
      (λ (w : well_formed s ≡ false). row_is e (file_9 s c b w) (unformed (says_no (well_formed s) (well_formed_rule s).1 w)))
      (which (well_formed s))
    where
      outside : well_formed s ≡ true → swept c ≡ false → Refuses s c b (Alone 2)
      outside w i =
          ⊎_elim
          (λ (l : leb 2 c ≡ true). channel_above ((well_formed_rule s).0 w) (leb-false c 1086 (sym (ap (λ (x : Bool). x && leb c 1086) l) ∙ i)))
          (λ (l : leb 2 c ≡ false). channel_below ((well_formed_rule s).0 w) (leb-false 2 c l))
          (which (leb 2 c))

  not_swept : ((2 ≤ c) × (c ≤ 1086) → ⊥) → swept c ≡ false
  not_swept n = fails (swept c) (swept_ends c) n

  -- the tests passed, a filing is what the burst makes of the record
  in_burst : (r : Reading Float) → WellFormed s → 2 ≤ c → c ≤ 1086 → visited s c ≡ false → b ≡ Heard r
      → (level_of r.level ≡ refused (Alone 1)) ⊎ (quality_of r.quality ≡ refused (Alone 1)) → filing s c b ≡ refused (Alone 1)
  in_burst r w x y v is o =
      file_in s c b ((well_formed_rule s).1 w) (ends_swept c (x, y)) v
      ∙ burst_refused s c (burst_of b) (Alone 1) (ap burst_of is ∙ (burst_rule.either r (Alone 1)).1 (refl, o))

  pub from_row : {n : Reason} → Refuses s c b n → filing s c b ≡ refused n
  from_row (unformed w) = file_9 s c b (fails (well_formed s) (well_formed_rule s).0 w)
  from_row (channel_below w l) = file_2 s c b ((well_formed_rule s).1 w) (not_swept (λ (h : (2 ≤ c) × (c ≤ 1086)). let g = h.0 in omega arith))
  from_row (channel_above w l) = file_2 s c b ((well_formed_rule s).1 w) (not_swept (λ (h : (2 ≤ c) × (c ≤ 1086)). let g = h.1 in omega arith))
  from_row (visited_before w x y v) = file_3 s c b ((well_formed_rule s).1 w) (ends_swept c (x, y)) v
  from_row (level_outside r w x y v is o) = in_burst r w x y v is (inl (((conversion_rule.level r.level).refuses (Alone 1)).1 (refl, o)))
  from_row (quality_outside r w x y v is o) = in_burst r w x y v is (inr (((conversion_rule.quality r.quality).refuses (Alone 1)).1 (refl, o)))

pub refusal_rule : RefusalRule
refusal_rule = record {
  files = λ s c b n. (λ e. to_row s c b n (acceptance_refused (filing s c b) e), λ row. ap acceptance (from_row s c b row));
  next = λ s. only_9 s (next_of s) (next_told s) (next-is s);
  numbers = λ s. only_9 s (counts_of s) (counts_told s) (counts-is s);
  tests = λ s. only_9 s tt (checking s) (test_is s);
}
