-- The refusals in document 01's words, and an accepted choice. A test that fails names the row of the table, and a row decides the tests.
use Prim.Native.Nat.{ℕ, ◌≤◌, ◌<◌}
use mathlib.Core.Path.{◌≡◌, refl, sym, ap, ◌∙◌, subst}
use mathlib.Core.Bool.{Bool, true, false}
use mathlib.Core.List.{List}
use mathlib.Core.Logic.{⊎_elim}
use lib.Dec.{eqb, leb}
use lib.ListN.{length}
use lib.IntN.{ℤ, pos}
use lib.Signed.{le_z}
use borrow.Author.Tests.{le-leb, leb-true, eqb-true, eq-eqb}
use Rattle.refusal.specs.declared.Reason.{Reason}
use Rattle.refusal.specs.Told.{refused, gives}
use Rattle.refusal.proofs.OneToOne.{gives_refused}
use Rattle.refusal.proofs.Provided.{same_reason}
use Rattle.sweep_rules.specs.Map.{channels}
use Rattle.sweep_rules.specs.Record.{every_channel, finished, well_formed}
use Rattle.sweep_rules.specs.Claims.{Finished}
use Rattle.sweep_rules.specs.declared.Sweep.{Sweep}
use Rattle.sweep_rules.proofs.Tests.{which, both, left, right, each_all, all_each}
use Rattle.sweep_rules.proofs.ReadCalls.{fails, says_no}
use Rattle.sweep_rules.proofs.Claims.{well_formed_rule, finished_rule}
use Rattle.choice_rules.specs.Choose.{outcome_at, outcomes_fine, highest_outcome, margin_in_range, Chosen, chosen, choosing}
use Rattle.choice_rules.specs.Claims.{OutcomesInRange, MarginInRange, Refuses, unformed, outcomes_faulty, margin_out_of_range, unfinished, RefusalRule}
use Rattle.choice_rules.proofs.Whole.{le_fact, fact_le}
use Rattle.choice_rules.proofs.Endings.{says_9, says_8, says_7, says_4, says_chosen}

-- ---- each test from its words, and the words from the test

pub fine_length : (o : List ℕ) → outcomes_fine o ≡ true → length o ≡ channels
unfolding outcomes_fine
fine_length o e = eqb-true (length o) channels (left (eqb (length o) channels) (every_channel (λ c. leb (outcome_at o c) highest_outcome)) e)

pub fine_at : (o : List ℕ) → outcomes_fine o ≡ true → (c : ℕ) → c < channels → outcome_at o c ≤ highest_outcome
unfolding outcomes_fine
fine_at o e c h =
    let every = right (eqb (length o) channels) (every_channel (λ d. leb (outcome_at o d) highest_outcome)) e in
    leb-true (outcome_at o c) highest_outcome (all_each channels (λ d. leb (outcome_at o d) highest_outcome) every c h)

fine_in : (o : List ℕ) → outcomes_fine o ≡ true → OutcomesInRange o
fine_in o e = record { long = fine_length o e; bytes = fine_at o e }

pub in_fine : (o : List ℕ) → OutcomesInRange o → outcomes_fine o ≡ true
unfolding outcomes_fine
in_fine o h = both
    (eq-eqb (length o) channels h.long)
    (each_all channels (λ c. leb (outcome_at o c) highest_outcome) (λ c l. le-leb (outcome_at o c) highest_outcome (h.bytes c l)))

margin_in : (m : ℤ) → margin_in_range m ≡ true → MarginInRange m
margin_in m e = record { lowest = le_fact (left (le_z (pos 0) m) (le_z m (pos 6000)) e); highest = le_fact (right (le_z (pos 0) m) (le_z m (pos 6000)) e) }

in_margin : (m : ℤ) → MarginInRange m → margin_in_range m ≡ true
in_margin m h = both (fact_le h.lowest) (fact_le h.highest)

finished_in : (s : Sweep) → finished s ≡ true → Finished s
finished_in s = (finished_rule.all s).0

in_finished : (s : Sweep) → Finished s → finished s ≡ true
in_finished s = (finished_rule.all s).1

-- ---- both ways

module _ (s : Sweep) (m : ℤ) (o : List ℕ) where
  row_is : {a n : Reason} → choosing s m o ≡ refused n → refused a ≡ choosing s m o → Refuses s m o a → Refuses s m o n
  row_is e q row = subst (Refuses s m o) (same_reason (sym q) e) row

  pub to_row : (n : Reason) → choosing s m o ≡ refused n → Refuses s m o n
  to_row n e =
      ⊎_elim
      (λ (w : well_formed s ≡ true). ⊎_elim
      (λ (f : outcomes_fine o ≡ true). ⊎_elim
      (λ (r : margin_in_range m ≡ true). ⊎_elim
      (λ (d : finished s ≡ true). absurd (gives_refused (says_chosen s m o w f r d ∙ e)))
      (λ (d : finished s ≡ false).
      row_is e (says_4 s m o w f r d) (unfinished ((well_formed_rule s).0 w) (fine_in o f) (margin_in m r) (says_no (finished s) (in_finished s) d)))
      (which (finished s)))
      (λ (r : margin_in_range m ≡ false).
      row_is e (says_7 s m o w f r) (margin_out_of_range ((well_formed_rule s).0 w) (fine_in o f) (says_no (margin_in_range m) (in_margin m) r)))
      (which (margin_in_range m)))
      (λ (f : outcomes_fine o ≡ false). row_is e (says_8 s m o w f) (outcomes_faulty ((well_formed_rule s).0 w) (says_no (outcomes_fine o) (in_fine o) f)))
      (which (outcomes_fine o)))
      (λ (w : well_formed s ≡ false). row_is e (says_9 s m o w) (unformed (says_no (well_formed s) (well_formed_rule s).1 w)))
      (which (well_formed s))

  pub from_row : {n : Reason} → Refuses s m o n → choosing s m o ≡ refused n
  from_row (unformed w) = sym (says_9 s m o (fails (well_formed s) (well_formed_rule s).0 w))
  from_row (outcomes_faulty w f) = sym (says_8 s m o ((well_formed_rule s).1 w) (fails (outcomes_fine o) (fine_in o) f))
  from_row (margin_out_of_range w f r) = sym (says_7 s m o ((well_formed_rule s).1 w) (in_fine o f) (fails (margin_in_range m) (margin_in m) r))
  from_row (unfinished w f r d) = sym (says_4 s m o ((well_formed_rule s).1 w) (in_fine o f) (in_margin m r) (fails (finished s) (finished_in s) d))

pub refusal_rule : RefusalRule
refusal_rule s m o n = (to_row s m o n, from_row s m o)

-- ---- an accepted choice

pub record Accepted (s : Sweep) (m : ℤ) (o : List ℕ) (a : Chosen) : Type 0 where
  pub formed : well_formed s ≡ true
  pub fine : outcomes_fine o ≡ true
  pub margin : margin_in_range m ≡ true
  pub done : finished s ≡ true
  pub is : chosen s m o ≡ a

pub accepted_is : (s : Sweep) (m : ℤ) (o : List ℕ) (a : Chosen) → choosing s m o ≡ gives a → Accepted s m o a
accepted_is s m o a e =
    let w = holds (well_formed s) (λ z. gives_refused (sym (says_9 s m o z ∙ e))) in
    let f = holds (outcomes_fine o) (λ z. gives_refused (sym (says_8 s m o w z ∙ e))) in
    let r = holds (margin_in_range m) (λ z. gives_refused (sym (says_7 s m o w f z ∙ e))) in
    let d = holds (finished s) (λ z. gives_refused (sym (says_4 s m o w f r z ∙ e))) in
    record { formed = w; fine = f; margin = r; done = d; is = given (chosen s m o) (says_chosen s m o w f r d ∙ e) }
  where
    holds : (b : Bool) → (b ≡ false → ⊥) → b ≡ true
    holds true n = refl
    holds false n = absurd (n refl)

    given : (c : Chosen) → gives c ≡ gives a → c ≡ a
    given c q = cc

pub accepts : (s : Sweep) (m : ℤ) (o : List ℕ) (a : Chosen) → Accepted s m o a → choosing s m o ≡ gives a
accepts s m o a A = sym (says_chosen s m o A.formed A.fine A.margin A.done) ∙ ap gives A.is
