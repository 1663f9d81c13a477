-- What the definition comes to in each case of its tests, and which case the answer of `sweep::next` tells: refused, the record is not well formed;
-- done, the sweep is finished; a channel, it is not.
use Prim.Native.Nat.{ℕ}
use mathlib.Core.Path.{◌≡◌, refl, sym, ap, ◌∙◌}
use mathlib.Core.Bool.{true, false}
use mathlib.Core.List.{List}
use mathlib.Core.Logic.{⊎_elim}
use native.Mathlib.Omega.{arith}
use lib.IntN.{ℤ}
use Rattle.refusal.specs.declared.Refusal.{Refusal}
use Rattle.refusal.specs.declared.Refusal.TheVariants.{SweepUnfinished, ParameterOutOfRange, OutcomesFaulty, RecordNotWellFormed}
use Rattle.refusal.specs.Told.{Told, gives, refused, refused_for}
use Rattle.refusal.proofs.OneToOne.{gives_refused}
use Rattle.refusal.proofs.Provided.{same_reason}
use Rattle.std.specs.Prelude.{Option, Some, None, Ok, Err}
use Rattle.sweep_rules.specs.declared.Sweep.{Sweep}
use Rattle.sweep_rules.specs.Record.{finished, well_formed}
use Rattle.sweep_rules.specs.Next.{Next, channel, done, next_of, next_told}
use Rattle.sweep_rules.specs.Told.{told_next}
use Rattle.sweep_rules.proofs.Tests.{which, fails}
use Rattle.sweep_rules.proofs.Lowest.{finished_done}
use Rattle.choice_rules.specs.Choose.{outcomes_fine, margin_in_range, chosen, choosing}

-- ---- the answers, in the paper's order

module _ (s : Sweep) (m : ℤ) (o : List ℕ) where
  pub says_9 : well_formed s ≡ false → refused_for RecordNotWellFormed ≡ choosing s m o
  unfolding choosing
  says_9 w = rw w

  module _ (w : well_formed s ≡ true) where
    pub says_8 : outcomes_fine o ≡ false → refused_for OutcomesFaulty ≡ choosing s m o
    unfolding choosing
    says_8 f = rw (w, f)

    module _ (f : outcomes_fine o ≡ true) where
      pub says_7 : margin_in_range m ≡ false → refused_for ParameterOutOfRange ≡ choosing s m o
      unfolding choosing
      says_7 r = rw (w, f, r)

      module _ (r : margin_in_range m ≡ true) where
        pub says_4 : finished s ≡ false → refused_for SweepUnfinished ≡ choosing s m o
        unfolding choosing
        says_4 d = rw (w, f, r, d)

        pub says_chosen : finished s ≡ true → gives (chosen s m o) ≡ choosing s m o
        unfolding choosing
        says_chosen d = rw (w, f, r, d)

-- ---- what `sweep::next` tells

module _ (s : Sweep) where
  told_formed : well_formed s ≡ true → next_told s ≡ gives (next_of s)
  unfolding next_told
  told_formed w = rw w

  told_unformed : well_formed s ≡ false → next_told s ≡ refused_for RecordNotWellFormed
  unfolding next_told
  told_unformed w = rw w

  -- a refusal of `sweep::next` is refusal 9
  pub next_refused : (r : Refusal) → told_next (Err r) ≡ next_told s → (m : ℤ) (o : List ℕ) → refused_for r ≡ choosing s m o
  next_refused r e m o =
      let w = fails (well_formed s) (λ w. gives_refused (sym (e ∙ told_formed w))) in
      ap refused (same_reason refl (e ∙ told_unformed w)) ∙ says_9 s m o w

  -- and it gives a channel, or none, of a well formed sweep alone
  pub next_formed : (n : Option ℕ) → told_next (Ok n) ≡ next_told s → well_formed s ≡ true
  next_formed n e =
      ⊎_elim (λ (w : well_formed s ≡ true). w) (λ (w : well_formed s ≡ false). absurd (gives_refused (e ∙ told_unformed w))) (which (well_formed s))

  pub next_unfinished : (c : ℕ) → well_formed s ≡ true → told_next (Ok (Some c)) ≡ next_told s → finished s ≡ false
  next_unfinished c w e = fails (finished s) (λ d. not_done (e ∙ told_formed w ∙ ap gives ((finished_done s).0 d)))
    where
      not_done : ◌≡◌ {A = Told Next} (gives (channel c)) (gives done) → ⊥
      not_done q = let z : ◌≡◌ {A = ℕ} 0 1 = cc in omega arith

  pub next_finished : well_formed s ≡ true → told_next (Ok None) ≡ next_told s → finished s ≡ true
  next_finished w e = (finished_done s).1 (given (next_of s) (sym (told_formed w) ∙ sym e))
    where
      given : (n : Next) → gives n ≡ gives done → n ≡ done
      given n p = cc
