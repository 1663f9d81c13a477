-- The calls that only read a record: refused with 9 exactly where it is not well formed, and answered by their definition exactly where it is.
use mathlib.Core.Path.{◌≡◌, refl, sym, ap, ◌∙◌}
use mathlib.Core.Bool.{Bool, true, false}
use mathlib.Core.Logic.{◌↔◌, ⊎_elim}
use Rattle.refusal.specs.declared.Refusal.TheVariants.{RecordNotWellFormed}
use Rattle.refusal.specs.declared.Reason.{Reason}
use Rattle.refusal.specs.declared.Reason.TheVariants.{Alone}
use Rattle.refusal.specs.Told.{Told, refused, gives, accepted, provided}
use Rattle.refusal.proofs.OneToOne.{gives_refused}
use Rattle.refusal.proofs.Provided.{same_reason, refuse_now, refuse_later}
use Rattle.sweep_rules.specs.Record.{well_formed}
use Rattle.sweep_rules.specs.Filing.{checking}
use Rattle.sweep_rules.specs.Next.{next_of, next_told}
use Rattle.sweep_rules.specs.Counts.{Counts, counts_of, counts_told}
use Rattle.sweep_rules.specs.Claims.{WellFormed, AnswerRule}
use Rattle.sweep_rules.specs.declared.Sweep.{Sweep}
use Rattle.sweep_rules.proofs.Tests.{which, clash}
use Rattle.sweep_rules.proofs.Formed.{well_formed_rule}

-- a test that fails where its words do not hold, and the other way round
module _ {P : Type 0} (t : Bool) where
  pub fails : (t ≡ true → P) → ¬ P → t ≡ false
  fails f n = ⊎_elim (λ (e : t ≡ true). absurd (n (f e))) (λ (e : t ≡ false). e) (which t)

  pub says_no : (P → t ≡ true) → t ≡ false → ¬ P
  says_no f e h = clash (f h) e

module _ {A : Type 0} (s : Sweep) (a : A) (t : Told A) (is : t ≡ provided (well_formed s) RecordNotWellFormed (gives a)) where
  read : well_formed s ≡ true → t ≡ gives a
  read w = is ∙ refuse_later RecordNotWellFormed w refl

  unread : well_formed s ≡ false → t ≡ refused (Alone 9)
  unread w = is ∙ refuse_now RecordNotWellFormed (gives a) w

  pub only_9 : (n : Reason) → (t ≡ refused n) ↔ ((n ≡ Alone 9) × (¬ (WellFormed s)))
  only_9 n = (
    λ e. ⊎_elim
        (λ (w : well_formed s ≡ true). absurd (gives_refused (sym (read w) ∙ e)))
        (λ (w : well_formed s ≡ false). (same_reason e (unread w), says_no (well_formed s) (well_formed_rule s).1 w))
        (which (well_formed s)),
    λ h. unread (fails (well_formed s) (well_formed_rule s).0 h.1) ∙ ap refused (sym h.0),
  )

  pub answered : (x : A) → (t ≡ gives x) ↔ (WellFormed s × (a ≡ x))
  answered x = (
    λ e. ⊎_elim
        (λ (w : well_formed s ≡ true). ((well_formed_rule s).0 w, given (sym (read w) ∙ e)))
        (λ (w : well_formed s ≡ false). absurd (gives_refused (sym e ∙ unread w)))
        (which (well_formed s)),
    λ h. read ((well_formed_rule s).1 h.0) ∙ ap gives h.1,
  )
    where
      given : gives a ≡ gives x → a ≡ x
      given q = cc

pub next-is : (s : Sweep) → next_told s ≡ provided (well_formed s) RecordNotWellFormed (gives (next_of s))
unfolding next_told
next-is s = refl

pub counts-is : (s : Sweep) → counts_told s ≡ provided (well_formed s) RecordNotWellFormed (gives (counts_of s))
unfolding counts_told
counts-is s = refl

pub test_is : (s : Sweep) → checking s ≡ provided (well_formed s) RecordNotWellFormed accepted
unfolding checking
test_is s = refl

pub answer_rule : AnswerRule
unfolding counts_of
answer_rule s = record {
  numbers = λ n.
      let told = answered s (counts_of s) (counts_told s) (counts-is s) n in (
        λ e. let q = told.0 e in (q.0, sym (ap (λ (x : Counts). x.visited) q.1), sym (ap (λ (x : Counts). x.heard) q.1)),
        λ h. told.1 (h.0, λ i. record { visited = sym h.1 i; heard = sym h.2 i }),
      );
  tests =
      let told = answered s tt (checking s) (test_is s) tt in
      (λ e. (told.0 e).0, λ w. told.1 (w, refl));
}
