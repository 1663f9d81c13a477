-- `outcomes_fine` meets its contract: its length is tested first, then each byte.
use Rattle.std.proofs.Common.{ℕ, ◌+◌, ◌≡◌, arith, refl, sym, ap, ◌∙◌, Bool, ◌&&◌, List, length, add-one}
use lib.Dec.{leb}
use borrow.Author.Tests.{eq-eqb, ne_eqb}
use Rattle.sweep_rules.specs.Map.{channels, all_below}
use Rattle.choice_rules.specs.Choose.{highest_outcome, outcome_at, outcomes_fine}
use Rattle.choice.proofs.outcomes_fine.Goals as goal

-- the bytes of the channels below n are in range
abbrev fine_to : List ℕ → ℕ → Bool
fine_to o n = all_below n (λ c. leb (outcome_at o c) highest_outcome)

-- one byte more
fine_step : (o : List ℕ) (n : ℕ) → fine_to o (n + 1) ≡ (fine_to o n && leb (outcome_at o n) highest_outcome)
unfolding all_below
fine_step o n = ap (fine_to o) (add-one n)

pub returns-then-outcomes-ne-CHANNELS : goal.returns-then-outcomes-ne-CHANNELS
unfolding outcomes_fine
returns-then-outcomes-ne-CHANNELS c =
    let o = c.args.outcomes.now in
    sym (ap (λ (b : Bool). b && fine_to o channels) (ne_eqb (length o) channels c.if-outcomes-ne-CHANNELS.true))

pub loop-outcome-init : goal.loop-outcome-init
unfolding all_below
loop-outcome-init c = record { long = c.if-outcomes-ne-CHANNELS.false; is = refl }

pub loop-outcome-preserved : goal.loop-outcome-preserved
loop-outcome-preserved c =
    let o = c.args.outcomes.now in
    let k = c.loop-outcome.outcome-index in
    record {
      long = c.loop-outcome.invariant.long;
      is = ap (λ (b : Bool). b && leb (outcome_at o k) highest_outcome) c.loop-outcome.invariant.is ∙ sym (fine_step o k);
    }

pub returns : goal.returns
unfolding outcomes_fine
returns c =
    let o = c.args.outcomes.now in
    let i = c.loop-outcome.invariant in
    let l = i.long in
    let e : c.loop-outcome.outcome-index ≡ channels = omega arith in
    i.is ∙ ap (fine_to o) e ∙ sym (ap (λ (b : Bool). b && fine_to o channels) (eq-eqb (length o) channels i.long))
