-- `chosen` meets its contract: each return is one of the endings of the definition, told apart by the next channel and the two tests.
use Rattle.std.proofs.Common.{ℕ, ◌≡◌, ◌≤◌, arith, true, false, refl, sym, ap, ◌∙◌, subst, List, ℤ, nat_abs, w32, to_z, of_z, Option, Some, None, Ok}
use mir.ValLaws.{to_z-of_z}
use lib.Signed.{le_z}
use Rattle.std.specs.Option.{is_some}
use Rattle.std.proofs.lemmas.Result.{err_from_is_err_and}
use Rattle.refusal.specs.Told.{gives}
use Rattle.sweep_rules.specs.declared.Sweep.{Sweep}
use Rattle.sweep_rules.specs.Record.{heard, finished, well_formed}
use Rattle.sweep_rules.specs.Next.{next_told}
use Rattle.sweep_rules.specs.Told.{told_next}
use Rattle.sweep_rules.proofs.Tests.{left, right, clash}
use Rattle.choice_rules.specs.Choose.{margin_lowest, margin_highest, margin_in_range}
use Rattle.choice_rules.specs.Choose as definition
use Rattle.choice_rules.specs.Code.{Keyed, walked}
use Rattle.choice_rules.proofs.Whole.{size-le}
use Rattle.choice_rules.proofs.Refusals.{fine_length}
use Rattle.choice_rules.proofs.KeyOrder.{walk_chooses, keys_keyed}
use Rattle.choice_rules.proofs.Endings.{says_8, says_7, says_4, says_chosen, next_refused, next_formed, next_unfinished, next_finished}
use Rattle.choice.proofs.chosen.Goals as goal

-- a margin in range: not below the lowest, and its size at most the highest
not_below : (m : ℤ) → margin_in_range m ≡ true → le_z margin_lowest m ≡ true
not_below m e = left (le_z margin_lowest m) (le_z m margin_highest) e

margin_small : (m : ℤ) → margin_in_range m ≡ true → nat_abs m ≤ nat_abs margin_highest
margin_small m e = size-le m margin_highest (not_below m e) (right (le_z margin_lowest m) (le_z m margin_highest) e)

-- a next channel, or none
some_unfinished : (s : Sweep) (n : Option ℕ) → well_formed s ≡ true → told_next (Ok n) ≡ next_told s → true ≡ is_some n → finished s ≡ false
some_unfinished s (Some c) w e t = next_unfinished s c w e
some_unfinished s None w e t = absurd (clash refl t)

none_finished : (s : Sweep) (n : Option ℕ) → well_formed s ≡ true → told_next (Ok n) ≡ next_told s → false ≡ is_some n → finished s ≡ true
none_finished s None w e t = next_finished s w e
none_finished s (Some c) w e t = absurd (clash t refl)

pub returns-in_err-next : goal.returns-in_err-next
returns-in_err-next c =
    let a = c.args in
    let p = err_from_is_err_and c.from_residual.result c.from_residual.ensures.1 in
    rw (p.1, p.2) (next_refused a.sweep.now _ c.in_err-next.ensures a.margin a.outcomes.now)

pub returns-then-not-outcomes_fine : goal.returns-then-not-outcomes_fine
returns-then-not-outcomes_fine c =
    let a = c.args in
    let w = next_formed a.sweep.now c.in_ok-next.next c.in_ok-next.ensures in
    says_8 a.sweep.now a.margin a.outcomes.now w (sym c.if-not-outcomes_fine.ensures)

pub returns-then-not-margin_in_range : goal.returns-then-not-margin_in_range
returns-then-not-margin_in_range c =
    let a = c.args in
    let w = next_formed a.sweep.now c.in_ok-next.next c.in_ok-next.ensures in
    let b = to_z-of_z w32 a.margin c.ranges.margin in
    says_7 a.sweep.now a.margin a.outcomes.now w (sym c.if-not-outcomes_fine.ensures)
    (ap margin_in_range (sym b) ∙ sym c.if-not-margin_in_range.ensures)

pub returns-then-is_some : goal.returns-then-is_some
returns-then-is_some c =
    let a = c.args in
    let n = c.in_ok-next.next in
    let w = next_formed a.sweep.now n c.in_ok-next.ensures in
    let b = to_z-of_z w32 a.margin c.ranges.margin in
    says_4 a.sweep.now a.margin a.outcomes.now w (sym c.if-not-outcomes_fine.ensures)
    (ap margin_in_range (sym b) ∙ sym c.if-not-margin_in_range.ensures)
    (some_unfinished a.sweep.now n w c.in_ok-next.ensures c.if-is_some.ensures)

pub heard_keys-keys-requires : goal.heard_keys-keys-requires
heard_keys-keys-requires c = next_formed c.args.sweep.now c.in_ok-next.next c.in_ok-next.ensures

pub walk-requires : goal.walk-requires
walk-requires c =
    let a = c.args in
    let w = next_formed a.sweep.now c.in_ok-next.next c.in_ok-next.ensures in
    let b = to_z-of_z w32 a.margin c.ranges.margin in
    let q : nat_abs (to_z w32 (of_z w32 a.margin)) ≡ nat_abs a.margin = ap nat_abs b in
    let h = margin_small a.margin (ap margin_in_range (sym b) ∙ sym c.if-not-margin_in_range.ensures) in
    record {
      few = c.deref.ensures.1;
      keyed = subst Keyed (sym (c.deref.ensures.0 ∙ c.heard_keys-keys.ensures)) (keys_keyed (heard a.sweep.now) a.sweep.now w);
      small = omega arith;
      string = fine_length a.outcomes.now (sym c.if-not-outcomes_fine.ensures);
    }

pub returns : goal.returns
unfolding definition.chosen
returns c =
    let a = c.args in
    let s = a.sweep.now in
    let n = c.in_ok-next.next in
    let w = next_formed s n c.in_ok-next.ensures in
    let b = to_z-of_z w32 a.margin c.ranges.margin in
    let r : margin_in_range a.margin ≡ true = ap margin_in_range (sym b) ∙ sym c.if-not-margin_in_range.ensures in
    ap gives
    (c.walk.ensures
    ∙ ap (λ (m : ℕ). walked c.deref.result.now m a.outcomes.now) (ap nat_abs b)
    ∙ ap (λ (ks : List ℕ). walked ks (nat_abs a.margin) a.outcomes.now) (c.deref.ensures.0 ∙ c.heard_keys-keys.ensures)
    ∙ walk_chooses (heard s) s w a.margin a.outcomes.now (not_below a.margin r))
    ∙ says_chosen s a.margin a.outcomes.now w (sym c.if-not-outcomes_fine.ensures) r (none_finished s n w c.in_ok-next.ensures c.if-is_some.ensures)
