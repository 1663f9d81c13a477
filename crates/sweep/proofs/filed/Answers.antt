-- `filed` meets its contract: each return is one case of the definition's chain of refusals, or of what a burst makes of the record.
use Rattle.std.proofs.Common.{ℕ, ◌≡◌, true, false, sym, ap, ◌∙◌, w32, FitsSigned, rules, ℤ}
use mir.ValLaws.{to_z-of_z}
use Rattle.std.specs.Prelude.{Float}
use Rattle.std.proofs.lemmas.Result.{err_from_is_err_and}
use Rattle.refusal.specs.declared.Refusal.TheVariants.{RecordNotWellFormed}
use Rattle.refusal.specs.declared.Reason.{Reason}
use Rattle.refusal.specs.Told.{refused, gives, accepted, acceptance}
use Rattle.refusal.proofs.OneToOne.{gives_refused}
use Rattle.refusal.proofs.Provided.{passed_test, refused_by}
use Rattle.readings_rules.specs.declared.Burst.{Burst}
use Rattle.readings_rules.specs.Told.{result_of}
use Rattle.sweep_rules.specs.declared.Sweep.{Sweep}
use Rattle.readings_rules.specs.Burst.{burst_of}
use Rattle.sweep_rules.specs.Record.{swept, visited, well_formed}
use Rattle.sweep_rules.specs.Filing.{leaves, with_burst, with_heard, filing, checking}
use Rattle.sweep_rules.proofs.Filed.{file_9, file_2, file_3, file_in, burst_missed, burst_heard, burst_refused}
use Rattle.sweep.proofs.filed.Goals as goal

-- what the test of the record says of the filing
refused_too : (s : Sweep) (c : ℕ) (b : Burst Float) (n : Reason) → refused n ≡ checking s → filing s c b ≡ refused n
unfolding checking
refused_too s c b n e = refused_by (well_formed s) RecordNotWellFormed accepted (sym e)
    (λ w q. file_9 s c b w ∙ ap refused q) (λ w q. absurd (gives_refused q))

formed_too : (s : Sweep) → gives tt ≡ checking s → well_formed s ≡ true
unfolding checking
formed_too s e = passed_test RecordNotWellFormed (well_formed s) accepted (sym e)

-- past the tests of the record and the channel
in_order : (s : Sweep) (c : ℕ) (b : Burst Float) → gives tt ≡ checking s → true ≡ swept c → false ≡ visited s c → filing s c b ≡ with_burst s c (burst_of b)
in_order s c b e i v = file_in s c b (formed_too s e) (sym i) (sym v)

pub returns-in_err-tested-clause-sweep : goal.returns-in_err-tested-clause-sweep
returns-in_err-tested-clause-sweep c =
    let a = c.args in
    sym (ap (leaves a.sweep.now) (refused_too a.sweep.now a.channel a.burst _ c.in_err-tested.ensures))

pub returns-in_err-tested-clause-answer : goal.returns-in_err-tested-clause-answer
returns-in_err-tested-clause-answer c =
    let a = c.args in
    let p = err_from_is_err_and c.from_residual.result c.from_residual.ensures.1 in
    rw (p.1, p.2) (sym (ap acceptance (refused_too a.sweep.now a.channel a.burst _ c.in_err-tested.ensures)))

pub returns-then-not-is_swept-clause-sweep : goal.returns-then-not-is_swept-clause-sweep
returns-then-not-is_swept-clause-sweep c =
    let s = c.args.sweep.now in
    sym (ap (leaves s) (file_2 s _ _ (formed_too s c.in_ok-tested.ensures) (sym c.if-not-is_swept.ensures)))

pub returns-then-not-is_swept-clause-answer : goal.returns-then-not-is_swept-clause-answer
returns-then-not-is_swept-clause-answer c =
    let s = c.args.sweep.now in
    sym (ap acceptance (file_2 s _ c.args.burst (formed_too s c.in_ok-tested.ensures) (sym c.if-not-is_swept.ensures)))

pub returns-then-is_set-clause-sweep : goal.returns-then-is_set-clause-sweep
returns-then-is_set-clause-sweep c =
    let s = c.args.sweep.now in
    sym (ap (leaves s) (file_3 s _ _ (formed_too s c.in_ok-tested.ensures) (sym c.if-not-is_swept.ensures) (sym c.if-is_set.ensures)))

pub returns-then-is_set-clause-answer : goal.returns-then-is_set-clause-answer
returns-then-is_set-clause-answer c =
    let s = c.args.sweep.now in
    sym (ap acceptance (file_3 s _ c.args.burst (formed_too s c.in_ok-tested.ensures) (sym c.if-not-is_swept.ensures) (sym c.if-is_set.ensures)))

pub returns-in_err-reading-clause-sweep : goal.returns-in_err-reading-clause-sweep
returns-in_err-reading-clause-sweep c =
    let a = c.args in
    let s = a.sweep.now in
    let e = in_order s a.channel a.burst c.in_ok-tested.ensures c.if-not-is_swept.ensures c.if-is_set.ensures
    ∙ burst_refused s a.channel _ _ (sym c.in_err-reading.ensures.value) in
    sym (ap (leaves s) e)

pub returns-in_err-reading-clause-answer : goal.returns-in_err-reading-clause-answer
returns-in_err-reading-clause-answer c =
    let a = c.args in
    let s = a.sweep.now in
    let e = in_order s a.channel a.burst c.in_ok-tested.ensures c.if-not-is_swept.ensures c.if-is_set.ensures
    ∙ burst_refused s a.channel _ _ (sym c.in_err-reading.ensures.value) in
    let p = err_from_is_err_and c.from_residual-in_err-reading.result c.from_residual-in_err-reading.ensures.1 in
    rw (p.1, p.2) (sym (ap acceptance e))

-- an accepted burst: heard, or missed
pub returns-in-Heard-clause-sweep : goal.returns-in-Heard-clause-sweep
returns-in-Heard-clause-sweep c =
    let a = c.args in
    let s = a.sweep.now in
    let r = c.in-Heard.reading in
    let fits : FitsSigned w32 r.level = search rules in
    let b = sym c.in_ok-reading.ensures.value ∙ ap (λ (y : Burst ℤ). gives (result_of y)) c.in-Heard.is in
    let e = in_order s a.channel a.burst c.in_ok-tested.ensures c.if-not-is_swept.ensures c.if-is_set.ensures
    ∙ burst_heard s a.channel _ r.level r.quality b in
    c.mark_heard.ensures ∙ ap (with_heard s a.channel) (to_z-of_z w32 r.level fits) ∙ sym (ap (leaves s) e)

pub returns-in-Heard-clause-answer : goal.returns-in-Heard-clause-answer
returns-in-Heard-clause-answer c =
    let a = c.args in
    let s = a.sweep.now in
    let r = c.in-Heard.reading in
    let b = sym c.in_ok-reading.ensures.value ∙ ap (λ (y : Burst ℤ). gives (result_of y)) c.in-Heard.is in
    sym (ap acceptance (in_order s a.channel a.burst c.in_ok-tested.ensures c.if-not-is_swept.ensures c.if-is_set.ensures
    ∙ burst_heard s a.channel _ r.level r.quality b))

pub returns-in-Missed-clause-sweep : goal.returns-in-Missed-clause-sweep
returns-in-Missed-clause-sweep c =
    let a = c.args in
    let s = a.sweep.now in
    let b = sym c.in_ok-reading.ensures.value ∙ ap (λ (y : Burst ℤ). gives (result_of y)) c.in-Missed.is in
    c.mark_missed.ensures
    ∙ sym (ap (leaves s) (in_order s a.channel a.burst c.in_ok-tested.ensures c.if-not-is_swept.ensures c.if-is_set.ensures
    ∙ burst_missed s a.channel _ b))

pub returns-in-Missed-clause-answer : goal.returns-in-Missed-clause-answer
returns-in-Missed-clause-answer c =
    let a = c.args in
    let s = a.sweep.now in
    let b = sym c.in_ok-reading.ensures.value ∙ ap (λ (y : Burst ℤ). gives (result_of y)) c.in-Missed.is in
    sym (ap acceptance (in_order s a.channel a.burst c.in_ok-tested.ensures c.if-not-is_swept.ensures c.if-is_set.ensures
    ∙ burst_missed s a.channel _ b))
