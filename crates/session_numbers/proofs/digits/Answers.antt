-- By what a run in ten writes.
use Rattle.std.proofs.Common.{◌<◌, length, inl, inr, sym, ◌∙◌, arith, eqb-true}
use Rattle.std.proofs.lemmas.Bool.{eqb-false}
use Rattle.session_numbers.proofs.Radices.{digits_run, digits_empty, digits_long}
use Rattle.session_numbers.proofs.digits.Goals as goal

pub returns-then-is_empty-clause-value : goal.returns-then-is_empty-clause-value
returns-then-is_empty-clause-value c =
    elim c.then-is_empty.either [ inl h ↦ digits_empty _ _ (eqb-true _ _ (sym c.is_empty.ensures ∙ h)) | inr h ↦ digits_long _ _ h.1 ]

pub returns-clause-value : goal.returns-clause-value
returns-clause-value c =
    let some : 0 < length c.args.word.now = omega (arith, eqb-false (length c.args.word.now) 0 (sym c.is_empty.ensures ∙ c.if-is_empty.false)) in
    c.run.ensures.value ∙ digits_run c.args.most c.args.word.now some c.if-word-most.false
