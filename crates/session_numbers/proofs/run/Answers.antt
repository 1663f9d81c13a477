-- Digit by digit, by the laws of `Runs`.
use Rattle.std.proofs.Common.{◌*◌, ap, sym, ◌∙◌, arith, length}
use Rattle.session_numbers.proofs.Powers.{grows, finds_room}
use Rattle.session_numbers.proofs.Runs.{run_on, run_off, run_end}
use Rattle.session_numbers.proofs.run.Goals as goal

pub overflow_mul-value : goal.overflow_mul-value
overflow_mul-value c =
    let l = c.loop-b in
    omega (
      arith,
      ap (λ r. l.value * r) c.from.ensures,
      finds_room c.args.radix l.value 0 l.b-index (length c.args.word.now) 18446744073709551616 l.invariant.1 (omega arith) c.loop-b-test.true c.requires.room,
    )

pub overflow_add-value : goal.overflow_add-value
overflow_add-value c =
    let l = c.loop-b in
    let d = c.in_ok-digit.field-0 in
    omega (
      arith,
      ap (λ r. l.value * r) c.from.ensures,
      c.from-in-loop-b.ensures,
      finds_room c.args.radix l.value d l.b-index (length c.args.word.now) 18446744073709551616 l.invariant.1 c.in_ok-digit.ensures.most
          c.loop-b-test.true c.requires.room,
    )

pub returns-in_err-digit-clause-value : goal.returns-in_err-digit-clause-value
returns-in_err-digit-clause-value c =
    let l = c.loop-b in
    c.from_residual.ensures
    ∙ sym (run_off c.args.radix l.value c.args.word.now l.b-index c.loop-b-test.true (sym c.in_err-digit.ensures.value))
    ∙ l.invariant.0

pub loop-b-preserved : goal.loop-b-preserved
loop-b-preserved c =
    let l = c.loop-b in
    let d = c.in_ok-digit.field-0 in
    rw (c.from.ensures, c.from-in-loop-b.ensures) (
      sym (run_on c.args.radix l.value c.args.word.now l.b-index d c.loop-b-test.true (sym c.in_ok-digit.ensures.value)) ∙ l.invariant.0,
      grows c.args.radix l.value d l.b-index l.invariant.1 c.in_ok-digit.ensures.most,
    )

pub returns-clause-value : goal.returns-clause-value
returns-clause-value c =
    let l = c.loop-b in
    sym (run_end c.args.radix l.value c.args.word.now l.b-index c.loop-b-test.false) ∙ l.invariant.0
