-- By what a run in sixteen writes.
use Rattle.std.proofs.Common.{Some, ap, ◌∙◌, arith}
use Rattle.session_numbers.proofs.Radices.{bits_length, bits_none, bits_some}
use Rattle.session_numbers.proofs.bits.Goals as goal

pub returns-then-word-ne-BITS_DIGITS : goal.returns-then-word-ne-BITS_DIGITS
returns-then-word-ne-BITS_DIGITS c = bits_length c.args.word.now c.if-word-ne-BITS_DIGITS.true

pub returns-in_err-run : goal.returns-in_err-run
returns-in_err-run c = c.from_residual.ensures ∙ bits_none c.args.word.now (omega arith) c.in_err-run.ensures.value

pub returns : goal.returns
returns c = ap Some c.f32_from_bits_with_nan.ensures ∙ bits_some c.args.word.now (omega arith) c.in_ok-run.field-0 c.in_ok-run.ensures.value
