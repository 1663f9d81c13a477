-- The sign by `Signs`.
use Rattle.std.proofs.Common.{◌≡◌, Option, None, Some, refl, ◌∙◌, []}
use Rattle.std.specs.Prelude.{option_map}
use Rattle.byte_scan.specs.Bytes.{index_of}
use lib.Ieee.{neg}
use Rattle.session_numbers.specs.Numbers.{digits_of, unsigned_of, decimal_of}
use Rattle.session_numbers.proofs.Signs.{sign_minus, sign_plain}
use Rattle.session_numbers.proofs.decimal.Goals as goal

pub returns-in_err-unsigned-in-Some : goal.returns-in_err-unsigned-in-Some
unfolding decimal_of
returns-in_err-unsigned-in-Some c =
    let strip = c.in-Some.ensures.cases in
    c.from_residual.ensures ∙ sign_minus neg (λ x. x) unsigned_of c.args.word.now c.in-Some.size.now None strip.0 strip.1 c.in_err-unsigned-in-Some.ensures

pub returns-in_ok-unsigned-in-Some : goal.returns-in_ok-unsigned-in-Some
unfolding decimal_of
returns-in_ok-unsigned-in-Some c =
    let strip = c.in-Some.ensures.cases in
    let k = c.in_ok-unsigned-in-Some in
    sign_minus neg (λ x. x) unsigned_of c.args.word.now c.in-Some.size.now (Some k.field-0) strip.0 strip.1 k.ensures

-- what a word tells, as it is
same : {A : Type 0} (o : Option A) → o ≡ option_map (λ x. x) o
same None = refl
same (Some a) = refl

none : None ≡ unsigned_of []
unfolding unsigned_of digits_of index_of
none = refl

pub returns-in-None : goal.returns-in-None
unfolding decimal_of
returns-in-None c =
    let r = c.unsigned-in-None in
    same r.result ∙ sign_plain neg (λ x. x) unsigned_of c.args.word.now r.result c.in-None.ensures.cases none r.ensures
