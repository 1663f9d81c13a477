-- With a point and without (`Decimals`).
use Rattle.std.proofs.Common.{◌==◌, ◌+◌, take, length, Some, ap, sym, ◌∙◌, rules, tests, arith}
use Rattle.std.specs.Prelude.{option_map}
use Rattle.std.proofs.lemmas.Iterator.{YieldsList-from_slice}
use Rattle.std.proofs.lemmas.Iterator.Search.{position_from_yields_List}
use Rattle.session_words.proofs.Lists.{rest-is}
use lib.Dec.{lit<}
use Rattle.session_numbers.specs.Numbers.{quotient, fraction_of}
use Rattle.session_numbers.proofs.Powers.{below}
use Rattle.session_numbers.proofs.Decimals.{unsigned_point, unsigned_plain}
use Rattle.session_numbers.proofs.unsigned.Goals as goal

pub returns-in-Some : goal.returns-in-Some
returns-in-Some c =
    let w = c.args.word.now in
    let p = c.in-Some.p in
    let place = position_from_yields_List (λ x. x == 46) _ _ c.position.result c.position.ensures.ran (YieldsList-from_slice w c.iter.ensures.rest)
    (λ x q k h. search (rules, tests)) in
    c.with_fraction.ensures ∙ ap (fraction_of (take p w)) (rest-is w (p + 1)) ∙ unsigned_point w p (sym c.in-Some.is ∙ place)

pub returns-in_err-digits-in-None : goal.returns-in_err-digits-in-None
returns-in_err-digits-in-None c =
    let w = c.args.word.now in
    let place = position_from_yields_List (λ x. x == 46) _ _ c.position.result c.position.ensures.ran (YieldsList-from_slice w c.iter.ensures.rest)
    (λ x q k h. search (rules, tests)) in
    c.from_residual.ensures
    ∙ ap (option_map (λ v. quotient v 0)) c.in_err-digits-in-None.ensures.value
    ∙ unsigned_plain w (sym c.in-None.is ∙ place)

pub nearest-requires : goal.nearest-requires
nearest-requires c =
    let k = c.in_ok-digits-in-None in
    (below 10 k.field-0 (length c.args.word.now) 7 (lit< tt) k.ensures.most k.ensures.few, omega arith)

pub returns-in_ok-digits-in-None : goal.returns-in_ok-digits-in-None
returns-in_ok-digits-in-None c =
    let w = c.args.word.now in
    let place = position_from_yields_List (λ x. x == 46) _ _ c.position.result c.position.ensures.ran (YieldsList-from_slice w c.iter.ensures.rest)
    (λ x q k h. search (rules, tests)) in
    ap Some c.nearest.ensures
    ∙ ap (option_map (λ v. quotient v 0)) c.in_ok-digits-in-None.ensures.value
    ∙ unsigned_plain w (sym c.in-None.is ∙ place)
