-- The place by the laws of `Places`.
use Rattle.std.proofs.Common.{◌+◌, ◌==◌, ap, ◌∙◌, refl, rules, tests}
use Rattle.std.proofs.lemmas.Iterator.{YieldsList-from_slice}
use Rattle.std.proofs.lemmas.Iterator.Search.{position_from_yields_List}
use Rattle.byte_scan.specs.Bytes.{index_of}
use Rattle.byte_scan.proofs.Places.{found, part_is}
use Rattle.byte_scan.proofs.find.Goals as goal

pub returns-clause-place : goal.returns-clause-place
returns-clause-place c =
    let part = c.unwrap_or-part.result.now in
    let place = position_from_yields_List (λ x. x == c.args.b) _ _ c.position-place.result c.position-place.ensures.ran
    (YieldsList-from_slice part c.iter.ensures.rest) (λ x q k h. search (rules, tests)) in
    let is = part_is c.args.s.now c.args.from c.args.to c.min.result c.get.result _ c.min.ensures c.get.ensures.lookup refl in
    ap (λ n. c.args.from + n) (c.unwrap_or.ensures ∙ found c.args.b part c.position-place.result place
    ∙ ap (index_of c.args.b) (ap (λ (r : _). r.now) c.unwrap_or-part.ensures ∙ is))
