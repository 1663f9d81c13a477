-- `ones` meets its contract: the ones of a map are those of its words.
use Rattle.std.proofs.Common.{◌∙◌, rules, tests}
use Rattle.std.specs.Int.Count.{ones}
use Rattle.std.proofs.lemmas.Iterator.{YieldsList-from_slice, YieldsList-from_map}
use Rattle.std.proofs.lemmas.Iterator.Consumers.{sum_by_from_yields_List, fits_by_from_yields_list}
use Rattle.sweep.proofs.SumOfOnes.{sum_is_set_bits, sum_small}
use Rattle.sweep.proofs.ones.Goals as goal

pub sum-requires-clause-fits : goal.sum-requires-clause-fits
sum-requires-clause-fits c =
    let m = c.args.map.now in
    fits_by_from_yields_list ones m c.map.result 4294967296
    (YieldsList-from_map _ ones (YieldsList-from_slice m cc) c.map.ensures.closure (λ x r q k. search (rules, tests)))
    (sum_small m c.told-map c.fits-map)

pub returns : goal.returns
returns c =
    let m = c.args.map.now in
    sum_by_from_yields_List ones m c.map.result c.sum.result c.sum.ensures.ran
    (YieldsList-from_map _ ones (YieldsList-from_slice m cc) c.map.ensures.closure (λ x r q k. search (rules, tests)))
    ∙ sum_is_set_bits m c.told-map c.fits-map
