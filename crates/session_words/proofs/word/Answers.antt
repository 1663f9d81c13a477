-- The part is picked of those that the line is split into.
use Rattle.std.proofs.Common.{◌==◌, ap, ◌∙◌, refl, rules, tests}
use Rattle.std.specs.Borrow.{Bor}
use Rattle.std.proofs.lemmas.Iterator.Consumers.{nth_from_yields_List}
use Rattle.std.proofs.lemmas.Iterator.Splits.{YieldsList-from_slice_split}
use Rattle.session_words.specs.Words.{space}
use Rattle.session_words.proofs.Cuts.{picked}
use Rattle.session_words.proofs.word.Goals as goal

pub returns : goal.returns
returns c =
    let s = c.split.ensures in
    let found = nth_from_yields_List c.nth.result _ c.args.k c.nth.ensures.ran
    (YieldsList-from_slice_split _ (λ b. b == space) c.args.line.now s.rest s.done s.closure (λ x b q k. search (rules, tests))) in
    ap (λ (r : Bor _). r.now) c.unwrap_or.ensures ∙ picked c.args.line.now c.args.k c.nth.result _ refl found
