-- The parts are counted that the line is split into.
use Rattle.std.proofs.Common.{◌==◌, length, ap, ◌∙◌, rules, tests}
use Rattle.std.proofs.lemmas.Iterator.Consumers.{count_from_yields_List}
use Rattle.std.proofs.lemmas.Iterator.Splits.{YieldsList-from_slice_split}
use Rattle.session_words.specs.Words.{space}
use Rattle.session_words.proofs.Cuts.{words_are}
use Rattle.session_words.proofs.count.Goals as goal

pub returns : goal.returns
returns c =
    let s = c.split.ensures in
    count_from_yields_List _ c.count.result c.count.ensures.ran
    (YieldsList-from_slice_split _ (λ b. b == space) c.args.line.now s.rest s.done s.closure (λ x b q k. search (rules, tests)))
    ∙ ap length (words_are c.args.line.now)
