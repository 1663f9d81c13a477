-- `counts` meets its contract: refusal 9, or the ones of each map.
use Rattle.std.proofs.Common.{rules}
use Rattle.sweep_rules.specs.Counts.{counts_of, counts_told}
use Rattle.sweep_rules.specs.Told.{counts_of_answer}
use Rattle.sweep.proofs.ReadCalls.{read_of}
use Rattle.sweep.proofs.counts.Goals as goal

pub returns-clause-answer : goal.returns-clause-answer
unfolding counts_told counts_of
returns-clause-answer c =
    read_of counts_of_answer (counts_of c.args.sweep) c.args.sweep c.tested.result c.map-answer.result c.tested.ensures c.map-answer.ensures.cases
    (λ u a p. search rules)
