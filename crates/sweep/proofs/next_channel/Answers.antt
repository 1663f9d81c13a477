-- `next_channel` meets its contract: refusal 9, or the lowest channel not visited.
use Rattle.std.proofs.Common.{rules}
use Rattle.sweep_rules.specs.Next.{next_of, next_told}
use Rattle.sweep_rules.specs.Told.{next_of_answer}
use Rattle.sweep.proofs.ReadCalls.{read_of}
use Rattle.sweep.proofs.next_channel.Goals as goal

pub returns : goal.returns
unfolding next_told next_of
returns c =
    read_of next_of_answer (next_of c.args.sweep.now) c.args.sweep.now c.tested.result c.map.result c.tested.ensures c.map.ensures.cases
    (λ u a p. search rules)
