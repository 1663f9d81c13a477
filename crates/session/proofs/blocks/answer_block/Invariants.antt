-- What was written and what is still to be written are the answers of the whole (`Filling`). Each turn takes a byte at least.
use Rattle.std.proofs.Common.{length, ◌-◌}
use Rattle.session.proofs.Filling.{Filling}
use Rattle.session.proofs.blocks.answer_block.Given as goal

abbrev pub invariant-loop-at : goal.invariant-loop-at
invariant-loop-at l =
    Filling l.fn.session l.block l.fn.out l.out (record { state = l.state; line = l.line; number = l.number }) l.at l.used

abbrev pub decreases-loop-at : goal.decreases-loop-at
decreases-loop-at l = length l.block - l.at
