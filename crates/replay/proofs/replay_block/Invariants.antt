-- The buffer keeps its length, and each turn takes a byte at least.
use Rattle.std.proofs.Common.{◌≡◌, length}
use Rattle.replay.proofs.replay_block.Given as goal

abbrev pub invariant-loop-rest : goal.invariant-loop-rest
invariant-loop-rest g l = length l.out ≡ 65536

abbrev pub decreases-loop-rest : goal.decreases-loop-rest
decreases-loop-rest g l = length l.rest
