-- `set_bit` meets its contract: the or with a channel's power of two sets its bit.
use Rattle.sweep.proofs.BitSet.{bit_put}
use Rattle.sweep.proofs.set_bit.Goals as goal

pub returns : goal.returns
returns c = bit_put _ c.args.c
