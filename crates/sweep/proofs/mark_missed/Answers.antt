-- `mark_missed` meets its contract: the record is made of the map with a bit more.
use Rattle.sweep_rules.proofs.Filed.{missed_is}
use Rattle.sweep.proofs.mark_missed.Goals as goal

pub returns : goal.returns
returns c = missed_is c.args.sweep.now c.args.c _ c.set_bit.ensures
