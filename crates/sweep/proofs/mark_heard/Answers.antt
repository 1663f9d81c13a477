-- `mark_heard` meets its contract: the record is made of the two maps with a bit more and the stored level.
use Rattle.std.proofs.Common.{w32}
use mir.ValLaws.{to_z-of_z}
use Rattle.sweep_rules.proofs.Filed.{heard_is}
use Rattle.sweep.proofs.mark_heard.Goals as goal

pub returns : goal.returns
returns c =
    let a = c.args in
    heard_is a.sweep.now a.c a.level _ _ _ (to_z-of_z w32 a.level c.ranges.level) c.set_bit.ensures c.set_bit-2.ensures
