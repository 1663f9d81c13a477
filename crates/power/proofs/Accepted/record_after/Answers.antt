-- By the cases of what was decoded: each number is its definition's.
use Rattle.std.proofs.lemmas.Grind.{common_steps}
use Rattle.std.proofs.Common.{arith}
use Rattle.power_rules.specs.PowerSteps.{pan_use, pan_basic_after, par_save_after, increase_after}
use Rattle.power.proofs.Accepted.record_after.Goals as goal

pub returns-in-Failed-clause-after : goal.returns-in-Failed-clause-after
unfolding pan_use pan_basic_after par_save_after increase_after
returns-in-Failed-clause-after c = grind (arith, common_steps)

pub returns-in-Codes-clause-after : goal.returns-in-Codes-clause-after
unfolding pan_use pan_basic_after par_save_after increase_after
returns-in-Codes-clause-after c = grind (arith, common_steps)
