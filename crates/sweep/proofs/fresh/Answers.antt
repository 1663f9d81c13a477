-- `fresh` meets its contract: both sides are the record of zeros.
use Rattle.std.proofs.Common.{refl}
use Rattle.sweep_rules.specs.Record.{fresh_sweep}
use Rattle.sweep.proofs.fresh.Goals as goal

pub returns : goal.returns
unfolding fresh_sweep
returns c = refl
