-- `is_set` meets its contract: the code is the definition, with the shift as a division by a power of two.
use Rattle.std.proofs.Common.{rules}
use Rattle.sweep_rules.specs.Map.{bit_at, is_set}
use Rattle.sweep.proofs.is_set.Goals as goal

pub returns : goal.returns
unfolding is_set bit_at
returns c = search rules
