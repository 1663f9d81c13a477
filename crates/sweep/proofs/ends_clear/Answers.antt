-- `ends_clear` meets its contract: the channels below 2 are the lowest two bits of the first word, the one above 1,086 is the highest of the last.
use Rattle.sweep_rules.proofs.Formed.{ends_test}
use Rattle.sweep.proofs.ends_clear.Goals as goal

pub returns : goal.returns
returns c = ends_test c.args.map.now
