-- The library's `clamp` is the rule's, in natural numbers.
use Rattle.std.proofs.Common.{ap, pos, arith}
use Rattle.power_rules.proofs.Rules.{pan_law}
use Rattle.power.proofs.Accepted.pan.Goals as goal

pub returns-clause-sent : goal.returns-clause-sent
returns-clause-sent c = rw (pan_law c.args.self.p c.args.after c.args.self.usable.limits) (ap pos (omega arith))
