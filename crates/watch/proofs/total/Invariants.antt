-- As far as the levels were looked through, this is their sum, and no larger than that many levels of 16 bits can make it.
use Rattle.std.proofs.Common.{◌≡◌, ◌*◌, take, pos, neg_ℤ, ◌≤ℤ◌}
use Rattle.watch_rules.specs.Lists.{sum}
use Rattle.watch.proofs.total.Given as goal

abbrev pub invariant-loop-level : goal.invariant-loop-level
invariant-loop-level l =
    (l.sum ≡ sum (take l.level-index l.levels))
    × (neg_ℤ (pos (32768 * l.level-index)) ≤ℤ l.sum)
    × (l.sum ≤ℤ pos (32768 * l.level-index))
