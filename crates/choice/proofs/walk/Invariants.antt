-- The invariants of `walk`. The scan's is `Least`: the least key from `from` on among those passed. The outer loop's is `Walked`: what is left of
-- the order comes to the same answer; its measure is the length of what is left.
use Rattle.std.proofs.Common.{length}
use Rattle.choice_rules.proofs.Turns.{Least, left_from, Walked}
use Rattle.choice.proofs.walk.Given as goal

abbrev pub invariant-scan : goal.invariant-scan
invariant-scan l = record {
  can : (goal.iterator-scan).can_next l.left;
  ends : (goal.iterator-scan).is_finite l.left;
  least : Least l.keys l.from l.next (length l.yielded);
}

abbrev pub invariant-order : goal.invariant-order
invariant-order l = Walked l.keys l.margin l.outcomes l.from l.strongest l.tried

abbrev pub decreases-order : goal.decreases-order
decreases-order l = length (left_from l.keys l.margin l.outcomes l.from)
