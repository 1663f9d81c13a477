-- The loop's invariant of `half_fine`: `fine` says whether the levels passed stand as they may.
use Rattle.std.proofs.Common.{◌≡◌}
use Rattle.sweep_rules.specs.Code.{levels_fine}
use Rattle.sweep.proofs.half_fine.Given as goal

abbrev pub invariant-loop-k : goal.invariant-loop-k
invariant-loop-k l = l.fine ≡ levels_fine l.levels 0 l.heard l.k
