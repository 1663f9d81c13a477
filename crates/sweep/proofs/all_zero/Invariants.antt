-- The loop's invariant of `all_zero`: `zero` says whether the levels passed stand as they may where no bit is set.
use Rattle.std.proofs.Common.{◌≡◌}
use Rattle.sweep_rules.specs.Code.{levels_fine}
use Rattle.sweep.proofs.all_zero.Given as goal

abbrev pub invariant-loop-level : goal.invariant-loop-level
invariant-loop-level l = l.zero ≡ levels_fine l.levels 0 0 l.level-index
