-- What was gathered from the levels passed and what is still to be asked of the others are the test of all. Places are counted in 16 bits.
use Rattle.std.proofs.Common.{◌≡◌, ◌+◌, ◌-◌, ◌&&◌, length}
use Rattle.watch_rules.specs.Limits.{capacity}
use Rattle.watch_rules.specs.Record.{levels_fine}
use Rattle.watch_record.proofs.levels_ok.Given as goal

abbrev pub invariant-loop-level : goal.invariant-loop-level
invariant-loop-level l =
    (l.level-iterator.b.start + length l.level-iterator.a.rest.now ≡ capacity)
    × ((l.ok && levels_fine (l.t.count - l.level-iterator.b.start) l.level-iterator.a.rest.now) ≡ levels_fine l.t.count l.t.levels)
