-- The tracks are tested from the first on: at each place the test of all is the test of those from there on, since those before passed.
use Rattle.std.proofs.Common.{◌≡◌, ◌-◌, drop}
use Rattle.watch_rules.specs.Record.{tracks_fine}
use Rattle.watch_record.proofs.tracks_ok.Given as goal

abbrev pub invariant-loop-i : goal.invariant-loop-i
invariant-loop-i l = tracks_fine l.w.depth l.w.watched l.w.tracks ≡ tracks_fine l.w.depth (l.w.watched - l.i) (drop l.i l.w.tracks)
