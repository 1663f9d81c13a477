-- As far as the list was gone through, the tracks are those of the serving channel and that part of the list.
use Rattle.std.proofs.Common.{◌≡◌, take}
use Rattle.watch_rules.specs.Record.{rows}
use Rattle.watch_channels.proofs.NewBeam.{tracks_for}
use Rattle.watch_channels.proofs.relist.Given as goal

abbrev pub invariant-loop-i : goal.invariant-loop-i
invariant-loop-i l =
    (l.beam.watched ≡ l.initial.beam.watched)
    × (l.beam.depth ≡ l.initial.beam.depth)
    × (l.beam.tracks ≡ tracks_for l.serving (rows l.w.watch.now) (take l.i l.list))
