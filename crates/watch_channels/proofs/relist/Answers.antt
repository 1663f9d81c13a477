-- One channel more of the list has the track of its row.
use Rattle.std.proofs.Common.{◌+◌, List, set, ap₂, ◌∙◌}
use Rattle.watch_rules.specs.declared.Track.{Track}
use Rattle.watch_rules.specs.Record.{rows}
use Rattle.watch_channels.proofs.NewBeam.{list_step}
use Rattle.watch_channels.proofs.relist.Goals as goal

pub loop-i-preserved : goal.loop-i-preserved
loop-i-preserved c =
    let a = c.args in
    let i = c.loop-i.i in (
      c.loop-i.invariant.0,
      c.loop-i.invariant.1,
      ap₂ (λ (ts : List Track) (t : Track). set ts (i + 1) t) c.loop-i.invariant.2 c.kept-in-loop-i.ensures
          ∙ list_step a.serving (rows a.w.watch.now) a.list.now i c.loop-i-test.true c.requires,
    )
