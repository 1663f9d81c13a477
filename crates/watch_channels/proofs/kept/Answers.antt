-- A channel under watch has its track at its place; another has no levels.
use Rattle.std.proofs.Common.{List, ℤ, get_or, sym, ap, ◌∙◌}
use Rattle.watch_rules.specs.declared.Track.{Track}
use Rattle.watch_rules.specs.Rows.{row}
use Rattle.watch_rules.specs.Record.{track_of}
use Rattle.watch_record.specs.Code.{nothing}
use Rattle.watch_record.proofs.Watched.{found_used, found_track, unfound_levels}
use Rattle.watch_channels.proofs.kept.Goals as goal

pub returns-in-Some : goal.returns-in-Some
returns-in-Some c =
    let w = c.args.w.watch.now in
    let k = c.args.channel in
    ap (λ (ts : List Track). get_or ts c.in-Some.place nothing) c.tracks.ensures
    ∙ found_used w k c.args.w.formed c.in-Some.ensures
    ∙ found_track w k c.args.w.formed c.in-Some.ensures

pub returns-in-None : goal.returns-in-None
returns-in-None c =
    let w = c.args.w.watch.now in
    let k = c.args.channel in
    c.empty.ensures ∙ sym (ap (λ (l : List ℤ). track_of (row k l)) (unfound_levels w k c.args.w.formed c.in-None.ensures))
