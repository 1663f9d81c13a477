-- A track that is not full takes the level behind the others; of a full one the oldest goes round to the end, and the level takes its place.
use Rattle.std.proofs.Common.{◌≡◌, ◌+◌, ◌-◌, List, ◌++◌, set, take, drop, length, ap, ap₂, ◌∙◌, ◌≤◌, arith}
use lib.IntN.{ℤ}
use mir.Facts.{to_z-of_z}
use Rattle.watch_rules.specs.Limits.{depth_lowest}
use Rattle.watch_rules.proofs.Depth.{depth_low}
use Rattle.watch.proofs.Pushed.{track_with, pushed_short, pushed_full, gone_round, long_enough}
use Rattle.watch.proofs.push.Goals as goal

pub returns-then-track-depth : goal.returns-then-track-depth
returns-then-track-depth c =
    let a = c.args in
    let t = a.track.now in
    ap (λ (z : ℤ). track_with t.channel (t.count + 1) (set t.levels t.count z)) (to_z-of_z c.ranges.level)
    ∙ pushed_short a.depth t a.level c.requires.fine c.requires.deep c.if-track-depth.true

pub returns-else-track-depth : goal.returns-else-track-depth
returns-else-track-depth c =
    let a = c.args in
    let t = a.track.now in
    let low : depth_lowest ≤ a.depth = depth_low a.depth c.requires.deep in
    let many : length (take a.depth t.levels) ≡ a.depth = long_enough a.depth t c.requires.fine c.requires.deep in
    ap₂ (λ (m : List ℤ) (z : ℤ). track_with t.channel t.count (set (m ++ drop a.depth t.levels) (a.depth - 1) z)) c.rotate_left.ensures.after
    (to_z-of_z c.ranges.level)
    ∙ ap (track_with t.channel t.count) (gone_round (take a.depth t.levels) (drop a.depth t.levels) a.level a.depth (omega arith) many)
    ∙ pushed_full a.depth t a.level c.requires.fine c.requires.deep c.if-track-depth.false
