-- The test of all by what was found at one place, and past the last.
use Rattle.std.proofs.Common.{◌≡◌, ◌+◌, ◌-◌, ◌<◌, ◌&&◌, Bool, length, drop, sym, ap, ◌∙◌, rules, arith}
use lib.Dec.{leb}
use Rattle.watch_rules.specs.Limits.{room}
use Rattle.watch_rules.specs.Record.{tracks_fine}
use Rattle.watch_record.proofs.Scan.{one_place, at-end}
use Rattle.watch_record.proofs.tracks_ok.Goals as goal

pub returns-then-not-track_ok-clause-fine : goal.returns-then-not-track_ok-clause-fine
returns-then-not-track_ok-clause-fine c =
    let w = c.args.w.now in
    let i = c.loop-i.i in
    let l : length w.tracks ≡ room = search rules in
    let inside : i < length w.tracks = omega (arith, c.loop-i-test.true) in
    sym (c.loop-i.invariant
    ∙ one_place w.depth w.watched i w.tracks inside
    ∙ ap (λ (y : Bool). y && tracks_fine w.depth (w.watched - (i + 1)) (drop (i + 1) w.tracks)) (sym c.track_ok.ensures ∙ c.if-not-track_ok.true))

pub loop-i-preserved : goal.loop-i-preserved
loop-i-preserved c =
    let w = c.args.w.now in
    let i = c.loop-i.i in
    let l : length w.tracks ≡ room = search rules in
    let inside : i < length w.tracks = omega (arith, c.loop-i-test.true) in
    c.loop-i.invariant
    ∙ one_place w.depth w.watched i w.tracks inside
    ∙ ap (λ (y : Bool). y && tracks_fine w.depth (w.watched - (i + 1)) (drop (i + 1) w.tracks)) (sym c.track_ok.ensures ∙ c.if-not-track_ok.false)

pub returns-clause-fine : goal.returns-clause-fine
returns-clause-fine c =
    let w = c.args.w.now in
    let l : length w.tracks ≡ room = search rules in
    let e : c.loop-i.i ≡ room = search rules in
    sym (c.loop-i.invariant ∙ at-end w.depth w.watched c.loop-i.i w.tracks (omega arith) ∙ ap (leb w.watched) e)
