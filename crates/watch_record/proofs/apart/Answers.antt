-- A channel that has a place among those before it comes again; one that has none differs from them.
use Rattle.std.proofs.Common.{◌≡◌, true, false, take, get_or, sym, ap, ◌∙◌}
use Rattle.std.specs.Option.{is_some}
use Rattle.watch_rules.specs.Lists.{distinct, mem}
use Rattle.watch_record.specs.Code.{nothing, channels_of}
use Rattle.watch_record.proofs.Scan.{channels_more, channels_round, distinct_snoc, distinct_again}
use Rattle.watch_record.proofs.Places.{place_listed}
use Rattle.watch_record.proofs.apart.Goals as goal

pub returns-then-is_some : goal.returns-then-is_some
returns-then-is_some c =
    let ts = c.args.tracks.now in
    let i = c.loop-i.i in
    let t = get_or ts i nothing in
    let m : mem t.channel (channels_of (take i ts)) ≡ true =
    sym (c.is_some.ensures ∙ ap is_some c.place.ensures ∙ place_listed t.channel (take i ts)) ∙ c.if-is_some.true in
    sym (ap distinct (channels_round ts i c.loop-i-test.true) ∙ distinct_again (channels_of (take i ts)) t.channel _ m)

pub loop-i-preserved : goal.loop-i-preserved
loop-i-preserved c =
    let ts = c.args.tracks.now in
    let i = c.loop-i.i in
    let t = get_or ts i nothing in
    let m : mem t.channel (channels_of (take i ts)) ≡ false =
    sym (c.is_some.ensures ∙ ap is_some c.place.ensures ∙ place_listed t.channel (take i ts)) ∙ c.if-is_some.false in
    ap distinct (channels_more ts i c.loop-i-test.true) ∙ distinct_snoc (channels_of (take i ts)) t.channel c.loop-i.invariant m
