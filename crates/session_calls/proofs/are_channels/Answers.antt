-- Word by word, by the laws of `Channels`.
use Rattle.std.proofs.Common.{◌-◌, sym, ap, ◌∙◌}
use Rattle.std.specs.Prelude.{is_some}
use Rattle.session_calls.specs.Grammar.{channels_up_to}
use Rattle.session_calls.proofs.Going.{ended, took}
use Rattle.session_calls.proofs.Channels.{none_left, no_channel, channel_on, at_end}
use Rattle.session_calls.proofs.are_channels.Goals as goal

pub returns-in_default : goal.returns-in_default
returns-in_default g c = λ ws h.
    let l = c.loop in
    let i = l.invariant ws h in
    sym (i.2
    ∙ ap (channels_up_to (8 - l.counter)) (ended g.W.Iterator.next_gives l.words c.next.new.self i.0 i.1 c.in_default.ensures.steps)
    ∙ none_left (8 - l.counter))

pub returns-then-is_none : goal.returns-then-is_none
returns-then-is_none g c = λ ws h.
    let l = c.loop in
    let i = l.invariant ws h in
    let n = took g.W.Iterator.next_gives l.words c.next.new.self i.0 c.in-Some.word i.1 c.in-Some.ensures.steps in
    sym (i.2
    ∙ ap (channels_up_to (8 - l.counter)) n.is
    ∙ no_channel l.counter c.in-Some.word.now n.rest c.loop-test.true (ap is_some (sym c.natural.ensures.value) ∙ c.if-is_none.ensures))

pub loop-preserved : goal.loop-preserved
loop-preserved g c = λ ws h.
    let l = c.loop in
    let i = l.invariant ws h in
    let n = took g.W.Iterator.next_gives l.words c.next.new.self i.0 c.in-Some.word i.1 c.in-Some.ensures.steps in (
      n.rest,
      n.left,
      i.2
          ∙ ap (channels_up_to (8 - l.counter)) n.is
          ∙ channel_on l.counter c.in-Some.word.now n.rest c.loop-test.true (ap is_some (sym c.natural.ensures.value) ∙ c.if-is_none.ensures),
    )

pub returns : goal.returns
returns g c = λ ws h.
    let l = c.loop in
    let i = l.invariant ws h in
    at_end g.W.Iterator.next_gives l.words c.next-2.new.self c.next-2.result c.is_none-2.result l.counter i.0 c.loop-test.false i.1 c.next-2.ensures.steps
    c.is_none-2.ensures
    ∙ sym i.2
