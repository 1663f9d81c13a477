-- Word by word, by the laws of `Rows`.
use Rattle.std.proofs.Common.{sym, ap, ◌∙◌, rules}
use mathlib.Core.Path.{subst}
use Rattle.session_calls.specs.Grammar.{fits}
use Rattle.session_calls.specs.Code.{WordsOf}
use Rattle.session_calls.proofs.Going.{ended, took}
use Rattle.session_calls.proofs.Rows.{said_as, many_here, fails, goes_on, at_end}
use Rattle.session_calls.proofs.fits_words.Goals as goal

pub returns-then-same : goal.returns-then-same
returns-then-same g c = λ rs ws h k.
    let l = c.loop-asked in
    let i = l.invariant.2 rs ws (subst (λ s. WordsOf g.R.Iterator.next_gives s rs) (sym c.into_iter-asked-iterator.ensures.into_iter_gives) h) k in
    let n = took g.R.Iterator.next_gives l.asked-iterator c.next.new.self i.0 c.in-Some.asked i.2 c.in-Some.ensures.steps in
    c.are_channels.ensures i.1 i.3
    ∙ many_here c.in-Some.asked.now n.rest i.1 (sym c.same.ensures ∙ c.if-same.true)
    ∙ sym (i.4 ∙ ap (λ r. fits r i.1) n.is)

pub returns-then-not-is_some_and : goal.returns-then-not-is_some_and
returns-then-not-is_some_and g c = λ rs ws h k.
    let l = c.loop-asked in
    let i = l.invariant.2 rs ws (subst (λ s. WordsOf g.R.Iterator.next_gives s rs) (sym c.into_iter-asked-iterator.ensures.into_iter_gives) h) k in
    let n = took g.R.Iterator.next_gives l.asked-iterator c.next.new.self i.0 c.in-Some.asked i.2 c.in-Some.ensures.steps in
    fails c.in-Some.asked.now n.rest (sym c.same.ensures ∙ c.if-same.false) g.W.Iterator.next_gives l.line c.next-in-loop-asked.new.self
    c.next-in-loop-asked.result c.is_some_and.result i.1 i.3 c.next-in-loop-asked.ensures.steps
    (said_as c.next-in-loop-asked.result _ _ _ (λ x q. search rules) c.is_some_and.ensures)
    c.if-not-is_some_and.true
    ∙ sym (i.4 ∙ ap (λ r. fits r i.1) n.is)

pub loop-asked-preserved : goal.loop-asked-preserved
loop-asked-preserved g c = (
  search rules,
  search rules,
  λ rs ws h k. (
      let l = c.loop-asked in
      let i = l.invariant.2 rs ws h k in
      let n = took g.R.Iterator.next_gives l.asked-iterator c.next.new.self i.0 c.in-Some.asked i.2 c.in-Some.ensures.steps in
      let m = goes_on c.in-Some.asked.now n.rest (sym c.same.ensures ∙ c.if-same.false) g.W.Iterator.next_gives l.line c.next-in-loop-asked.new.self
      c.next-in-loop-asked.result c.is_some_and.result i.1 i.3 c.next-in-loop-asked.ensures.steps
      (said_as c.next-in-loop-asked.result _ _ _ (λ x q. search rules) c.is_some_and.ensures)
      c.if-not-is_some_and.false in
      (n.rest, m.0, n.left, m.1, i.4 ∙ ap (λ r. fits r i.1) n.is ∙ m.2)),
)

pub returns : goal.returns
returns g c = λ rs ws h k.
    let l = c.loop-asked in
    let i = l.invariant.2 rs ws (subst (λ s. WordsOf g.R.Iterator.next_gives s rs) (sym c.into_iter-asked-iterator.ensures.into_iter_gives) h) k in
    at_end g.W.Iterator.next_gives l.line c.next-2.new.self c.next-2.result c.is_none.result i.1 i.3 c.next-2.ensures.steps c.is_none.ensures
    ∙ sym (i.4 ∙ ap (λ r. fits r i.1) (ended g.R.Iterator.next_gives l.asked-iterator c.next.new.self i.0 i.2 c.in-None.ensures.steps))
