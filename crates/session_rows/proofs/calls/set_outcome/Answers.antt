-- `session_rows::calls::set_outcome` meets its contract: the channel is in range.
use Rattle.std.proofs.Common.{set, sym, ap, ◌∙◌}
use borrow.Author.Tests.{le-leb}
use Rattle.session_words.proofs.Lists.{cond-true}
use Rattle.session_texts.specs.Text.{said}
use Rattle.session_rows.specs.Calls.{only, with_outcomes, outcome_set}
use Rattle.session_rows.proofs.calls.set_outcome.Goals as goal

pub returns : goal.returns
unfolding outcome_set
returns c =
    let a = c.args in
    ap (λ k. only (with_outcomes a.state (set a.state.outcomes k a.outcome)) (said c.of_outcome.result)) c.from.ensures
    ∙ ap (only (with_outcomes a.state (set a.state.outcomes a.channel a.outcome))) c.of_outcome.ensures
    ∙ sym (cond-true _ _ (le-leb _ _ c.if-channel-gt-CHANNEL_HIGHEST.false))
