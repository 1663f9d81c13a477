-- A line that has no row is given to `make` as the row after the last, where there is no call.
use Rattle.std.proofs.Common.{ap, ◌∙◌}
use Rattle.session_words.specs.Words.{words_of}
use Rattle.session_rows.specs.Table.{row_written}
use Rattle.session_rows.proofs.Parts.{rows_are, no_call}
use Rattle.session.proofs.lines.answer.Goals as goal

pub returns-in-NoCall : goal.returns-in-NoCall
returns-in-NoCall c =
    let a = c.args in
    rw c.in-NoCall.is
    (c.make.ensures
    ∙ ap (λ k. row_written k a.number a.state.now (words_of a.held.now)) rows_are
    ∙ no_call a.number a.state.now (words_of a.held.now))
