-- `session::lines::answer_line` meets its contract: by the kind of the line (`Ended`), and of a call on the watch by the rows on it.
use Rattle.std.proofs.Common.{◌≡◌, sym, ap, ◌∙◌}
use Rattle.session_words.specs.Words.{words_of}
use Rattle.session_watch.specs.Rows.{watch_rows}
use Rattle.session_rows.specs.Calls.{with_watch, handed_over}
use Rattle.session_rows.proofs.Parts.{on_watch_lem}
use Rattle.session.specs.declared.lines.Kind.TheVariants.{Call}
use Rattle.session.proofs.Ended.{line_done}
use Rattle.session.specs.Reading.{kind_written}
use Rattle.session.proofs.lines.answer_line.Goals as goal
use Rattle.session.proofs.lines.answer_line.Goals.{in-Call+else-row-lt-WATCH_ROWS, in_default}

pub returns-then-row-lt-WATCH_ROWS : goal.returns-then-row-lt-WATCH_ROWS
unfolding watch_rows handed_over
returns-then-row-lt-WATCH_ROWS c =
    let st = c.args.state.now in
    (λ i. record { state = with_watch st c.watch_row-handed.result.state; text = c.of_watch.ensures i })
    ∙ ap (handed_over st) c.watch_row-handed.ensures
    ∙ on_watch_lem c.args.number st (words_of c.first-held.result.now) c.if-row-lt-WATCH_ROWS.true
    ∙ line_done c.args.number st c.args.line.now (Call c.in-Call.row) c.size.ensures c.first-held.ensures c.in-Call.ensures

pub returns : goal.returns
returns c =
    let same : c.match-kind.kind ≡ c.kind_of-kind.result =
    elim c.match-kind.branch [ in-Call+else-row-lt-WATCH_ROWS w ↦ w.kind-is ∙ sym w.in-Call.is | in_default w ↦ w.kind-is ] in
    c.answer.ensures
    ∙ ap (λ k. kind_written k c.args.number c.args.state.now c.first-held.result.now) same
    ∙ line_done c.args.number c.args.state.now c.args.line.now c.kind_of-kind.result c.size.ensures c.first-held.ensures c.kind_of-kind.ensures
