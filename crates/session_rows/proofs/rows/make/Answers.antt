-- `session_rows::rows::make` meets its contract: the row is one of a part of the table, or comes after it.
use Rattle.std.proofs.Common.{ℕ, List, ◌++◌, ◌≡◌, ◌≤◌, ◌-◌, length, ap, ◌∙◌}
use Rattle.session_words.specs.Words.{words_of}
use Rattle.session_state.specs.declared.State.{State}
use Rattle.session_watch.specs.Rows.{watch_rows}
use Rattle.session_sweep.specs.Rows.{sweep_rows}
use Rattle.session_rows.specs.Calls.{with_watch, handed_over, sweep_handed_over}
use Rattle.session_rows.specs.Table.{choice_rows, power_rows, reading_rows, row_written}
use Rattle.session_rows.proofs.Parts.{at, within, after, on_watch_lem, on_sweep_lem, past_sweep}
use Rattle.session_rows.proofs.rows.make.Goals as goal

pub returns-then-row-lt-WATCH_ROWS : goal.returns-then-row-lt-WATCH_ROWS
unfolding watch_rows handed_over
returns-then-row-lt-WATCH_ROWS c =
    let a = c.args in
    let st = a.state.now in
    (λ i. record { state = with_watch st c.watch_row-handed.result.state; text = c.of_watch.ensures i })
    ∙ ap (handed_over st) c.watch_row-handed.ensures
    ∙ on_watch_lem a.number st (words_of a.line.now) c.if-row-lt-WATCH_ROWS.true

pub returns-then-row-lt-SWEEP_ROWS : goal.returns-then-row-lt-SWEEP_ROWS
unfolding watch_rows sweep_rows sweep_handed_over
returns-then-row-lt-SWEEP_ROWS c =
    let a = c.args in
    let st = a.state.now in
    ap (sweep_handed_over st) c.sweep_row-answered.ensures
    ∙ on_sweep_lem a.number st (words_of a.line.now) c.if-row-lt-WATCH_ROWS.false c.if-row-lt-SWEEP_ROWS.true

-- a row after those on the watch, on the sweep and of the choice
past_choice : (n : ℕ) (s : State) (ws : List (List ℕ)) {k : ℕ} → length watch_rows ≤ k → length sweep_rows ≤ k - length watch_rows
    → length choice_rows ≤ k - length watch_rows - length sweep_rows
    → at n s ws (power_rows ++ reading_rows) (k - length watch_rows - length sweep_rows - length choice_rows) ≡ row_written k n s ws
past_choice n s ws h l m = after n s ws choice_rows (power_rows ++ reading_rows) m ∙ past_sweep n s ws h l

pub returns-then-row-lt-CHOICE_ROWS : goal.returns-then-row-lt-CHOICE_ROWS
unfolding watch_rows sweep_rows choice_rows
returns-then-row-lt-CHOICE_ROWS c =
    let a = c.args in
    let st = a.state.now in
    c.choice_row-answered.ensures
    ∙ within a.number st (words_of a.line.now) choice_rows (power_rows ++ reading_rows) c.if-row-lt-CHOICE_ROWS.true
    ∙ past_sweep a.number st (words_of a.line.now) c.if-row-lt-WATCH_ROWS.false c.if-row-lt-SWEEP_ROWS.false

pub returns-then-row-lt-POWER_ROWS : goal.returns-then-row-lt-POWER_ROWS
unfolding watch_rows sweep_rows choice_rows power_rows
returns-then-row-lt-POWER_ROWS c =
    let a = c.args in
    let st = a.state.now in
    c.power_row-answered.ensures
    ∙ within a.number st (words_of a.line.now) power_rows reading_rows c.if-row-lt-POWER_ROWS.true
    ∙ past_choice a.number st (words_of a.line.now) c.if-row-lt-WATCH_ROWS.false c.if-row-lt-SWEEP_ROWS.false c.if-row-lt-CHOICE_ROWS.false

pub returns : goal.returns
unfolding watch_rows sweep_rows choice_rows power_rows
returns c =
    let a = c.args in
    let st = a.state.now in
    c.reading_row.ensures st
    ∙ after a.number st (words_of a.line.now) power_rows reading_rows c.if-row-lt-POWER_ROWS.false
    ∙ past_choice a.number st (words_of a.line.now) c.if-row-lt-WATCH_ROWS.false c.if-row-lt-SWEEP_ROWS.false c.if-row-lt-CHOICE_ROWS.false
