-- `session_rows::rows::choice_row` meets its contract: each row by its call, with the numbers of the line.
use Rattle.std.proofs.Common.{◌≤◌, length, cond, ap, ap₂, ◌∙◌, arith}
use mir.Syntax.{w32}
use mir.ValLaws.{to_z-of_z}
use borrow.Author.Rules.{sfits_of}
use Rattle.readings_rules.specs.Channels.{channel_in_range}
use Rattle.session_words.specs.Words.{words_of}
use Rattle.session_rows.specs.Calls.{only, outcome_set, chosen, malformed}
use Rattle.session_rows.specs.Table.{choice_rows}
use Rattle.session_rows.proofs.Parts.{row_is, no_row}
use Rattle.session_rows.proofs.rows.choice_row.Goals as goal

pub returns-in-0 : goal.returns-in-0
unfolding choice_rows
returns-in-0 c =
    let a = c.args in
    c.set_outcome.ensures
    ∙ ap₂ (λ n x. cond (channel_in_range n) (outcome_set n x a.state) (malformed a.number a.state)) c.channel_at.ensures c.byte_at.ensures
    ∙ row_is a.number a.state (words_of a.line.now) choice_rows c.in-0.is

pub returns-in-1 : goal.returns-in-1
unfolding choice_rows
returns-in-1 c =
    let a = c.args in
    let z = c.int_at in
    c.choose.ensures ∙ ap (λ m. chosen m a.state) (to_z-of_z w32 z.result (sfits_of z.type_inv) ∙ z.ensures)
    ∙ row_is a.number a.state (words_of a.line.now) choice_rows c.in-1.is

pub returns-in_default : goal.returns-in_default
unfolding choice_rows
returns-in_default c =
    let a = c.args in
    let past : length choice_rows ≤ c.args.row = omega arith in
    ap (only a.state) c.of_error.ensures ∙ no_row a.number a.state (words_of a.line.now) choice_rows a.row past
