-- `session_rows::rows::reading_row` meets its contract: each row by its call, and its answer as a line.
use Rattle.std.proofs.Common.{◌≤◌, length, ap, ◌∙◌, arith}
use mir.Syntax.{w32}
use mir.ValLaws.{to_z-of_z}
use borrow.Author.Rules.{sfits_of}
use Rattle.readings_rules.specs.Hundredths.{level_of, quality_of}
use Rattle.readings_rules.specs.Float.{level_shown, quality_shown}
use Rattle.session_answers.specs.Lines.{hundredths_line, float_line}
use Rattle.session_words.specs.Words.{words_of}
use Rattle.session_rows.specs.Calls.{only}
use Rattle.session_rows.specs.Table.{reading_rows}
use Rattle.session_rows.proofs.Parts.{row_is, no_row}
use Rattle.session_rows.proofs.rows.reading_row.Goals as goal

-- ---- a float in hundredths, and hundredths as a float

pub returns-in-0 : goal.returns-in-0
unfolding reading_rows
returns-in-0 c s =
    let h = c.level_to_hundredths.ensures ∙ ap level_of c.num_at.ensures in
    ap (only s) (c.of_hundredths.ensures ∙ ap hundredths_line h) ∙ row_is c.args.number s (words_of c.args.line.now) reading_rows c.in-0.is

pub returns-in-1 : goal.returns-in-1
unfolding reading_rows
returns-in-1 c s =
    let h = c.quality_to_hundredths.ensures ∙ ap quality_of c.num_at-in-1.ensures in
    ap (only s) (c.of_hundredths-in-1.ensures ∙ ap hundredths_line h)
    ∙ row_is c.args.number s (words_of c.args.line.now) reading_rows c.in-1.is

pub returns-in-2 : goal.returns-in-2
unfolding reading_rows
returns-in-2 c s =
    let z = c.int_at in
    let x = c.level_to_float.ensures ∙ ap level_shown (to_z-of_z w32 z.result (sfits_of z.type_inv) ∙ z.ensures) in
    ap (only s) (c.of_float.ensures ∙ ap float_line x) ∙ row_is c.args.number s (words_of c.args.line.now) reading_rows c.in-2.is

pub returns-in-3 : goal.returns-in-3
unfolding reading_rows
returns-in-3 c s =
    let z = c.int_at-in-3 in
    let x = c.quality_to_float.ensures ∙ ap quality_shown (to_z-of_z w32 z.result (sfits_of z.type_inv) ∙ z.ensures) in
    ap (only s) (c.of_float-in-3.ensures ∙ ap float_line x) ∙ row_is c.args.number s (words_of c.args.line.now) reading_rows c.in-3.is

pub returns-in_default : goal.returns-in_default
unfolding reading_rows
returns-in_default c s =
    let past : length reading_rows ≤ c.args.row = omega arith in
    ap (only s) c.of_error.ensures ∙ no_row c.args.number s (words_of c.args.line.now) reading_rows c.args.row past
