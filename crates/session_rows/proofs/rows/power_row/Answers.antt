-- `session_rows::rows::power_row` meets its contract: each row by its call, with the numbers of the line.
use Rattle.std.proofs.Common.{◌≤◌, length, ap, ap₂, ◌∙◌, arith}
use mir.Syntax.{w32}
use mir.ValLaws.{to_z-of_z}
use borrow.Author.Rules.{sfits_of}
use Rattle.power_rules.specs.declared.Decoded.TheVariants.{Failed, Codes}
use Rattle.session_words.specs.Words.{words_of}
use Rattle.session_rows.specs.Calls.{only, power_stepped}
use Rattle.session_rows.specs.Table.{power_rows}
use Rattle.session_rows.proofs.Parts.{row_is, no_row}
use Rattle.session_rows.proofs.rows.power_row.Goals as goal

pub returns-in-0 : goal.returns-in-0
unfolding power_rows
returns-in-0 c =
    let a = c.args in
    let z = c.int_at in
    c.step_power.ensures
    ∙ ap₂ (λ d h. power_stepped d h a.state) (c.codes.ensures ∙ ap₂ Codes c.byte_at.ensures c.byte_at-in-0.ensures)
    (to_z-of_z w32 z.result (sfits_of z.type_inv) ∙ z.ensures)
    ∙ row_is a.number a.state (words_of a.line.now) power_rows c.in-0.is

pub returns-in-1 : goal.returns-in-1
unfolding power_rows
returns-in-1 c =
    let a = c.args in
    let z = c.int_at-in-1 in
    c.step_power-in-1.ensures ∙ ap (λ h. power_stepped Failed h a.state) (to_z-of_z w32 z.result (sfits_of z.type_inv) ∙ z.ensures)
    ∙ row_is a.number a.state (words_of a.line.now) power_rows c.in-1.is

pub returns-in-2 : goal.returns-in-2
unfolding power_rows
returns-in-2 c = c.start_power.ensures ∙ row_is c.args.number c.args.state (words_of c.args.line.now) power_rows c.in-2.is

pub returns-in-3 : goal.returns-in-3
unfolding power_rows
returns-in-3 c = c.set_parameters.ensures ∙ row_is c.args.number c.args.state (words_of c.args.line.now) power_rows c.in-3.is

pub returns-in_default : goal.returns-in_default
unfolding power_rows
returns-in_default c =
    let a = c.args in
    let past : length power_rows ≤ c.args.row = omega arith in
    ap (only a.state) c.of_error.ensures ∙ no_row a.number a.state (words_of a.line.now) power_rows a.row past
