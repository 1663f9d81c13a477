-- `session_watch::watch_row` meets its contract: each row by its call, with the numbers of the line.
use Rattle.std.proofs.Common.{ℕ, List, ◌≡◌, ◌≤◌, length, sym, ap, ap₂, ◌∙◌, arith}
use Rattle.std.specs.Prelude.{pos}
use mir.Syntax.{w32}
use mir.ValLaws.{to_z-of_z}
use borrow.Author.Rules.{sfits_of}
use Rattle.readings_rules.specs.declared.Burst.TheVariants.{Missed}
use Rattle.watch_rules.specs.declared.Watch.{Watch}
use Rattle.watch_rules.specs.Told.{Called, start, new_beam, file, ask, verdict}
use Rattle.watch_rules.specs.Record.{called}
use Rattle.session_words.specs.Words.{words_of}
use Rattle.session_calls.specs.Table.{row_at}
use Rattle.session_calls.proofs.Tables.{beyond}
use Rattle.session_watch.specs.Rows.{watch_rows, recorded_depth}
use Rattle.session_watch.proofs.watch_row.Goals as goal

-- what the row of a number does
abbrev does : Watch → List ℕ → ℕ → Called
does w line k = called w (row_at watch_rows (verdict (pos 0)) k (words_of line))

-- the row of the number, as an arm of the match is told it
is : (w : Watch) (line : List ℕ) {j k : ℕ} → j ≡ k → does w line k ≡ does w line j
is w line e = ap (does w line) (sym e)

pub returns-in-0 : goal.returns-in-0
unfolding watch_rows
returns-in-0 c =
    c.file.ensures ∙ ap₂ (λ n b. called c.args.watch (file n b)) c.channel_at.ensures c.heard_at.ensures
    ∙ is c.args.watch c.args.line.now c.in-0.is

pub returns-in-1 : goal.returns-in-1
unfolding watch_rows
returns-in-1 c =
    c.file-in-1.ensures ∙ ap (λ n. called c.args.watch (file n Missed)) c.channel_at-in-1.ensures
    ∙ is c.args.watch c.args.line.now c.in-1.is

pub returns-in-2 : goal.returns-in-2
unfolding watch_rows
returns-in-2 c =
    c.ask.ensures ∙ ap (λ n. called c.args.watch (ask n)) c.channel_at-in-2.ensures ∙ is c.args.watch c.args.line.now c.in-2.is

pub returns-in-3 : goal.returns-in-3
unfolding watch_rows
returns-in-3 c =
    let z = c.int_at in
    c.verdict.ensures ∙ ap (λ h. called c.args.watch (verdict h)) (to_z-of_z w32 z.result (sfits_of z.type_inv) ∙ z.ensures)
    ∙ is c.args.watch c.args.line.now c.in-3.is

pub returns-in-4 : goal.returns-in-4
unfolding watch_rows
returns-in-4 c =
    c.start.ensures ∙ ap (λ n. called c.args.watch (start n recorded_depth)) c.channel_at-in-4.ensures
    ∙ is c.args.watch c.args.line.now c.in-4.is

pub returns-in-5 : goal.returns-in-5
unfolding watch_rows
returns-in-5 c =
    c.start-in-5.ensures ∙ ap₂ (λ n d. called c.args.watch (start n d)) c.channel_at-in-5.ensures (c.from.ensures ∙ c.byte_at.ensures)
    ∙ is c.args.watch c.args.line.now c.in-5.is

pub returns-in-6 : goal.returns-in-6
unfolding watch_rows
returns-in-6 c =
    c.new_beam.ensures ∙ ap₂ (λ n ns. called c.args.watch (new_beam n ns)) c.channel_at-in-6.ensures (c.as_slice.ensures.value ∙ c.list_at.ensures)
    ∙ is c.args.watch c.args.line.now c.in-6.is

pub returns-in_default : goal.returns-in_default
unfolding watch_rows
returns-in_default c =
    let past : length watch_rows ≤ c.args.row = omega arith in
    c.verdict-in_default.ensures ∙ ap (called c.args.watch) (beyond (verdict (pos 0)) (words_of c.args.line.now) watch_rows c.args.row past)
