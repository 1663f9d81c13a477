-- `session_sweep::sweep_row` meets its contract: each row by its call, with the numbers of the line.
use Rattle.std.proofs.Common.{ℕ, List, ◌≡◌, ◌≤◌, length, sym, ap, ap₂, ◌∙◌, arith}
use Rattle.readings_rules.specs.declared.Burst.TheVariants.{Missed}
use Rattle.sweep_rules.specs.declared.Sweep.{Sweep}
use Rattle.session_words.specs.Words.{words_of}
use Rattle.session_calls.specs.Table.{row_at}
use Rattle.session_calls.proofs.Tables.{beyond}
use Rattle.session_sweep.specs.Rows.{SweepWritten, filed, next_asked, accepts, sweep_rows}
use Rattle.session_sweep.proofs.sweep_row.Goals as goal

-- what the row of a number does
abbrev does : Sweep → List ℕ → ℕ → SweepWritten
does s line k = row_at sweep_rows next_asked k (words_of line) s

-- the row of the number, as an arm of the match is told it
is : (s : Sweep) (line : List ℕ) {j k : ℕ} → j ≡ k → does s line k ≡ does s line j
is s line e = ap (does s line) (sym e)

pub returns-in-0 : goal.returns-in-0
unfolding sweep_rows
returns-in-0 c =
    c.file.ensures ∙ ap₂ (λ n b. filed n b c.args.sweep) c.channel_at.ensures c.heard_at.ensures ∙ is c.args.sweep c.args.line.now c.in-0.is

pub returns-in-1 : goal.returns-in-1
unfolding sweep_rows
returns-in-1 c =
    c.file-in-1.ensures ∙ ap (λ n. filed n Missed c.args.sweep) c.channel_at-in-1.ensures ∙ is c.args.sweep c.args.line.now c.in-1.is

pub returns-in-2 : goal.returns-in-2
unfolding sweep_rows
returns-in-2 c = c.next.ensures ∙ is c.args.sweep c.args.line.now c.in-2.is

pub returns-in-3 : goal.returns-in-3
unfolding sweep_rows
returns-in-3 c = c.counts.ensures ∙ is c.args.sweep c.args.line.now c.in-3.is

pub returns-in-4 : goal.returns-in-4
unfolding sweep_rows
returns-in-4 c = c.accepted.ensures ∙ ap accepts c.fresh.ensures ∙ is c.args.sweep c.args.line.now c.in-4.is

pub returns-in-5 : goal.returns-in-5
unfolding sweep_rows
returns-in-5 c = c.accepted-in-5.ensures ∙ ap accepts c.rest_missed.ensures ∙ is c.args.sweep c.args.line.now c.in-5.is

pub returns-in_default : goal.returns-in_default
unfolding sweep_rows
returns-in_default c =
    let past : length sweep_rows ≤ c.args.row = omega arith in
    c.next-in_default.ensures ∙ ap (λ f. f c.args.sweep) (beyond next_asked (words_of c.args.line.now) sweep_rows c.args.row past)
