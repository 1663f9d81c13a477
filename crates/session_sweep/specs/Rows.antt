-- Session files, section Calls and what they write: the rows on the sweep, each with its text and what a line that has it does and writes: ws are
-- the line's words, by their places from 0 on, and s the sweep before it.
use Rattle.std.specs.Prelude.{ℕ, zero, suc, List, [], ◌∷◌, Float}
use Rattle.refusal.specs.Told as refusal
use Rattle.readings_rules.specs.declared.Burst.{Burst}
use Rattle.readings_rules.specs.declared.Burst.TheVariants.{Missed}
use Rattle.sweep_rules.specs.declared.Sweep.{Sweep}
use Rattle.sweep_rules.specs.Record.{first_swept, swept_channels, fresh_sweep}
use Rattle.sweep_rules.specs.Filing.{filing, leaves}
use Rattle.sweep_rules.specs.Next.{next_told}
use Rattle.sweep_rules.specs.Counts.{counts_told}
use Rattle.session_texts.specs.Text.{said}
use Rattle.session_answers.specs.Lines.{outcome_line, next_line, counts_line}
use Rattle.session_values.specs.Values.{CH, heard}
use Rattle.session_calls.specs.Table.{Row, ◌asks◌}
use Rattle.session_answers.specs.declared.Answered.{Answered}

-- the sweep after a line, and the text that the line writes
pub record SweepWritten : Type 0 where
  pub sweep : Sweep
  pub text : List ℕ

-- what the code answers for a line
abbrev pub told_sweep_answered : Answered Sweep → SweepWritten
told_sweep_answered r = record { sweep = r.state; text = said r.text }

-- "missed" filed for each of n channels from c on: one that was visited is refused, and the record stays as it was
unfoldable pub missed_from : ℕ → ℕ → Sweep → Sweep
missed_from zero c s = s
missed_from (suc n) c s = missed_from n (suc c) (leaves s (filing s c Missed))

-- a result filed in the sweep
unfoldable pub filed : ℕ → Burst Float → Sweep → SweepWritten
filed c b s = record { sweep = leaves s (filing s c b); text = outcome_line (refusal.acceptance (filing s c b)) }

-- the next channel and the numbers of channels leave the sweep as it is
unfoldable pub next_asked : Sweep → SweepWritten
next_asked s = record { sweep = s; text = next_line (next_told s) }

unfoldable pub counts_asked : Sweep → SweepWritten
counts_asked s = record { sweep = s; text = counts_line (counts_told s) }

-- accepted, with the sweep that follows
abbrev pub accepts : Sweep → SweepWritten
accepts s = record { sweep = s; text = outcome_line refusal.accepted }

unfoldable pub sweep_rows : List (Row (Sweep → SweepWritten))
sweep_rows =
    ("sweep file CH heard NUM NUM" asks λ ws s. filed (CH ws 2) (heard ws 4) s)
    ∷ ("sweep file CH missed" asks λ ws s. filed (CH ws 2) Missed s)
    ∷ ("sweep next" asks λ ws s. next_asked s)
    ∷ ("sweep counts" asks λ ws s. counts_asked s)
    ∷ ("sweep fresh" asks λ ws s. accepts fresh_sweep)
    ∷ ("sweep rest missed" asks λ ws s. accepts (missed_from swept_channels first_swept s))
    ∷ []
