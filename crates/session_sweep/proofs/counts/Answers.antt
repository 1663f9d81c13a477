-- `session_sweep::counts` meets its contract: the sweep stays, and the answer is written.
use Rattle.std.proofs.Common.{ap, ◌∙◌}
use Rattle.session_answers.specs.Lines.{counts_line}
use Rattle.session_sweep.specs.Rows.{counts_asked}
use Rattle.session_sweep.proofs.counts.Goals as goal

pub returns : goal.returns
unfolding counts_asked
returns c i = record { sweep = c.counts-counts.ensures.sweep i; text = (c.of_counts.ensures ∙ ap counts_line c.counts-counts.ensures.answer) i }
