-- `session_sweep::file` meets its contract: the sweep that the filing leaves, and its answer.
use Rattle.std.proofs.Common.{ap, ◌∙◌}
use Rattle.session_answers.specs.Lines.{outcome_line}
use Rattle.session_sweep.specs.Rows.{filed}
use Rattle.session_sweep.proofs.file.Goals as goal

pub returns : goal.returns
unfolding filed
returns c i =
    record {
      sweep = c.file-filed.ensures.sweep i;
      text = (c.of_outcome.ensures ∙ ap outcome_line c.file-filed.ensures.answer) i;
    }
