-- `session_sweep::next` meets its contract: the sweep stays, and the answer is written.
use Rattle.std.proofs.Common.{ap, ◌∙◌}
use Rattle.session_answers.specs.Lines.{next_line}
use Rattle.session_sweep.specs.Rows.{next_asked}
use Rattle.session_sweep.proofs.next.Goals as goal

pub returns : goal.returns
unfolding next_asked
returns c i = record { sweep = c.next-next.ensures.sweep i; text = (c.of_next.ensures ∙ ap next_line c.next-next.ensures.answer) i }
