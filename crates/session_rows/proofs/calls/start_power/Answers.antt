-- `session_rows::calls::start_power` meets its contract: the record that the start hands back, and its answer.
use Rattle.std.proofs.Common.{ap, ◌∙◌}
use Rattle.session_answers.specs.Lines.{outcome_line}
use Rattle.session_rows.specs.Calls.{with_power, power_started}
use Rattle.session_rows.proofs.calls.start_power.Goals as goal

pub returns : goal.returns
unfolding power_started
returns c i =
    record {
      state = with_power c.args.state (c.start-handed.ensures.0 i);
      text = (c.of_outcome.ensures ∙ ap outcome_line c.start-handed.ensures.1) i;
    }
