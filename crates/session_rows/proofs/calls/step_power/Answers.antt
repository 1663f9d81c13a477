-- `session_rows::calls::step_power` meets its contract: the record that the step hands back, and its answer.
use Rattle.std.proofs.Common.{ap, ◌∙◌}
use mir.Syntax.{w32}
use mir.ValLaws.{to_z-of_z}
use Rattle.power_rules.specs.Calls.{stepped}
use Rattle.session_answers.specs.Lines.{power_line}
use Rattle.session_rows.specs.Calls.{with_power, power_stepped}
use Rattle.session_rows.proofs.calls.step_power.Goals as goal

pub returns : goal.returns
unfolding power_stepped
returns c i =
    let a = c.args in
    let n = to_z-of_z w32 c.args.sqi c.ranges.sqi in
    record {
      state =
          with_power c.args.state ((c.step-stepped.ensures.0
          ∙ ap (λ z. (stepped a.state.parameters a.state.power a.decoded z).power) n) i);
      text =
          (c.of_power.ensures
          ∙ ap power_line (c.step-stepped.ensures.1 ∙ ap (λ z. (stepped a.state.parameters a.state.power a.decoded z).answer) n)) i;
    }
