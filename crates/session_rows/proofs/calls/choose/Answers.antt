-- `session_rows::calls::choose` meets its contract: the state stays, and the choice is written.
use Rattle.std.proofs.Common.{ap, ◌∙◌}
use mir.Syntax.{w32}
use mir.ValLaws.{to_z-of_z}
use Rattle.choice_rules.specs.Choose.{choosing}
use Rattle.session_answers.specs.Lines.{choice_line}
use Rattle.session_rows.specs.Calls.{chosen, only}
use Rattle.session_rows.proofs.calls.choose.Goals as goal

pub returns : goal.returns
unfolding chosen
returns c =
    let s = c.args.state in
    ap (only s) (c.of_choice.ensures
    ∙ ap choice_line (c.choose-chosen.ensures.answer
    ∙ ap (λ m. choosing s.sweep m s.outcomes) (to_z-of_z w32 c.args.margin c.ranges.margin)))
