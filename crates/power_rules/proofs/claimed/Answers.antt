-- The claims on the power steps, each by its theorem.
use Rattle.power_rules.proofs.Claims.{starts_well_formed, stays_well_formed, refused_keeps_record, test_keeps_record, sends_within_limits, rounds_down}
use Rattle.power_rules.proofs.Claims.{answers_told, answers_differ}
use Rattle.power_rules.proofs.Refusals.{refusal_rule, start_rule}
use Rattle.power_rules.proofs.StepRule.{step_rule}
use Rattle.power_rules.proofs.claimed.Goals as goal

pub returns : goal.returns
returns c =
    record {
      starts = starts_well_formed;
      stays = stays_well_formed;
      refused = refused_keeps_record;
      tested = test_keeps_record;
      limits = sends_within_limits;
      rounding = rounds_down;
      refusals = refusal_rule;
      start = start_rule;
      step = step_rule;
      told = answers_told;
      differ = answers_differ;
    }
