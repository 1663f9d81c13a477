-- The claims on the readings, each by its theorem.
use Rattle.readings_rules.proofs.Ranges.{range_rule}
use Rattle.readings_rules.proofs.Rule.{rounding_rule}
use Rattle.readings_rules.proofs.Conversion.{conversion_rule}
use Rattle.readings_rules.proofs.NearestFloat.{shown_rule}
use Rattle.readings_rules.proofs.Back.{reads_back}
use Rattle.readings_rules.proofs.Bursts.{burst_rule, burst_in_range}
use Rattle.readings_rules.proofs.Claims.{answers_told, answers_differ}
use Rattle.readings_rules.proofs.claimed.Goals as goal

pub returns : goal.returns
returns c =
    record {
      range = range_rule;
      rounding = rounding_rule;
      conversion = conversion_rule;
      shown = shown_rule;
      back = reads_back;
      burst = burst_rule;
      inside = burst_in_range;
      told = answers_told;
      differ = answers_differ;
    }
