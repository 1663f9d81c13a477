-- The claims on the sweep, each by its theorem.
use Rattle.sweep_rules.proofs.Claims.{record_rule, fresh_rule, ones_are_channels, one_bit_set, well_formed_rule, refusal_rule, filing_rule}
use Rattle.sweep_rules.proofs.Claims.{next_lowest, answer_rule, finished_rule, sequence_rule, filed_from_fresh, answers_differ, answers_told}
use Rattle.sweep_rules.proofs.claimed.Goals as goal

pub returns : goal.returns
returns c =
    record {
      «record» = record_rule;
      fresh = fresh_rule;
      ones = ones_are_channels;
      bits = one_bit_set;
      formed = well_formed_rule;
      refusals = refusal_rule;
      files = filing_rule;
      next = next_lowest;
      answers = answer_rule;
      finished = finished_rule;
      sequence = sequence_rule;
      filed = filed_from_fresh;
      differ = answers_differ;
      told = answers_told;
    }
