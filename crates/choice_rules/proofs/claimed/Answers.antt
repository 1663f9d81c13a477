-- `choice_rules::claimed` meets its contract: each of its parts is a theorem of this folder.
use Rattle.choice_rules.proofs.Claims.{refusal_rule, search_order_rule, near_part_rule, tried_is_place}
use Rattle.choice_rules.proofs.Claims.{no_beam_exactly, unheard_bytes, answers_differ, answers_told}
use Rattle.choice_rules.proofs.claimed.Goals as goal

pub returns : goal.returns
returns c =
    record {
      refusals = refusal_rule;
      order = search_order_rule;
      near = near_part_rule;
      tried = tried_is_place;
      nobeam = no_beam_exactly;
      unheard = unheard_bytes;
      differ = answers_differ;
      told = answers_told;
    }
