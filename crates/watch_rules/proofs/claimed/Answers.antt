-- `watch_rules::claimed` meets its contract: each of its parts is a theorem of this folder.
use Rattle.watch_rules.proofs.Words.{words_rule}
use Rattle.watch_rules.proofs.Rules.{levels_rule, refusal_rule, accepted_rule}
use Rattle.watch_rules.proofs.Demand3.{demand3}
use Rattle.watch_rules.proofs.FaultClaims.{nothing_else, list_fault_rule}
use Rattle.watch_rules.proofs.Reach.{well_formed_is_reachable}
use Rattle.watch_rules.proofs.Unchanged.{unchanged}
use Rattle.watch_rules.proofs.Follows.{it_follows, unformed_rule}
use Rattle.watch_rules.proofs.Places.{list_rule}
use Rattle.watch_rules.proofs.Sequence.{sequence_rule}
use Rattle.watch_rules.proofs.PlainSteps.{plain_rule}
use Rattle.watch_rules.proofs.Beams.{beam_rule}
use Rattle.watch_rules.proofs.Verdict.{verdict_rule, part_rule}
use Rattle.watch_rules.proofs.Mean.{ask_rule}
use Rattle.watch_rules.proofs.DepthKept.{depth_rule}
use Rattle.watch_rules.proofs.Told.{answers_told, answers_differ}
use Rattle.watch_rules.proofs.claimed.Goals as goal

pub returns : goal.returns
returns c =
    record {
      demand3 = demand3;
      order = nothing_else;
      formed = well_formed_is_reachable;
      follows = it_follows;
      unchanged = unchanged;
      unformed = unformed_rule;
      listed = list_rule;
      sequence = sequence_rule;
      plain = plain_rule;
      kept = levels_rule;
      refuses = refusal_rule;
      faults = list_fault_rule;
      accepts = accepted_rule;
      beams = beam_rule;
      ask = ask_rule;
      verdict = verdict_rule;
      part = part_rule;
      depth = depth_rule;
      words = words_rule;
      told = answers_told;
      differ = answers_differ;
    }
