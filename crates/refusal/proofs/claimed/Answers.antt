-- The claims on the refusals, each by its theorem.
use Rattle.refusal.proofs.OneToOne.{reasons_differ, outcomes_differ}
use Rattle.refusal.proofs.Numbers.{numbers_rule}
use Rattle.refusal.proofs.Provided.{told_rule, handed_rule}
use Rattle.refusal.proofs.claimed.Goals as goal

pub returns : goal.returns
returns c =
    record {
      reasons = reasons_differ;
      outcomes = outcomes_differ;
      numbers = numbers_rule;
      words = told_rule;
      records = handed_rule;
    }
