-- The loop's invariant of `outcomes_fine`: the string is 1,088 long, and `fine` says whether the bytes passed are in range.
use Rattle.std.proofs.Common.{◌≡◌, length}
use Rattle.sweep_rules.specs.Map.{channels, all_below}
use Rattle.choice_rules.specs.Choose.{highest_outcome, outcome_at}
use lib.Dec.{leb}
use Rattle.choice.proofs.outcomes_fine.Given as goal

abbrev pub invariant-loop-outcome : goal.invariant-loop-outcome
invariant-loop-outcome l = record {
  long : length l.outcomes ≡ channels;
  is : l.fine ≡ all_below l.outcome-index (λ c. leb (outcome_at l.outcomes c) highest_outcome);
}
