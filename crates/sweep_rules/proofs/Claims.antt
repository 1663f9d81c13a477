-- The claims on the sweep, under their names; each is proved in the file that its line names. An answer has a way back from what is told of it.
use Rattle.std.proofs.Common.{◌≡◌, ℕ, refl}
use Rattle.std.specs.Prelude.{Option, Some, None}
use Rattle.refusal.proofs.OneToOne.{told_as_differs}
use Rattle.sweep_rules.specs.declared.Numbers.{Numbers}
use Rattle.sweep_rules.specs.Next.{Next, channel, done}
use Rattle.sweep_rules.specs.Counts.{Counts}
use Rattle.sweep_rules.specs.Told.{next_of_answer, counts_of_answer}
use Rattle.sweep_rules.specs.Claims.{AnswersDiffer, AnswersTold}
pub use Rattle.sweep_rules.proofs.ReadRecord.{record_rule, fresh_rule}
pub use Rattle.sweep_rules.proofs.Maps.{ones_are_channels, one_bit_set}
pub use Rattle.sweep_rules.proofs.Formed.{well_formed_rule}
pub use Rattle.sweep_rules.proofs.Refusals.{refusal_rule}
pub use Rattle.sweep_rules.proofs.ReadCalls.{answer_rule}
pub use Rattle.sweep_rules.proofs.Lowest.{next_lowest, finished_rule}
pub use Rattle.sweep_rules.proofs.OneFiling.{filing_rule}
pub use Rattle.sweep_rules.proofs.Sequences.{sequence_rule}
pub use Rattle.sweep_rules.proofs.Filings.{filed_from_fresh}

-- ---- each way back from what is told

next_from : Next → Option ℕ
next_from (channel c) = Some c
next_from done = None

next_back : (a : Option ℕ) → next_from (next_of_answer a) ≡ a
unfolding next_from
next_back (Some c) = refl
next_back None = refl

numbers_from : Counts → Numbers
numbers_from n = record { visited = n.visited; heard = n.heard }

numbers_back : (a : Numbers) → numbers_from (counts_of_answer a) ≡ a
unfolding numbers_from
numbers_back a = refl

pub answers_differ : AnswersDiffer
answers_differ =
    record {
      next = told_as_differs next_of_answer next_from next_back;
      numbers = told_as_differs counts_of_answer numbers_from numbers_back;
    }

-- ---- each case is told as what it says

pub answers_told : AnswersTold
answers_told = record { next_channel = λ c. refl; next_done = refl; next_refused = λ r. refl; numbers_of = λ v h. refl; numbers_refused = λ r. refl }
