-- The numbers that are not given are so case by case.
use mathlib.Core.Path.{◌≡◌}
use native.Mathlib.Omega.{arith}
use Rattle.refusal.specs.declared.Refusal.{Refusal}
use Rattle.refusal.specs.declared.Refusal.TheVariants.{ReadingOutOfRange, ChannelOutOfRange, ChannelVisited, SweepUnfinished, NotWatched, ParameterOutOfRange, OutcomesFaulty, RecordNotWellFormed, ListTooLong, ListedOutOfRange, ListedAgain, ListedServing}
use Rattle.refusal.specs.Number.{number_of}
use Rattle.refusal.specs.Claims.{NumbersRule}

-- each number that is given differs from 0 and from 5
given : (r : Refusal) → (number_of r ≡ 0 → ⊥) × (number_of r ≡ 5 → ⊥)
given ReadingOutOfRange = (λ e. omega arith, λ e. omega arith)
given ChannelOutOfRange = (λ e. omega arith, λ e. omega arith)
given ChannelVisited = (λ e. omega arith, λ e. omega arith)
given SweepUnfinished = (λ e. omega arith, λ e. omega arith)
given NotWatched = (λ e. omega arith, λ e. omega arith)
given ParameterOutOfRange = (λ e. omega arith, λ e. omega arith)
given OutcomesFaulty = (λ e. omega arith, λ e. omega arith)
given RecordNotWellFormed = (λ e. omega arith, λ e. omega arith)
given ListTooLong = (λ e. omega arith, λ e. omega arith)
given (ListedOutOfRange p) = (λ e. omega arith, λ e. omega arith)
given (ListedAgain p) = (λ e. omega arith, λ e. omega arith)
given (ListedServing p) = (λ e. omega arith, λ e. omega arith)

pub numbers_rule : NumbersRule
numbers_rule = record { none_is_zero = λ r. (given r).0; none_is_five = λ r. (given r).1 }
