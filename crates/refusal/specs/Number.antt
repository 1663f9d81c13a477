-- Document 01, section Refusal numbers, and document 02: what is told of each refusal. This is the one place where the numbers stand.
use Rattle.std.specs.Prelude.{ℕ}
use Rattle.refusal.specs.declared.Refusal.{Refusal}
use Rattle.refusal.specs.declared.Refusal.TheVariants.{ReadingOutOfRange, ChannelOutOfRange, ChannelVisited, SweepUnfinished, NotWatched, ParameterOutOfRange, OutcomesFaulty, RecordNotWellFormed, ListTooLong, ListedOutOfRange, ListedAgain, ListedServing}
use Rattle.refusal.specs.declared.Reason.{Reason}
use Rattle.refusal.specs.declared.Reason.TheVariants.{Alone, At}

-- its number and, where document 02 names one, the place, counted from 0
abbrev pub reason_of : Refusal → Reason
reason_of ReadingOutOfRange = Alone 1
reason_of ChannelOutOfRange = Alone 2
reason_of ChannelVisited = Alone 3
reason_of SweepUnfinished = Alone 4
reason_of NotWatched = Alone 6
reason_of ParameterOutOfRange = Alone 7
reason_of OutcomesFaulty = Alone 8
reason_of RecordNotWellFormed = Alone 9
reason_of ListTooLong = Alone 11
reason_of (ListedOutOfRange p) = At 12 p
reason_of (ListedAgain p) = At 13 p
reason_of (ListedServing p) = At 14 p

-- the number in what is told
abbrev pub number_in : Reason → ℕ
number_in (Alone n) = n
number_in (At n p) = n

abbrev pub number_of : Refusal → ℕ
number_of r = number_in (reason_of r)
