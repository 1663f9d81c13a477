-- Each answer of the sweep in document 01's terms: what is told of a refusal, or the values.
use Rattle.std.specs.Prelude.{ℕ, Option, Some, None, Result}
use Rattle.refusal.specs.declared.Refusal.{Refusal}
use Rattle.refusal.specs.Told.{Told, told_as}
use Rattle.sweep_rules.specs.declared.Numbers.{Numbers}
use Rattle.sweep_rules.specs.Next.{Next, channel, done}
use Rattle.sweep_rules.specs.Counts.{Counts}

-- of the next channel: where there is none, the sweep is done
abbrev pub next_of_answer : Option ℕ → Next
next_of_answer (Some c) = channel c
next_of_answer None = done

abbrev pub told_next : Result (Option ℕ) Refusal → Told Next
told_next answer = told_as next_of_answer answer

-- of the numbers visited and heard
abbrev pub counts_of_answer : Numbers → Counts
counts_of_answer n = record { visited = n.visited; heard = n.heard }

abbrev pub told_numbers : Result Numbers Refusal → Told Counts
told_numbers answer = told_as counts_of_answer answer
