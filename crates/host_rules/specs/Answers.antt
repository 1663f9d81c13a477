-- The rule of the border: an answer is of numbers. The first is the refusal number, 0 for accepted; then come the values, 0 when refused. Where a
-- refusal may tell a place, it stands beside the number. A call that changes a record hands it back beside these.
use Rattle.std.specs.Prelude.{ℕ, false, ℤ, pos, nat_abs, Float}
use Rattle.std.specs.Float.{fin}
use Rattle.refusal.specs.declared.Reason.{Reason}
use Rattle.refusal.specs.declared.Reason.TheVariants.{Alone, At}
use Rattle.refusal.specs.Number.{number_in}
use Rattle.refusal.specs.Told.{Told, refused, gives, acceptance}
use Rattle.readings_rules.specs.Burst.{BurstResult, heard, missed}
use Rattle.sweep_rules.specs.declared.Sweep.{Sweep}
use Rattle.sweep_rules.specs.Filing.{leaves}
use Rattle.sweep_rules.specs.Next.{Next, channel, done}
use Rattle.sweep_rules.specs.Counts.{Counts}
use Rattle.choice_rules.specs.Choose.{Chosen, camp, read, no_beam}
use Rattle.watch_rules.specs.Told.{Given, accepted, levels, wait, stay, move_to, Called}
use Rattle.power_rules.specs.declared.PowerRecord.{PowerRecord}
use Rattle.power_rules.specs.Calls.{HandedBack, ToSend}
use Rattle.host_rules.specs.declared.HundredthsAnswer.{HundredthsAnswer}
use Rattle.host_rules.specs.declared.FloatAnswer.{FloatAnswer}
use Rattle.host_rules.specs.declared.BurstAnswer.{BurstAnswer}
use Rattle.host_rules.specs.declared.SweepOutcome.{SweepOutcome}
use Rattle.host_rules.specs.declared.NextAnswer.{NextAnswer}
use Rattle.host_rules.specs.declared.CountsAnswer.{CountsAnswer}
use Rattle.host_rules.specs.declared.ChoiceAnswer.{ChoiceAnswer}
use Rattle.host_rules.specs.declared.WatchOutcome.{WatchOutcome}
use Rattle.host_rules.specs.declared.LevelsAnswer.{LevelsAnswer}
use Rattle.host_rules.specs.declared.VerdictAnswer.{VerdictAnswer}
use Rattle.host_rules.specs.declared.PowerOutcome.{PowerOutcome}
use Rattle.host_rules.specs.declared.SentAnswer.{SentAnswer}
use Rattle.host_rules.specs.declared.SentOutcome.{SentOutcome}

-- ---- numbers

-- an accepted call
abbrev pub accepted_number : ℕ
accepted_number = 0

-- the number of a call
abbrev pub refusal_number : {A : Type 0} → Told A → ℕ
refusal_number (gives v) = accepted_number
refusal_number (refused n) = number_in n

-- where no place is told: no place is so high, as a list has six
abbrev pub no_place : ℕ
no_place = 4294967295

-- the place of a call
abbrev pub place_in : Reason → ℕ
place_in (Alone n) = no_place
place_in (At n place) = place

abbrev pub refusal_place : {A : Type 0} → Told A → ℕ
refusal_place (gives v) = no_place
refusal_place (refused n) = place_in n

-- a next channel: there is one, or the sweep is done
abbrev pub a_channel : ℕ
a_channel = 1

abbrev pub is_done : ℕ
is_done = 2

-- a choice: camp there, read it next, or no beam
abbrev pub to_camp : ℕ
to_camp = 1

abbrev pub to_read : ℕ
to_read = 2

abbrev pub is_no_beam : ℕ
is_no_beam = 3

-- a verdict: wait, stay, or move
abbrev pub to_wait : ℕ
to_wait = 1

abbrev pub to_stay : ℕ
to_stay = 2

abbrev pub to_move : ℕ
to_move = 3

-- the float 0, without a minus
abbrev pub zero_float : Float
zero_float = fin false 0 (pos 0)

-- ---- readings

-- hundredths
abbrev pub hundredths_answer : Told ℤ → HundredthsAnswer
hundredths_answer (gives h) = record { refusal = accepted_number; hundredths = h }
hundredths_answer (refused n) = record { refusal = number_in n; hundredths = pos 0 }

-- a float
abbrev pub float_answer : Told Float → FloatAnswer
float_answer (gives x) = record { refusal = accepted_number; value = x }
float_answer (refused n) = record { refusal = number_in n; value = zero_float }

-- a burst that was heard; a missed one, of which no host asks, has no numbers
abbrev pub burst_answer : Told BurstResult → BurstAnswer
burst_answer (gives (heard level quality)) = record { refusal = accepted_number; level = level; quality = quality }
burst_answer (gives missed) = record { refusal = accepted_number; level = pos 0; quality = pos 0 }
burst_answer (refused n) = record { refusal = number_in n; level = pos 0; quality = pos 0 }

-- ---- sweep and choice

-- a sweep beside the number of a call that gives no value
abbrev pub sweep_beside : Sweep → Told Unit → SweepOutcome
sweep_beside s a = record { refusal = refusal_number a; sweep = s }

-- a filing
abbrev pub sweep_outcome : Sweep → Told Sweep → SweepOutcome
sweep_outcome s t = sweep_beside (leaves s t) (acceptance t)

-- the next channel
abbrev pub next_answer : Told Next → NextAnswer
next_answer (gives (channel c)) = record { refusal = accepted_number; next = a_channel; channel = c }
next_answer (gives done) = record { refusal = accepted_number; next = is_done; channel = 0 }
next_answer (refused n) = record { refusal = number_in n; next = 0; channel = 0 }

-- the numbers visited and heard
abbrev pub counts_answer : Told Counts → CountsAnswer
counts_answer (gives c) = record { refusal = accepted_number; visited = c.visited; heard = c.heard }
counts_answer (refused n) = record { refusal = number_in n; visited = 0; heard = 0 }

-- what is chosen, with the number of beams tried
abbrev pub choice_answer : Told Chosen → ChoiceAnswer
choice_answer (gives (camp c n)) = record { refusal = accepted_number; choice = to_camp; channel = c; tried = n }
choice_answer (gives (read c n)) = record { refusal = accepted_number; choice = to_read; channel = c; tried = n }
choice_answer (gives (no_beam n)) = record { refusal = accepted_number; choice = is_no_beam; channel = 0; tried = n }
choice_answer (refused n) = record { refusal = number_in n; choice = 0; channel = 0; tried = 0 }

-- ---- watch

-- a call that may change the watch
abbrev pub watch_outcome : Called → WatchOutcome
watch_outcome c = record { refusal = refusal_number c.answer; place = refusal_place c.answer; watch = c.watch }

-- an ask: count and mean. What no ask gives has neither
abbrev pub no_levels : ℕ → LevelsAnswer
no_levels n = record { refusal = n; count = 0; mean = pos 0 }

abbrev pub levels_answer : Told Given → LevelsAnswer
levels_answer (gives (levels count mean)) = record { refusal = accepted_number; count = count; mean = mean }
levels_answer (gives accepted) = no_levels accepted_number
levels_answer (gives wait) = no_levels accepted_number
levels_answer (gives stay) = no_levels accepted_number
levels_answer (gives (move_to c)) = no_levels accepted_number
levels_answer (refused n) = no_levels (number_in n)

-- a verdict. What no verdict gives is none of the three
abbrev pub no_verdict : ℕ → VerdictAnswer
no_verdict n = record { refusal = n; verdict = 0; channel = 0 }

abbrev pub verdict_answer : Told Given → VerdictAnswer
verdict_answer (gives wait) = record { refusal = accepted_number; verdict = to_wait; channel = 0 }
verdict_answer (gives stay) = record { refusal = accepted_number; verdict = to_stay; channel = 0 }
verdict_answer (gives (move_to c)) = record { refusal = accepted_number; verdict = to_move; channel = c }
verdict_answer (gives accepted) = no_verdict accepted_number
verdict_answer (gives (levels count mean)) = no_verdict accepted_number
verdict_answer (refused n) = no_verdict (number_in n)

-- ---- power

-- a record beside the number of a call that gives no value
abbrev pub power_beside : PowerRecord → Told Unit → PowerOutcome
power_beside r a = record { refusal = refusal_number a; power = r }

-- a start or a test
abbrev pub power_outcome : HandedBack Unit → PowerOutcome
power_outcome h = power_beside h.power h.answer

-- the codes to send. None is below 0 (`SendsWithinLimits` of the power steps), so the size of each is the code
abbrev pub sent_answer : Told ToSend → SentAnswer
sent_answer (gives s) = record { refusal = accepted_number; par = nat_abs s.par; pan = nat_abs s.pan }
sent_answer (refused n) = record { refusal = number_in n; par = 0; pan = 0 }

-- a record beside the codes
abbrev pub sent_beside : PowerRecord → Told ToSend → SentOutcome
sent_beside r a = record { answer = sent_answer a; power = r }

-- a step
abbrev pub sent_outcome : HandedBack ToSend → SentOutcome
sent_outcome h = sent_beside h.power h.answer
