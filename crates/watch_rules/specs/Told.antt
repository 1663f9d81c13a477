-- The calls, and each answer in document 01's terms: what is told of a refusal, or the values.
use Rattle.std.specs.Prelude.{ℕ, List, ℤ, Float, Result}
use Rattle.refusal.specs.declared.Refusal.{Refusal}
use Rattle.refusal.specs.declared.Handed.{Handed}
use Rattle.refusal.specs.Told.{Told, told_as}
use Rattle.readings_rules.specs.declared.Burst.{Burst}
use Rattle.watch_rules.specs.declared.Watch.{Watch}
use Rattle.watch_rules.specs.declared.Answer.{Answer}
use Rattle.watch_rules.specs.declared.Answer.TheVariants.{Accepted, Levels, Wait, Stay, MoveTo}

-- a call with its arguments other than the watch: channels, a depth, a list of channels, a burst with its floats, a
-- hysteresis with its sign. A new beam has its serving channel and its list
pub data Call : Type 0 where
  start : ℕ → ℕ → Call
  new_beam : ℕ → List ℕ → Call
  file : ℕ → Burst Float → Call
  ask : ℕ → Call
  verdict : ℤ → Call

-- what an accepted call gives: its acceptance; a count and a mean; or a verdict
pub data Given : Type 0 where
  accepted : Given
  levels : ℕ → ℤ → Given
  wait : Given
  stay : Given
  move_to : ℕ → Given

-- the same of the library's answer
abbrev pub given_of : Answer → Given
given_of Accepted = accepted
given_of (Levels count mean) = levels count mean
given_of Wait = wait
given_of Stay = stay
given_of (MoveTo c) = move_to c

abbrev pub told_answer : Result Answer Refusal → Told Given
told_answer answer = told_as given_of answer

-- what a call hands back: the watch, and what is told of its answer
pub record Called : Type 0 where
  pub watch : Watch
  pub answer : Told Given

abbrev pub told_handed : Handed Watch Answer → Called
told_handed r = record { watch = r.state; answer = told_answer r.answer }
