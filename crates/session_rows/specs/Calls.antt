-- Session files, section Calls: what a call does to the state, and the line that it writes.
use Rattle.std.specs.Prelude.{ℕ, List, set, ℤ}
use Rattle.refusal.specs.Told.{accepted}
use Rattle.sweep_rules.specs.declared.Sweep.{Sweep}
use Rattle.choice_rules.specs.Choose.{choosing}
use Rattle.watch_rules.specs.declared.Watch.{Watch}
use Rattle.watch_rules.specs.Told.{Call, Called}
use Rattle.watch_rules.specs.Record.{called}
use Rattle.power_rules.specs.declared.Decoded.{Decoded}
use Rattle.power_rules.specs.declared.PowerRecord.{PowerRecord}
use Rattle.power_rules.specs.declared.PowerParameters.{PowerParameters}
use Rattle.power_rules.specs.Calls.{started, stepped}
use Rattle.session_answers.specs.Lines.{outcome_line, choice_line, watch_line, power_line, error_line}
use Rattle.session_texts.specs.Text.{said}
use Rattle.session_state.specs.declared.State.{State}
use Rattle.session_sweep.specs.Rows.{SweepWritten}
use Rattle.session_answers.specs.declared.Answered.{Answered}

-- the state after a line, and the text that the line writes
pub record Written : Type 0 where
  pub state : State
  pub text : List ℕ

-- what the code answers for a line
abbrev pub told_answered : Answered State → Written
told_answered r = record { state = r.state; text = said r.text }

-- a text, with the state as it was
abbrev pub only : State → List ℕ → Written
only s text = record { state = s; text = text }

-- accepted, with the state that follows
abbrev pub accepts : State → Written
accepts s = only s (outcome_line accepted)

-- the state with one of its parts anew
abbrev pub with_sweep : State → Sweep → State
with_sweep s x = record { sweep = x; outcomes = s.outcomes; watch = s.watch; power = s.power; parameters = s.parameters }

abbrev pub with_outcomes : State → List ℕ → State
with_outcomes s x = record { sweep = s.sweep; outcomes = x; watch = s.watch; power = s.power; parameters = s.parameters }

abbrev pub with_watch : State → Watch → State
with_watch s x = record { sweep = s.sweep; outcomes = s.outcomes; watch = x; power = s.power; parameters = s.parameters }

abbrev pub with_power : State → PowerRecord → State
with_power s x = record { sweep = s.sweep; outcomes = s.outcomes; watch = s.watch; power = x; parameters = s.parameters }

abbrev pub with_parameters : State → PowerParameters → State
with_parameters s x = record { sweep = s.sweep; outcomes = s.outcomes; watch = s.watch; power = s.power; parameters = x }

-- the outcome byte of a channel
unfoldable pub outcome_set : ℕ → ℕ → State → Written
outcome_set c b s = accepts (with_outcomes s (set s.outcomes c b))

-- the choice over the sweep and the outcome bytes
unfoldable pub chosen : ℤ → State → Written
chosen m s = only s (choice_line (choosing s.sweep m s.outcomes))

-- what a call on the watch hands back
unfoldable pub handed_over : State → Called → Written
handed_over s h = record { state = with_watch s h.watch; text = watch_line h.answer }

abbrev pub watching : Call → State → Written
watching k s = handed_over s (called s.watch k)

-- what a call on the sweep leaves and writes
unfoldable pub sweep_handed_over : State → SweepWritten → Written
sweep_handed_over s w = record { state = with_sweep s w.sweep; text = w.text }

abbrev pub sweeping : (Sweep → SweepWritten) → State → Written
sweeping k s = sweep_handed_over s (k s.sweep)

-- a start and a step of the power record use the parameters that are set
unfoldable pub power_started : State → Written
power_started s = record { state = with_power s (started s.parameters).power; text = outcome_line (started s.parameters).answer }

unfoldable pub power_stepped : Decoded → ℤ → State → Written
power_stepped d sqi s =
    record {
      state = with_power s (stepped s.parameters s.power d sqi).power;
      text = power_line (stepped s.parameters s.power d sqi).answer;
    }

-- a line that is none of the calls, by its number in the file: no call is made
abbrev pub malformed : ℕ → State → Written
malformed n s = only s (error_line n)
