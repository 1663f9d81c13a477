-- Session files, section State: "At the start of a session: a fresh sweep, 1,088 outcome bytes of 0, a fresh (idle) watch, a power record of
-- all zeros, and power parameters of all zeros."
use Rattle.std.specs.Prelude.{replicate}
use Rattle.sweep_rules.specs.Map.{channels}
use Rattle.sweep_rules.specs.Record.{fresh_sweep}
use Rattle.choice_rules.specs.Choose.{not_read}
use Rattle.watch_rules.specs.Record as watch
use Rattle.power_rules.specs.PowerSteps.{all_zeros}
use Rattle.session_state.specs.declared.State.{State}

unfoldable pub begins : State
begins =
    record {
      sweep = fresh_sweep;
      outcomes = replicate channels not_read;
      watch = watch.fresh;
      power = all_zeros;
      parameters = record { sqt = 0; paninit = 0; panmin = 0; panmax = 0; gainup = 0; gaindn = 0; mestep = 0 };
    }
