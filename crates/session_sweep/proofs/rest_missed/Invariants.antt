-- Before a channel the record is that of the channels below it, and the rest is still to come.
use Rattle.std.proofs.Common.{◌≡◌, ◌+◌, ◌-◌, ◌≤◌}
use Rattle.sweep_rules.specs.Record.{first_swept, last_swept, swept_channels}
use Rattle.session_sweep.specs.Rows.{missed_from}
use Rattle.session_sweep.proofs.rest_missed.Given as goal

abbrev pub invariant-loop-channel : goal.invariant-loop-channel
invariant-loop-channel l =
    (l.channel ≤ last_swept + 1)
    × (missed_from (last_swept + 1 - l.channel) l.channel l.sweep ≡ missed_from swept_channels first_swept l.fn.sweep)
