-- The channels so far are those of the words so far.
use Rattle.std.proofs.Common.{◌≡◌, map}
use Rattle.session_values.specs.Values.{channel}
use Rattle.session_values.proofs.list_at.Given as goal

abbrev pub invariant-loop-word : goal.invariant-loop-word
invariant-loop-word l = l.channels.items ≡ map channel (map (λ w. w.now) l.yielded)
