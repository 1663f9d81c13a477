-- What is left of the walk from the place i on is the whole walk.
use Rattle.std.proofs.Common.{◌≡◌, [], take, drop}
use Rattle.refusal.specs.Told.{accepted}
use Rattle.watch_rules.specs.Rules.{unless_faulty_from}
use Rattle.watch_channels.proofs.first_fault.Given as goal

abbrev pub invariant-loop-i : goal.invariant-loop-i
invariant-loop-i l = unless_faulty_from l.serving (take l.i l.list) (drop l.i l.list) accepted ≡ unless_faulty_from l.serving [] l.list accepted
