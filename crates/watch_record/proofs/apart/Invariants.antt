-- As far as the tracks were looked through, their channels differed.
use Rattle.std.proofs.Common.{◌≡◌, true, take}
use Rattle.watch_rules.specs.Lists.{distinct}
use Rattle.watch_record.specs.Code.{channels_of}
use Rattle.watch_record.proofs.apart.Given as goal

abbrev pub invariant-loop-i : goal.invariant-loop-i
invariant-loop-i l = distinct (channels_of (take l.i l.tracks)) ≡ true
