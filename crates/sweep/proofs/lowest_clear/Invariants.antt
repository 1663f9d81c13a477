-- The loop's invariant of `lowest_clear`: what is left of the search from the first swept channel of the word on is the whole search.
use Rattle.std.proofs.Common.{◌-◌, ◌*◌, ◌≡◌, max}
use Rattle.sweep_rules.specs.Map.{is_set}
use Rattle.sweep_rules.specs.Record.{first_swept, swept_channels}
use Rattle.sweep_rules.specs.Next.{lowest_not}
use Rattle.sweep_rules.proofs.Lowest.{swept_end}
use Rattle.sweep.proofs.lowest_clear.Given as goal

abbrev pub invariant-loop-i : goal.invariant-loop-i
invariant-loop-i l =
    lowest_not (is_set l.map) (swept_end - max first_swept (l.i * 64)) (max first_swept (l.i * 64))
    ≡ lowest_not (is_set l.map) swept_channels first_swept
