-- What the digits so far write goes on to the number of the whole run.
use Rattle.std.proofs.Common.{◌≡◌, ◌^◌, ◌<◌, drop}
use Rattle.session_numbers.specs.Code.{run_in, run_after}
use Rattle.session_numbers.proofs.run.Given as goal

abbrev pub invariant-loop-b : goal.invariant-loop-b
invariant-loop-b l = (run_after l.radix l.value (drop l.b-index l.word) ≡ run_in l.radix l.word) × (l.value < l.radix ^ l.b-index)
