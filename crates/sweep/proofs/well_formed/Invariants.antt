-- The loop's invariant of `well_formed`: each word passed stands as it may, with its levels.
use Rattle.std.proofs.Common.{ℕ, true, ◌≡◌, ◌<◌, length}
use Rattle.sweep_rules.proofs.Formed.{word_of}
use Rattle.sweep.proofs.well_formed.Given as goal

abbrev pub invariant-loop-levels : goal.invariant-loop-levels
invariant-loop-levels l = (j : ℕ) → j < length l.yielded → word_of l.sweep j ≡ true
