-- The loop's invariant of `heard_keys`: the keys of the heard channels passed, no more than these.
use Rattle.std.proofs.Common.{◌≡◌, ◌≤◌, length, get_or, pos}
use Rattle.sweep_rules.specs.Map.{is_set}
use Rattle.choice_rules.proofs.Gathered.{keys_to}
use Rattle.choice.proofs.heard_keys.Given as goal

abbrev pub invariant-loop-c : goal.invariant-loop-c
invariant-loop-c l = record {
  are : l.keys.items ≡ keys_to (is_set l.sweep.heard) (λ d. get_or l.sweep.levels d (pos 0)) l.c;
  few : length l.keys.items ≤ l.c;
}
