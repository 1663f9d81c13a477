-- How a record is read, and a fresh one: each law is what its definition comes to in the library's terms.
use Prim.Native.Nat.{◌/◌, ◌%◌, ◌^◌}
use mathlib.Core.Path.{refl}
use lib.ListN.{get_or}
use borrow.Author.Tests.{eqb-true, eq-eqb}
use Rattle.sweep_rules.specs.Map.{bit_at, is_set}
use Rattle.sweep_rules.specs.Record.{fresh_sweep}
use Rattle.sweep_rules.specs.Claims.{RecordRule, FreshRule}

pub record_rule : RecordRule
unfolding is_set bit_at
record_rule = record {
  bit = λ m c. (eqb-true (get_or m (c / 64) 0 / 2 ^ (c % 64) % 2) 1, eq-eqb (get_or m (c / 64) 0 / 2 ^ (c % 64) % 2) 1);
  in_visited = λ s c. refl;
  in_heard = λ s c. refl;
  in_levels = λ s c. refl;
}

pub fresh_rule : FreshRule
unfolding fresh_sweep
fresh_rule = record { levels = refl; visited = refl; heard = refl }
