-- A map with one bit more is as long.
use Prim.Native.Nat.{ℕ, ◌+◌, ◌/◌, ◌%◌, ◌^◌}
use mathlib.Core.Path.{◌≡◌, refl}
use mathlib.Core.Bool.{Bool, true, false, cond}
use mathlib.Core.List.{List}
use lib.ListN.{length, get_or, set, length-set}
use Rattle.sweep_rules.specs.Map.{is_set, with_bit}

pub length_with : (m : List ℕ) (c : ℕ) → length (with_bit m c) ≡ length m
unfolding with_bit
length_with m c = by (is_set m c)
  where
    by : (b : Bool) → length (cond b m (set m (c / 64) (get_or m (c / 64) 0 + 2 ^ (c % 64)))) ≡ length m
    by true = refl
    by false = length-set m (c / 64) (get_or m (c / 64) 0 + 2 ^ (c % 64))
