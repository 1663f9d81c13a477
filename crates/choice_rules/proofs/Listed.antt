-- The search order holds the channels that pass the test, and those alone.
use Prim.Native.Nat.{ℕ, ◌+◌, ◌≤◌, ◌<◌}
use mathlib.Core.Bool.{Bool}
use mathlib.Core.List.{Memᴰ}
use native.Mathlib.Omega.{arith}
use Rattle.sweep_rules.specs.Map.{channels}
use Rattle.sweep_rules.specs.Record.{level_at}
use Rattle.sweep_rules.specs.declared.Sweep.{Sweep}
use Rattle.choice_rules.specs.Order.{from, comes_before, channels_that, search_order}
use Rattle.choice_rules.specs.Code.{All}
use Rattle.choice_rules.specs.Claims.{Passes}
use Rattle.choice_rules.proofs.Lists.{all_map, all_keep, mem_keep, all_from, mem_from, mem_sort}

module _ (test : ℕ → Bool) where
  pub listed : All (Passes test) (channels_that test)
  listed = all_map (channels_that test) (λ d h. (omega (arith, h.0.1), h.1)) (all_keep test (λ d. (0 ≤ d) × (d < 0 + channels)) (from channels 0) (all_from channels 0))

  module _ (s : Sweep) where
    pub in_order : (c : ℕ) → Passes test c → Memᴰ c (search_order test s)
    unfolding search_order
    in_order c p = mem_sort (comes_before (level_at s)) c (channels_that test) (mem_keep test c (from channels 0) (mem_from channels 0 c (omega arith) (omega (arith, p.0))) p.1)
