-- All that is used of the depth of a watch: it lies in its range where a channel serves, and the record has room for it.
use Prim.Native.Nat.{ℕ, zero, suc, ◌≤◌, ◌<◌}
use mathlib.Core.Path.{◌≡◌}
use mathlib.Core.Bool.{true}
use native.Mathlib.Omega.{arith}
use lib.Dec.{leb}
use borrow.Author.Tests.{eqb-true, leb-true}
use Rattle.watch_rules.specs.Limits.{depth_lowest, depth_highest, depth_in_range, capacity}
use Rattle.watch_rules.specs.Record.{depth_fine}
use Rattle.watch_rules.proofs.Laws.{and_left, and_right}

pub depth_low : (d : ℕ) → depth_in_range d ≡ true → depth_lowest ≤ d
depth_low d e = leb-true depth_lowest d (and_left (leb depth_lowest d) (leb d depth_highest) e)

pub depth_high : (d : ℕ) → depth_in_range d ≡ true → d ≤ depth_highest
depth_high d e = leb-true d depth_highest (and_right (leb depth_lowest d) (leb d depth_highest) e)

pub depth_within : (n d : ℕ) → depth_fine n d ≡ true → d ≤ capacity
depth_within zero d e = omega (arith, eqb-true d 0 e)
depth_within (suc n) d e = omega (arith, depth_high d e)

pub depth_used : (n d : ℕ) → 0 < n → depth_fine n d ≡ true → depth_in_range d ≡ true
depth_used zero d h e = absurd (omega arith)
depth_used (suc n) d h e = e
