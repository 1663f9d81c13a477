-- What rows and a depth are where their record is well formed: a fine depth, few enough rows, each channel once, and each row in range.
use Prim.Native.Nat.{ℕ, ◌≤◌}
use mathlib.Core.Path.{◌≡◌}
use mathlib.Core.Bool.{Bool, true, ◌&&◌}
use mathlib.Core.List.{List}
use lib.Dec.{leb}
use lib.IntN.{ℤ}
use lib.ListN.{length}
use borrow.Author.Tests.{leb-true}
use Rattle.readings_rules.specs.Ranges.{level_in_range}
use Rattle.watch_rules.specs.Lists.{distinct, every}
use Rattle.readings_rules.specs.Channels.{channel_in_range}
use Rattle.watch_rules.specs.Limits.{room}
use Rattle.watch_rules.specs.Rows.{Row, channels}
use Rattle.watch_rules.specs.Record.{depth_fine}
use Rattle.watch_rules.proofs.Laws.{and_left, and_right}

-- levels that a channel may have
abbrev pub levels_ok : ℕ → List ℤ → Bool
levels_ok d l = leb (length l) d && every level_in_range l

abbrev pub row_fine : ℕ → Row → Bool
row_fine d r = channel_in_range r.channel && levels_ok d r.levels

pub record Good (d : ℕ) (rs : List Row) : Type 0 where
  pub depth : depth_fine (length rs) d ≡ true
  pub short : leb (length rs) room ≡ true
  pub apart : distinct (channels rs) ≡ true
  pub fine : every (row_fine d) rs ≡ true

pub good_fits : {d : ℕ} (rs : List Row) → Good d rs → length rs ≤ room
good_fits rs g = leb-true (length rs) room g.short

pub few_levels : (d : ℕ) (l : List ℤ) → levels_ok d l ≡ true → length l ≤ d
few_levels d l e = leb-true (length l) d (and_left (leb (length l) d) (every level_in_range l) e)

pub ranged_levels : (d : ℕ) (l : List ℤ) → levels_ok d l ≡ true → every level_in_range l ≡ true
ranged_levels d l e = and_right (leb (length l) d) (every level_in_range l) e
