-- Document 01, section The band sweep: "The numbers visited and heard are the counts of set bits in the maps."
use Rattle.std.specs.Prelude.{ℕ}
use Rattle.refusal.specs.declared.Refusal.TheVariants.{RecordNotWellFormed}
use Rattle.refusal.specs.Told.{Told, gives, provided}
use Rattle.sweep_rules.specs.Map.{set_bits}
use Rattle.sweep_rules.specs.Record.{well_formed}
use Rattle.sweep_rules.specs.declared.Sweep.{Sweep}

-- the numbers visited and heard
pub record Counts : Type 0 where
  pub visited : ℕ
  pub heard : ℕ

-- the counts of set bits in the maps
unfoldable pub counts_of : Sweep → Counts
counts_of s = record { visited = set_bits s.visited; heard = set_bits s.heard }

-- what the call tells: refusal 9 alone
unfoldable pub counts_told : Sweep → Told Counts
unfolding counts_of
counts_told s = provided (well_formed s) RecordNotWellFormed (gives (counts_of s))
