-- Document 01, section The band sweep: the next channel.
use Rattle.std.specs.Prelude.{ℕ, zero, suc, Bool, cond}
use Rattle.refusal.specs.declared.Refusal.TheVariants.{RecordNotWellFormed}
use Rattle.refusal.specs.Told.{Told, gives, provided}
use Rattle.sweep_rules.specs.Record.{first_swept, swept_channels, visited, well_formed}
use Rattle.sweep_rules.specs.declared.Sweep.{Sweep}

-- a channel, or done
pub data Next : Type 0 where
  channel : ℕ → Next
  done : Next

-- the lowest of the n channels from c on that does not pass the test, or done
unfoldable pub lowest_not : (ℕ → Bool) → ℕ → ℕ → Next
lowest_not p zero c = done
lowest_not p (suc n) c = cond (p c) (lowest_not p n (suc c)) (channel c)

-- the lowest in 2 to 1,086 not visited, or done
unfoldable pub next_of : Sweep → Next
next_of s = lowest_not (visited s) swept_channels first_swept

-- what the call tells: refusal 9 alone
unfoldable pub next_told : Sweep → Told Next
next_told s = provided (well_formed s) RecordNotWellFormed (gives (next_of s))
