-- What the definitions of filing come to in each case.
use Rattle.std.specs.Prelude.{Float}
use Prim.Native.Nat.{ℕ}
use mathlib.Core.Path.{◌≡◌, refl, sym, ap, ◌∙◌}
use mathlib.Core.Bool.{true, false}
use mathlib.Core.List.{List}
use lib.ListN.{set}
use lib.IntN.{ℤ}
use Rattle.refusal.specs.declared.Refusal.TheVariants.{ChannelOutOfRange, ChannelVisited, RecordNotWellFormed}
use Rattle.refusal.specs.declared.Reason.{Reason}
use Rattle.refusal.specs.Told.{Told, refused, gives, refused_for, accepted, acceptance, told}
use Rattle.refusal.proofs.OneToOne.{gives_refused}
use Rattle.refusal.proofs.Provided.{same_reason}
use Rattle.readings_rules.specs.declared.Burst.{Burst}
use Rattle.readings_rules.specs.Burst as readings
use Rattle.readings_rules.specs.Burst.{BurstResult, burst_of}
use Rattle.sweep_rules.specs.Map.{with_bit}
use Rattle.sweep_rules.specs.Record.{swept, visited, well_formed}
use Rattle.sweep_rules.specs.Filing.{with_missed, with_heard, with_burst, filing, leaves}
use Rattle.sweep_rules.specs.declared.Sweep.{Sweep}
use Rattle.refusal.specs.declared.Handed.{Handed}

-- ---- the record made of its parts

pub missed_is : (s : Sweep) (c : ℕ) (v : List ℕ) → v ≡ with_bit s.visited c → record { levels = s.levels; visited = v; heard = s.heard } ≡ with_missed s c
unfolding with_missed
missed_is s c v p = rw p

pub heard_is : (s : Sweep) (c : ℕ) (level y : ℤ) (v h : List ℕ) → y ≡ level → v ≡ with_bit s.visited c → h ≡ with_bit s.heard c
    → record { levels = set s.levels c y; visited = v; heard = h } ≡ with_heard s c level
unfolding with_heard
heard_is s c level y v h e p q = rw (e, p, q)

-- ---- refusals, in their order

module _ (s : Sweep) (c : ℕ) (b : Burst Float) where
  pub file_9 : well_formed s ≡ false → filing s c b ≡ refused_for RecordNotWellFormed
  unfolding filing
  file_9 w = rw w

  pub file_2 : well_formed s ≡ true → swept c ≡ false → filing s c b ≡ refused_for ChannelOutOfRange
  unfolding filing
  file_2 w i = rw (w, i)

  pub file_3 : well_formed s ≡ true → swept c ≡ true → visited s c ≡ true → filing s c b ≡ refused_for ChannelVisited
  unfolding filing
  file_3 w i v = rw (w, i, v)

  -- no refusal but that of the reading
  pub file_in : well_formed s ≡ true → swept c ≡ true → visited s c ≡ false → filing s c b ≡ with_burst s c (burst_of b)
  unfolding filing
  file_in w i v = rw (w, i, v)

pub burst_missed : (s : Sweep) (c : ℕ) (t : Told BurstResult) → t ≡ gives readings.missed → with_burst s c t ≡ gives (with_missed s c)
unfolding with_burst
burst_missed s c t e = rw e

pub burst_heard : (s : Sweep) (c : ℕ) (t : Told BurstResult) (level quality : ℤ) → t ≡ gives (readings.heard level quality) → with_burst s c t ≡ gives (with_heard s c level)
unfolding with_burst
burst_heard s c t level quality e = rw e

pub burst_refused : (s : Sweep) (c : ℕ) (t : Told BurstResult) (n : Reason) → t ≡ refused n → with_burst s c t ≡ refused n
unfolding with_burst
burst_refused s c t n e = rw e

-- only a refused burst makes a filing refused after the other tests
pub by_burst : (s : Sweep) (c : ℕ) (t : Told BurstResult) (n : Reason) → with_burst s c t ≡ refused n → t ≡ refused n
unfolding with_burst
by_burst s c (gives readings.missed) n e = absurd (gives_refused e)
by_burst s c (gives (readings.heard level quality)) n e = absurd (gives_refused e)
by_burst s c (refused m) n e = ap refused (same_reason refl e)

-- ---- what a call hands back

module _ (s : Sweep) (t : Told Sweep) (r : Handed Sweep Unit) where
  pub hands_refused : (n : Reason) → t ≡ refused n → (r.state ≡ s) × (told r.answer ≡ refused n)
      → (r.state ≡ leaves s t) × (told r.answer ≡ acceptance t)
  hands_refused n e h = (h.0 ∙ sym (ap (leaves s) e), h.1 ∙ sym (ap acceptance e))

  pub hands_accepted : (u : Sweep) → t ≡ gives u → (r.state ≡ u) × (told r.answer ≡ accepted)
      → (r.state ≡ leaves s t) × (told r.answer ≡ acceptance t)
  hands_accepted u e h = (h.0 ∙ sym (ap (leaves s) e), h.1 ∙ sym (ap acceptance e))
