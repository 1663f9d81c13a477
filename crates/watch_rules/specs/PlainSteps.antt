-- Document 01, section The plain watch, and document 02's new beam, in their own words: what the plain watch holds at the beginning and after
-- each accepted call, without the definitions of `Plain`. `Claims.PlainRule` says that its steps are these.
use Rattle.std.specs.Prelude.{ℕ, ◌<◌, ◌≡◌, ◌↔◌, true, false, List, [], ◌∷◌, ◌++◌, ℤ}
use Rattle.std.proofs.Math.Option.{none, some}
use Rattle.watch_rules.specs.Lists.{times_in}
use Rattle.watch_rules.specs.Plain.{Plain}
use Rattle.watch_rules.specs.Refusals.{Watched}

-- "It begins idle.": nothing serves, nothing is under watch, and no depth was given
pub record IsIdle (q : Plain) : Type 0 where
  pub depth : q.depth ≡ 0
  pub serving : q.serving ≡ none
  pub neighbours : (c : ℕ) → q.neighbour c ≡ false
  pub levels : (c : ℕ) → q.levels c ≡ []

-- "Start: that channel serves, under watch from now, without levels. Nothing else is under watch." "The depth .. is given at the start of a
-- watch and stays for its life."
pub record Started (c n : ℕ) (q : Plain) : Type 0 where
  pub depth : q.depth ≡ n
  pub serving : q.serving ≡ some c
  pub neighbours : (d : ℕ) → q.neighbour d ≡ false
  pub levels : (d : ℕ) → q.levels d ≡ []

-- ".. one call with a new serving channel and a list. Each channel watched before and after keeps its levels, in whichever role; the rest is as
-- document 01 says for a new list": "the neighbours are the set of its channels. .. any other comes under watch now, without levels. A dropped
-- one's are gone." The depth "stays for its life"
pub record BeamTaken (p : Plain) (s : ℕ) (l : List ℕ) (q : Plain) : Type 0 where
  pub depth : q.depth ≡ p.depth
  pub serving : q.serving ≡ some s
  pub neighbours : (c : ℕ) → (q.neighbour c ≡ true) ↔ (0 < times_in c l)
  pub kept : (c : ℕ) → Watched p c → Watched q c → q.levels c ≡ p.levels c
  pub others : (c : ℕ) → ¬ (Watched p c) → q.levels c ≡ []
  pub dropped : (c : ℕ) → ¬ (Watched q c) → q.levels c ≡ []

-- "File: a heard level's hundredths go to the end of that channel's levels."
pub record Filed (p : Plain) (c : ℕ) (level : ℤ) (q : Plain) : Type 0 where
  pub depth : q.depth ≡ p.depth
  pub serving : q.serving ≡ p.serving
  pub neighbours : (d : ℕ) → q.neighbour d ≡ p.neighbour d
  pub newest : q.levels c ≡ p.levels c ++ level ∷ []
  pub others : (d : ℕ) → ¬ (d ≡ c) → q.levels d ≡ p.levels d
