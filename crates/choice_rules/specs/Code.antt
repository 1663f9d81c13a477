-- What the private functions of the choice return: the search order by one number for each channel, its key. No reader of the public contract
-- needs this file; `proofs/KeyOrder.antt` shows that the keys give the search order of `Order.antt`.
use Rattle.std.specs.Prelude.{ℕ, suc, ◌+◌, ◌*◌, ◌/◌, ◌%◌, ◌<◌, ◌≤◌, min, ◌≡◌, cond, List, [], ◌∷◌, map, length, ℤ, nat_abs, ◌-ℤ◌, eqb, leb, ltb}
use Rattle.readings_rules.specs.Ranges.{level_highest}
use Rattle.sweep_rules.specs.Map.{channels}
use Rattle.choice_rules.specs.Order.{beginning, sort_by}
use Rattle.choice_rules.specs.Choose.{not_read, suitable, outcome_at, margin_highest, Chosen, camp, read, no_beam}

-- how far a level lies below the top of its range
abbrev pub depth : ℤ → ℕ
depth level = nat_abs (level_highest -ℤ level)

-- more than any channel number
abbrev pub key_step : ℕ
key_step = 2048

-- a channel's key: a lesser key comes earlier in the search order
abbrev pub key_of : ℤ → ℕ → ℕ
key_of level c = depth level * key_step + c

-- the keys of the channels that pass a test, by rising channel
unfoldable pub keys_of : (ℕ → ℤ) → List ℕ → List ℕ
keys_of level cs = map (λ c. key_of (level c) c) cs

-- greater than any key; the scan adds it to the keys that it has passed
abbrev pub passed : ℕ
passed = 1073741824

-- a property of each element
abbrev pub All : (ℕ → Type 0) → List ℕ → Type 0
All P [] = Unit {0}
All P (c ∷ cs) = P c × All P cs

-- no two are the same
abbrev pub Apart : List ℕ → Type 0
Apart [] = Unit {0}
Apart (c ∷ cs) = All (λ d. c ≡ d → ⊥) cs × Apart cs

-- what the walk asks of the keys: each is of a channel and small, and no two are the same
pub record Keyed (ks : List ℕ) : Type 0 where
  pub small : All (λ k. (k % key_step < channels) × (k < passed)) ks
  pub apart : Apart ks

-- what the scan keeps: the lesser of `next` and a key; one below `from` counts as greater than all others
abbrev pub lesser_of : ℕ → ℕ → ℕ → ℕ
lesser_of from key next = min (cond (ltb key from) (key + passed) key) next

-- the keys at most m deeper than the first
unfoldable pub near_keys : ℕ → List ℕ → List ℕ
near_keys m [] = []
near_keys m (k ∷ ks) = beginning (λ j. leb (j / key_step) (k / key_step + m)) (k ∷ ks)

-- the first of a list of keys whose channel has outcome 0 or 1, with the number tried, n before these
unfoldable pub walk_over : (ℕ → ℕ) → List ℕ → ℕ → Chosen
walk_over outcome [] n = no_beam n
walk_over outcome (k ∷ ks) n =
    cond (eqb (outcome (k % key_step)) not_read) (read (k % key_step) (suc n))
    (cond (eqb (outcome (k % key_step)) suitable) (camp (k % key_step) (suc n))
    (walk_over outcome ks (suc n)))

-- what the walk comes to
unfoldable pub walked : List ℕ → ℕ → List ℕ → Chosen
walked ks m o = walk_over (outcome_at o) (near_keys m (sort_by ltb ks)) 0

-- what the walk asks of the keys, the margin and the string
pub record Walkable (keys : List ℕ) (margin : ℕ) (outcomes : List ℕ) : Type 0 where
  pub few : length keys ≤ channels
  pub keyed : Keyed keys
  pub small : margin ≤ nat_abs margin_highest
  pub string : length outcomes ≡ channels
