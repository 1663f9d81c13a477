-- What the private functions of the sweep return. No reader of the public contracts needs this file.
use Rattle.std.specs.Prelude.{ℕ, ◌+◌, Bool, ◌&&◌, ◌||◌, List, get_or, ℤ, pos}
use Rattle.readings_rules.specs.Ranges.{level_in_range}
use Rattle.sweep_rules.specs.Map.{word_bits, is_set, bit_at, all_below}
use Rattle.sweep_rules.specs.Record.{implies, swept, every_channel, is_zero}

-- the bits of half a word
abbrev pub half_bits : ℕ
half_bits = 32

-- a level as it may stand beside its channel's bit in the heard map
abbrev pub level_fine : ℤ → Bool → Bool
level_fine l h = level_in_range l && (is_zero l || h)

-- the k levels from `at` on stand as they may beside a word of the heard map
unfoldable pub levels_fine : List ℤ → ℕ → ℕ → ℕ → Bool
unfolding bit_at all_below
levels_fine levels at h k = all_below k (λ j. level_fine (get_or levels (at + j) (pos 0)) (bit_at h j))

-- a word of the maps, with its levels from `at` on, stands as it may: heard only where visited, and the levels so
unfoldable pub word_fine : List ℤ → ℕ → ℕ → ℕ → Bool
unfolding levels_fine
word_fine levels at v h = all_below word_bits (λ k. implies (bit_at h k) (bit_at v k)) && levels_fine levels at h word_bits

-- no channel outside 2 to 1,086 is marked in a map
unfoldable pub ends_clear : List ℕ → Bool
ends_clear m = every_channel (λ c. implies (is_set m c) (swept c))
