-- Document 01, section The band sweep: "a map of visited channels and a map of heard ones, a bit per channel". A map is a list of words of 64 bits.
use Rattle.std.specs.Prelude.{ℕ, zero, suc, ◌+◌, ◌/◌, ◌%◌, ◌^◌, Bool, true, ◌&&◌, cond, List, get_or, set, eqb}
use Rattle.readings_rules.specs.Channels.{channel_highest}

-- how many channel numbers there are: 0 to 1,087
abbrev pub channels : ℕ
channels = suc channel_highest

-- the bits of a word
abbrev pub word_bits : ℕ
word_bits = 64

-- a map has 17 words: as many bits as there are channel numbers
abbrev pub words : ℕ
words = 17

-- the bit at place k of a word is set; place 0 is the lowest
unfoldable pub bit_at : ℕ → ℕ → Bool
bit_at w k = eqb (w / 2 ^ k % 2) 1

-- the map's bit of channel c is set: place c % 64 of word c / 64
unfoldable pub is_set : List ℕ → ℕ → Bool
unfolding bit_at
is_set m c = bit_at (get_or m (c / word_bits) 0) (c % word_bits)

-- the map with the bit of channel c set
unfoldable pub with_bit : List ℕ → ℕ → List ℕ
unfolding is_set
with_bit m c = cond (is_set m c) m (set m (c / word_bits) (get_or m (c / word_bits) 0 + 2 ^ (c % word_bits)))

-- a test holds of every number below n
unfoldable pub all_below : ℕ → (ℕ → Bool) → Bool
all_below zero p = true
all_below (suc n) p = all_below n p && p n

-- how many numbers below n pass a test
unfoldable pub how_many : ℕ → (ℕ → Bool) → ℕ
how_many zero p = 0
how_many (suc n) p = cond (p n) (suc (how_many n p)) (how_many n p)

-- the number of set bits in a map: the number of channels whose bit is set
unfoldable pub set_bits : List ℕ → ℕ
set_bits m = how_many channels (is_set m)
