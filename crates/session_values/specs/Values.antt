-- The numbers of a line: its words read as numbers, by their places from 0 on. A word that is none of the kind counts as 0; a row asks for the
-- kinds that it names alone, and a line that has the row has them.
use Rattle.std.specs.Prelude.{ℕ, suc, ◌+◌, ◌-◌, List, [], ◌∷◌, length, take, ℤ, pos, Float, unwrap_or}
use Rattle.std.specs.Float.{binary32}
use Rattle.std.specs.Float.Ieee.{of_bits}
use Rattle.readings_rules.specs.declared.Burst.{Burst}
use Rattle.readings_rules.specs.declared.Burst.TheVariants.{Heard}
use Rattle.session_words.specs.Words.{word_at}
use Rattle.session_numbers.specs.Numbers.{channel_of, byte_of, int_of, num_of}

-- the float 0
abbrev pub zero_num : Float
zero_num = of_bits binary32 0

-- a word as a channel
abbrev pub channel : List ℕ → ℕ
channel w = unwrap_or (channel_of w) 0

-- the channel, the byte, the whole number and the float at a place
unfoldable pub CH : List (List ℕ) → ℕ → ℕ
CH ws k = channel (word_at ws k)

unfoldable pub BYTE : List (List ℕ) → ℕ → ℕ
BYTE ws k = unwrap_or (byte_of (word_at ws k)) 0

unfoldable pub INT : List (List ℕ) → ℕ → ℤ
INT ws k = unwrap_or (int_of (word_at ws k)) (pos 0)

unfoldable pub NUM : List (List ℕ) → ℕ → Float
NUM ws k = unwrap_or (num_of (word_at ws k)) zero_num

-- a burst that was heard: the level at a place, and the quality after it
abbrev pub heard : List (List ℕ) → ℕ → Burst Float
heard ws k = Heard (record { level = NUM ws k; quality = NUM ws (suc k) })

-- the 8 words from a place on, as the channels of a list
abbrev pub listed : List (List ℕ) → ℕ → List ℕ
listed ws k = CH ws k ∷ CH ws (k + 1) ∷ CH ws (k + 2) ∷ CH ws (k + 3) ∷ CH ws (k + 4) ∷ CH ws (k + 5) ∷ CH ws (k + 6) ∷ CH ws (k + 7) ∷ []

-- those of them that the line has
unfoldable pub channels_of : List (List ℕ) → ℕ → List ℕ
channels_of ws k = take (length ws - k) (listed ws k)
