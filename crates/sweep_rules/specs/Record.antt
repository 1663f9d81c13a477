-- Document 01, section The band sweep: the sweep record, when it is finished, and when it is well formed.
use Rattle.std.specs.Prelude.{ℕ, Bool, true, false, ◌&&◌, ◌||◌, not, get_or, replicate, ℤ, pos, nat_abs, eqb, leb}
use Rattle.readings_rules.specs.Ranges.{level_in_range}
use Rattle.sweep_rules.specs.Map.{channels, words, is_set, all_below}
use Rattle.sweep_rules.specs.declared.Sweep.{Sweep}

-- the sweep visits channels 2 to 1,086
abbrev pub first_swept : ℕ
first_swept = 2

abbrev pub last_swept : ℕ
last_swept = 1086

-- a channel that the sweep visits
abbrev pub swept : ℕ → Bool
swept c = leb first_swept c && leb c last_swept

-- 1,085 of them
abbrev pub swept_channels : ℕ
swept_channels = 1085

-- channel c is visited
abbrev pub visited : Sweep → ℕ → Bool
visited s c = is_set s.visited c

-- channel c is heard
abbrev pub heard : Sweep → ℕ → Bool
heard s c = is_set s.heard c

-- the level of channel c, in hundredths
abbrev pub level_at : Sweep → ℕ → ℤ
level_at s c = get_or s.levels c (pos 0)

-- a fresh record is all zero
unfoldable pub fresh_sweep : Sweep
fresh_sweep = record { levels = replicate channels (pos 0); visited = replicate words 0; heard = replicate words 0 }

-- where a holds, b does
abbrev pub implies : Bool → Bool → Bool
implies true b = b
implies false b = true

-- a test holds of every channel number
abbrev pub every_channel : (ℕ → Bool) → Bool
every_channel p = all_below channels p

-- a sweep is finished when all 1,085 are visited
unfoldable pub finished : Sweep → Bool
finished s = every_channel (λ c. implies (swept c) (visited s c))

-- a level of 0; a plain 0, wherever the range of levels ends
abbrev pub is_zero : ℤ → Bool
is_zero l = eqb (nat_abs l) 0

-- the first part of well formed: heard only where visited
unfoldable pub heard_where_visited : Sweep → Bool
heard_where_visited s = every_channel (λ c. implies (heard s c) (visited s c))

-- the second: no bit outside 2 to 1,086
unfoldable pub no_bit_outside : Sweep → Bool
no_bit_outside s = every_channel (λ c. implies (visited s c || heard s c) (swept c))

-- the third: level 0 where not heard
unfoldable pub zero_where_not_heard : Sweep → Bool
zero_where_not_heard s = every_channel (λ c. implies (not (heard s c)) (is_zero (level_at s c)))

-- the fourth: each level in its range
unfoldable pub levels_in_range : Sweep → Bool
levels_in_range s = every_channel (λ c. level_in_range (level_at s c))

-- a well formed record has all four
unfoldable pub well_formed : Sweep → Bool
well_formed s = heard_where_visited s && no_bit_outside s && zero_where_not_heard s && levels_in_range s
