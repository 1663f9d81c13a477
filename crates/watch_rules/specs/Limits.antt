-- Document 01, section The watch: the numbers of the watch, each named once, here. The range of a level and the channel numbers are the readings' matter.
use Rattle.std.specs.Prelude.{ℕ, suc, Bool, ◌&&◌, leb, ℤ, pos}
use Rattle.std.specs.Int.Signed.{le_z}

-- a watch has a serving channel and 0 to 6 neighbours
abbrev pub list_limit : ℕ
list_limit = 6

-- a hysteresis lies in 0 to 6,000 hundredths
abbrev pub hysteresis_highest : ℕ
hysteresis_highest = 6000

abbrev pub hysteresis_in_range : ℤ → Bool
hysteresis_in_range h = le_z (pos 0) h && le_z h (pos hysteresis_highest)

-- a channel's levels are the last ones, as many as the depth of the watch, or all if fewer; a channel with that many is compared. The
-- depth, 5 to 31, is given at the start of a watch
abbrev pub depth_lowest : ℕ
depth_lowest = 5

abbrev pub depth_highest : ℕ
depth_highest = 31

abbrev pub depth_in_range : ℕ → Bool
depth_in_range d = leb depth_lowest d && leb d depth_highest

-- how many levels a track of the record has room for, no fewer than the highest depth, and how many tracks a record
abbrev pub capacity : ℕ
capacity = 32

abbrev pub room : ℕ
room = suc list_limit
