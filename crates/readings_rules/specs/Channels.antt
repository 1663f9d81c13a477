-- Document 01, section The band sweep: the channel numbers, under which readings are filed. The one place where their end stands.
use Rattle.std.specs.Prelude.{ℕ, Bool, leb}

-- channel numbers run 0 to 1,087
abbrev pub channel_highest : ℕ
channel_highest = 1087

abbrev pub channel_in_range : ℕ → Bool
channel_in_range c = leb c channel_highest
