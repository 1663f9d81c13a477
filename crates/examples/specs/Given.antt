-- What document 01's checked examples are about: floats, a sweep, outcome bytes, calls of a watch, power parameters and messages.
use Rattle.std.specs.Prelude.{ℕ, List, [], ◌∷◌, ◌++◌, replicate, set, ℤ, pos, neg_ℤ, Float}
use Rattle.std.specs.Float.{binary32}
use Rattle.std.specs.Float.Ieee.{of_bits}
use Rattle.refusal.specs.Told.{Told, refused, gives}
use Rattle.readings_rules.specs.declared.Burst.{Burst}
use Rattle.readings_rules.specs.declared.Burst.TheVariants.{Heard}
use Rattle.sweep_rules.specs.Map.{channels, with_bit}
use Rattle.sweep_rules.specs.Record.{fresh_sweep}
use Rattle.sweep_rules.specs.declared.Sweep.{Sweep}
use Rattle.watch_rules.specs.Told.{Call, start, new_beam, file, Given}
use Rattle.watch_rules.specs.Record.{fresh, called, after_from}
use Rattle.power_rules.specs.declared.PowerParameters.{PowerParameters}
use Rattle.power_rules.specs.declared.PowerRecord.{PowerRecord}
use Rattle.power_rules.specs.declared.Decoded.{Decoded}
use Rattle.power_rules.specs.Calls.{ToSend, started, stepped}

-- so many hundredths below 0
abbrev pub minus : ℕ → ℤ
minus n = neg_ℤ (pos n)

-- ---- readings

-- the single float with these 32 bits
abbrev pub single : ℕ → Float
single bits = of_bits binary32 bits

-- ---- the choice

-- the map of visited channels of a finished sweep: a bit for each of 2 to 1,086
abbrev pub all_visited : List ℕ
all_visited = 0xffff_ffff_ffff_fffc ∷ (replicate 15 0xffff_ffff_ffff_ffff ++ (0x7fff_ffff_ffff_ffff ∷ []))

-- a finished sweep that heard nothing
unfoldable pub nothing_heard : Sweep
unfolding fresh_sweep
nothing_heard = record { levels = fresh_sweep.levels; visited = all_visited; heard = fresh_sweep.heard }

-- "Heard 100 and 200 at -9,000, 300 at -9,300, rest missed."
unfoldable pub three_heard : Sweep
unfolding fresh_sweep with_bit
three_heard =
    record {
      levels = set (set (set fresh_sweep.levels 100 (minus 9000)) 200 (minus 9000)) 300 (minus 9300);
      visited = all_visited;
      heard = with_bit (with_bit (with_bit fresh_sweep.heard 100) 200) 300;
    }

-- "nothing read": byte 0 is not read yet
unfoldable pub nothing_read : List ℕ
nothing_read = replicate channels 0

-- "100 barred, 200 other network, 300 suitable": bytes 2, 4 and 1
unfoldable pub three_read : List ℕ
unfolding nothing_read
three_read = set (set (set nothing_read 100 2) 200 4) 300 1

-- ---- the watch

-- heard at the level with these bits, and a quality of 0 dB
abbrev pub heard_at : ℕ → Burst Float
heard_at bits = Heard (record { level = single bits; quality = single 0 })

-- what a call answers after these calls from a fresh watch
abbrev pub answer_after : List Call → Call → Told Given
answer_after ks k = (called (after_from fresh ks) k).answer

-- channel 100 serves alone
abbrev pub serving : List Call
serving = start 100 15 ∷ []

-- "Two levels -1 and -2": -0.01 and -0.02 dBm, for channel 100
abbrev pub two_levels : List Call
two_levels = start 100 15 ∷ file 100 (heard_at 0xbc23_d70a) ∷ file 100 (heard_at 0xbca3_d70a) ∷ []

-- "Serving 15 times -10,000, a neighbour 15 times -9,700", the depth for 15: channels 100 and 200, -100 and -97 dBm, the serving channel n times
abbrev pub two_channels : ℕ → ℕ → List Call
two_channels depth n =
    start 100 depth ∷ new_beam 100 (200 ∷ []) ∷ (replicate n (file 100 (heard_at 0xc2c8_0000)) ++ replicate depth (file 200 (heard_at 0xc2c2_0000)))

-- 0 dBm, then n times -1 dBm, for channel 100 at depth 31
abbrev pub first_and_more : ℕ → List Call
first_and_more n = start 100 31 ∷ file 100 (heard_at 0) ∷ replicate n (file 100 (heard_at 0xbf80_0000))

-- ---- power steps

-- "SQT 85, both gains 10"; "PANinit 30, limits 0 and 60, Mestep 3"
abbrev pub parameters : PowerParameters
parameters = record { sqt = 85; paninit = 30; panmin = 0; panmax = 60; gainup = 10; gaindn = 10; mestep = 3 }

-- the same with a GainUp of 31, so that the two gains differ
abbrev pub unequal_gains : PowerParameters
unequal_gains = record { sqt = 85; paninit = 30; panmin = 0; panmax = 60; gainup = 31; gaindn = 10; mestep = 3 }

-- the record at the start
abbrev pub at_start : PowerRecord
at_start = (started parameters).power

-- the PAR of a step's answer, and the PAN; a refusal stays one
abbrev pub par_of : Told ToSend → Told ℤ
par_of (gives s) = gives s.par
par_of (refused n) = refused n

abbrev pub pan_of : Told ToSend → Told ℤ
pan_of (gives s) = gives s.pan
pan_of (refused n) = refused n

-- the PAN sent after each of these messages, all at the quality aimed at, 8.5 dB
abbrev pub pans_sent : PowerRecord → List Decoded → List (Told ℤ)
pans_sent r [] = []
pans_sent r (d ∷ ds) = pan_of (stepped parameters r d (pos 850)).answer ∷ pans_sent (stepped parameters r d (pos 850)).power ds
