-- Document 01, sections The watch and Refusal numbers: when a call is refused, and what it answers. The rules speak of what a watch
-- shows: its depth, who serves, who is a neighbour, and the levels of each channel. So the plain watch shares them, and none knows a place but the
-- one that says what is wrong with a list.
use Rattle.std.specs.Prelude.{ℕ, zero, suc, Bool, true, false, not, cond, ◌&&◌, ◌||◌, List, [], ◌∷◌, ◌++◌, eqb, leb, ℤ, pos, ◌+ℤ◌, ◌*ℤ◌, length}
use Rattle.std.proofs.Math.Option.{Option, none, some}
use Rattle.std.specs.Int.Signed.{lt_z, shr_z}
use Rattle.refusal.specs.declared.Refusal.TheVariants.{ChannelOutOfRange, NotWatched, ParameterOutOfRange, ListTooLong, ListedOutOfRange, ListedAgain, ListedServing}
use Rattle.refusal.specs.Told as refusal
use Rattle.refusal.specs.Told.{Told, provided, acceptance, giving}
use Rattle.readings_rules.specs.Burst.{burst_of}
use Rattle.watch_rules.specs.Lists.{mem, is, sum}
use Rattle.readings_rules.specs.Channels.{channel_highest, channel_in_range}
use Rattle.watch_rules.specs.Limits.{list_limit, hysteresis_in_range, depth_in_range}
use Rattle.watch_rules.specs.Told.{Call, start, new_beam, file, ask, verdict, Given, accepted, levels, wait, stay, move_to}

-- what a watch shows: the levels are a channel's last ones, as many as the depth or all if fewer, oldest first; a channel not under watch
-- has none, and an idle watch has depth 0
pub record View : Type 0 where
  pub depth : ℕ
  pub serving : Option ℕ
  pub neighbour : ℕ → Bool
  pub levels : ℕ → List ℤ

-- whether a channel is under watch
abbrev pub watched : View → ℕ → Bool
watched v c = is v.serving c || v.neighbour c

-- whether there is a serving channel: an idle watch has none
abbrev pub serves : Option ℕ → Bool
serves none = false
serves (some s) = true

-- ---- refusals

-- A list, "judged against the new serving channel": "Places are looked at in rising order and the first faulty one is told; in one place the
-- order is range, serving, repeat of an earlier place." A place is counted from 0, so it is the number of channels that stand before it.

-- this answer where the channel behind these has no fault, else its fault and place
abbrev pub unless_faulty_at : ℕ → List ℕ → ℕ → Told Unit → Told Unit
unless_faulty_at s earlier c answer =
    provided (channel_in_range c) (ListedOutOfRange (length earlier))
    (provided (not (eqb s c)) (ListedServing (length earlier))
    (provided (not (mem c earlier)) (ListedAgain (length earlier))
    answer))

-- the same of the channels behind these, one place after the other
abbrev pub unless_faulty_from : ℕ → List ℕ → List ℕ → Told Unit → Told Unit
unless_faulty_from s earlier [] answer = answer
unless_faulty_from s earlier (c ∷ more) answer = unless_faulty_at s earlier c (unless_faulty_from s (earlier ++ c ∷ []) more answer)

-- the same of the list of a serving channel: "11 over 6 channels (no place)" comes first
abbrev pub unless_faulty : ℕ → List ℕ → Told Unit → Told Unit
unless_faulty s l answer = provided (leb (length l) list_limit) ListTooLong (unless_faulty_from s [] l answer)

-- whether a call is accepted, or why it is refused, in the order 7, 2, 11 to 14, 6, 1; 9 is a matter of the record alone. 1 is that of the
-- burst: a float of it lies outside its range
abbrev pub allowed : View → Call → Told Unit
allowed v (start c d) = provided (depth_in_range d) ParameterOutOfRange (provided (channel_in_range c) ChannelOutOfRange refusal.accepted)
allowed v (new_beam s l) =
    provided (channel_in_range s) ChannelOutOfRange
    (unless_faulty s l (provided (serves v.serving) NotWatched refusal.accepted))
allowed v (file c b) = provided (watched v c) NotWatched (acceptance (burst_of b))
allowed v (ask c) = provided (watched v c) NotWatched refusal.accepted
allowed v (verdict h) = provided (hysteresis_in_range h) ParameterOutOfRange (provided (serves v.serving) NotWatched refusal.accepted)

-- ---- ask

-- the largest whole number not above sum / count; 0 for a count of 0. `shr_z` rounds down (`Claims.IsMean` says it in these words)
abbrev pub mean : List ℤ → ℤ
mean [] = pos 0
mean (x ∷ xs) = shr_z (sum (x ∷ xs)) (length (x ∷ xs))

-- ---- verdict

-- whether levels are no fewer than the depth
unfoldable pub full : ℕ → List ℤ → Bool
full d l = leb d (length l)

-- the levels of the serving channel; none where none serves
abbrev pub levels_if : View → Option ℕ → List ℤ
levels_if v none = []
levels_if v (some s) = v.levels s

abbrev pub serving_levels : View → List ℤ
serving_levels v = levels_if v v.serving

-- whether a channel's sum exceeds the serving sum by more than the hysteresis times the depth
abbrev pub exceeds : View → ℤ → ℕ → Bool
exceeds v h c = lt_z (sum (serving_levels v) +ℤ pos v.depth *ℤ h) (sum (v.levels c))

-- whether a channel counts at a hysteresis: the serving channel has its levels, as many as the depth, and it is a neighbour with as many
-- that exceeds
unfoldable pub counts : View → ℤ → ℕ → Bool
counts v h c = full v.depth (serving_levels v) && (v.neighbour c && (full v.depth (v.levels c) && exceeds v h c))

-- of the channels below n that pass a test, the one with the greatest sum, the lowest channel number among equals: channel by channel
-- from 0, a later one is better only where its sum is greater
abbrev pub better : (ℕ → ℤ) → ℕ → Option ℕ → Option ℕ
better f c none = some c
better f c (some b) = cond (lt_z (f b) (f c)) (some c) (some b)

unfoldable pub best : (ℕ → Bool) → (ℕ → ℤ) → ℕ → Option ℕ
best test f zero = none
best test f (suc n) = cond (test n) (better f n (best test f n)) (best test f n)

-- the one moved to, if any, of the channels that count (`Claims.VerdictRule` says it in document 01's words)
unfoldable pub target : View → ℤ → Option ℕ
target v h = best (counts v h) (λ c. sum (v.levels c)) (suc channel_highest)

abbrev pub stay_or_move : Option ℕ → Given
stay_or_move none = stay
stay_or_move (some c) = move_to c

-- wait while the serving channel has fewer levels than the depth; else stay, or move to the best that counts
abbrev pub verdict_of : View → ℤ → Given
verdict_of v h = cond (full v.depth (serving_levels v)) (stay_or_move (target v h)) wait

-- ---- answers

-- what an accepted call gives
abbrev pub granted : View → Call → Given
granted v (start c d) = accepted
granted v (new_beam s l) = accepted
granted v (file c b) = accepted
granted v (ask c) = levels (length (v.levels c)) (mean (v.levels c))
granted v (verdict h) = verdict_of v h

-- what a call answers
unfoldable pub answer : View → Call → Told Given
answer v k = giving (allowed v k) (granted v k)
