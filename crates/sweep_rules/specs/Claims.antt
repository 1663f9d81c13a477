-- What is claimed of the sweep beyond each call's contract, in document 01's words and numbers; each is proved in `proofs/` under its name
-- in snake case.
use Rattle.std.specs.Prelude.{ℕ, ◌+◌, ◌/◌, ◌%◌, ◌≤◌, ◌<◌, ◌^◌, ◌≡◌, Bool, true, false, ◌||◌, cond, ◌↔◌, ◌⊎◌, length, get_or, replicate, pos, neg_ℤ, eqb, Float, Some, None, Ok, Err}
use mathlib.Core.List.{List, [], ◌∷◌, ◌++◌, map, Memᴰ}
use Rattle.std.specs.Int.Count.{ones}
use Rattle.refusal.specs.declared.Refusal.{Refusal}
use Rattle.refusal.specs.declared.Reason.{Reason}
use Rattle.refusal.specs.declared.Reason.TheVariants.{Alone}
use Rattle.refusal.specs.Number.{reason_of}
use Rattle.refusal.specs.Told.{Told, refused, gives, accepted, acceptance}
use Rattle.refusal.specs.Claims.{OneToOne}
use Rattle.readings_rules.specs.declared.Burst.{Burst}
use Rattle.readings_rules.specs.declared.Burst.TheVariants.{Heard, Missed}
use Rattle.readings_rules.specs.declared.Reading.{Reading}
use Rattle.readings_rules.specs.Claims.{LevelInRange, Within}
use Rattle.readings_rules.specs.Hundredths.{level_of}
use Rattle.sweep_rules.specs.Map.{is_set, with_bit, set_bits}
use Rattle.sweep_rules.specs.Record.{visited, heard, level_at, fresh_sweep, finished, well_formed}
use Rattle.sweep_rules.specs.Filing.{filing, leaves, checking}
use Rattle.sweep_rules.specs.Next.{channel, done, next_told}
use Rattle.sweep_rules.specs.Counts.{Counts, counts_told}
use Rattle.sweep_rules.specs.Told.{told_next, told_numbers}
use Rattle.sweep_rules.specs.declared.Sweep.{Sweep}

-- ---- the record: "a level for each of the 1,088 channel numbers, a map of visited channels and a map of heard ones, a bit per channel"

-- a record as long as its types have it: 1,088 levels, and 17 words of 64 bits in each map
pub record Typed (s : Sweep) : Type 0 where
  pub levels : length s.levels ≡ 1088
  pub visited : length s.visited ≡ 17
  pub heard : length s.heard ≡ 17

-- how a record is read: the bit of channel c is the digit at place c % 64 of word c / 64, place 0 the lowest, and its level stands at place c
pub record RecordRule : Type 0 where
  pub bit : (m : List ℕ) (c : ℕ) → (is_set m c ≡ true) ↔ (get_or m (c / 64) 0 / 2 ^ (c % 64) % 2 ≡ 1)
  pub in_visited : (s : Sweep) (c : ℕ) → visited s c ≡ is_set s.visited c
  pub in_heard : (s : Sweep) (c : ℕ) → heard s c ≡ is_set s.heard c
  pub in_levels : (s : Sweep) (c : ℕ) → level_at s c ≡ get_or s.levels c (pos 0)

-- "A fresh record is all zero."
pub record FreshRule : Type 0 where
  pub levels : fresh_sweep.levels ≡ replicate 1088 (pos 0)
  pub visited : fresh_sweep.visited ≡ replicate 17 0
  pub heard : fresh_sweep.heard ≡ replicate 17 0

-- ones summed over the words of a map
unfoldable pub ones_of : List ℕ → ℕ
ones_of [] = 0
ones_of (w ∷ ws) = ones w + ones_of ws

-- they are as many as the channels whose bit is set
abbrev pub OnesAreChannels : Type 0
OnesAreChannels = (m : List ℕ) → length m ≡ 17 → ((i : ℕ) → get_or m i 0 < 2 ^ 64) → ones_of m ≡ set_bits m

-- setting a channel's bit sets that one, and leaves every other as it was
abbrev pub OneBitSet : Type 0
OneBitSet = (m : List ℕ) (c d : ℕ) → length m ≡ 17 → c < 1088 → is_set (with_bit m c) d ≡ (eqb d c || is_set m d)

-- ---- a well formed record

-- the paper's four parts, channel by channel
pub record WellFormed (s : Sweep) : Type 0 where
  -- "heard only where visited"
  pub heard_visited : (c : ℕ) → c < 1088 → heard s c ≡ true → visited s c ≡ true
  -- "no bit outside 2 to 1,086"
  pub visited_inside : (c : ℕ) → c < 1088 → visited s c ≡ true → (2 ≤ c) × (c ≤ 1086)
  pub heard_inside : (c : ℕ) → c < 1088 → heard s c ≡ true → (2 ≤ c) × (c ≤ 1086)
  -- "level 0 where not heard"
  pub level_zero : (c : ℕ) → c < 1088 → heard s c ≡ false → level_at s c ≡ pos 0
  -- "each level in -15,000 to 0"
  pub level_in_range : (c : ℕ) → c < 1088 → LevelInRange (level_at s c)

-- the test of a record holds exactly when they do
abbrev pub WellFormedRule : Type 0
WellFormedRule = (s : Sweep) → (well_formed s ≡ true) ↔ WellFormed s

-- ---- the refusals in document 01's words

-- the table for a filing: it is refused with this number, and no place is told. "Several at once: 9, .. 2, .. 3, .. 1.": a later number only
-- where no earlier one is given
pub data Refuses (s : Sweep) (c : ℕ) (b : Burst Float) : Reason → Type 0 where
  -- 9: "a record not well formed"
  unformed : ¬ (WellFormed s) → Refuses s c b (Alone 9)
  -- 2: "a swept channel outside 2 to 1,086"
  channel_below : WellFormed s → c < 2 → Refuses s c b (Alone 2)
  channel_above : WellFormed s → 1086 < c → Refuses s c b (Alone 2)
  -- 3: "a channel already visited in this sweep"
  visited_before : WellFormed s → 2 ≤ c → c ≤ 1086 → visited s c ≡ true → Refuses s c b (Alone 3)
  -- 1: "a level or quality, as a float .., is outside its range"; "Both floats of a heard burst are tested in a sweep"
  level_outside : (r : Reading Float) → WellFormed s → 2 ≤ c → c ≤ 1086 → visited s c ≡ false → b ≡ Heard r
      → ¬ (Within (neg_ℤ (pos 150)) (pos 0) r.level) → Refuses s c b (Alone 1)
  quality_outside : (r : Reading Float) → WellFormed s → 2 ≤ c → c ≤ 1086 → visited s c ≡ false → b ≡ Heard r
      → ¬ (Within (neg_ℤ (pos 30)) (pos 40) r.quality) → Refuses s c b (Alone 1)

-- the table has no number for the filing
abbrev pub Accepts : Sweep → ℕ → Burst Float → Type 0
Accepts s c b = (n : Reason) → ¬ (Refuses s c b n)

-- each call is refused with a number exactly when the table says so; the calls that only read a record, with 9
pub record RefusalRule : Type 0 where
  pub files : (s : Sweep) (c : ℕ) (b : Burst Float) (n : Reason) → (acceptance (filing s c b) ≡ refused n) ↔ Refuses s c b n
  pub next : (s : Sweep) (n : Reason) → (next_told s ≡ refused n) ↔ ((n ≡ Alone 9) × (¬ (WellFormed s)))
  pub numbers : (s : Sweep) (n : Reason) → (counts_told s ≡ refused n) ↔ ((n ≡ Alone 9) × (¬ (WellFormed s)))
  pub tests : (s : Sweep) (n : Reason) → (checking s ≡ refused n) ↔ ((n ≡ Alone 9) × (¬ (WellFormed s)))

-- ---- filing: "marks it visited. If heard, it marks it heard and stores the level; if missed, the level stays 0."

-- t is the record s with the burst b filed for channel c
pub record Filed (s : Sweep) (c : ℕ) (b : Burst Float) (t : Sweep) : Type 0 where
  -- visited are exactly c and those visited before
  pub visits : (d : ℕ) → (visited t d ≡ true) ↔ ((visited s d ≡ true) ⊎ (d ≡ c))
  -- a heard burst: heard are exactly c and those heard before, its level is stored, and every other is as it was
  pub hears : (r : Reading Float) → b ≡ Heard r → (d : ℕ) → (heard t d ≡ true) ↔ ((heard s d ≡ true) ⊎ (d ≡ c))
  pub level_stored : (r : Reading Float) → b ≡ Heard r → level_of r.level ≡ gives (level_at t c)
  pub level_kept : (r : Reading Float) → b ≡ Heard r → (d : ℕ) → ¬ (d ≡ c) → level_at t d ≡ level_at s d
  -- a missed one: the channels heard and all levels are as they were, that of c is 0
  pub misses : b ≡ Missed → (d : ℕ) → heard t d ≡ heard s d
  pub levels_kept : b ≡ Missed → (d : ℕ) → level_at t d ≡ level_at s d
  pub level_zero : b ≡ Missed → level_at t c ≡ pos 0
  -- as long as before
  pub typed : Typed t

-- what filing b for channel c answers, and the record that it hands back
pub record FilesRule (s : Sweep) (c : ℕ) (b : Burst Float) : Type 0 where
  -- "A refusal returns its number and the record it was given."
  pub refuses : (n : Reason) → Refuses s c b n → (acceptance (filing s c b) ≡ refused n) × (leaves s (filing s c b) ≡ s)
  -- where the table has no number
  pub accepts : Accepts s c b → acceptance (filing s c b) ≡ accepted
  pub files : Accepts s c b → Typed s → Filed s c b (leaves s (filing s c b))

abbrev pub FilingRule : Type 0
FilingRule = (s : Sweep) (c : ℕ) (b : Burst Float) → FilesRule s c b

-- ---- the next channel, a finished sweep, and the numbers visited and heard

-- c is "the lowest in 2 to 1,086 not visited"
pub record LowestUnvisited (s : Sweep) (c : ℕ) : Type 0 where
  pub inside : (2 ≤ c) × (c ≤ 1086)
  pub unvisited : visited s c ≡ false
  pub lower : (d : ℕ) → 2 ≤ d → d < c → visited s d ≡ true

-- "all 1,085 are visited": every channel of 2 to 1,086
abbrev pub Finished : Sweep → Type 0
Finished s = (c : ℕ) → 2 ≤ c → c ≤ 1086 → visited s c ≡ true

-- "The next channel is the lowest in 2 to 1,086 not visited, or "done".": told where the record is well formed, and only there
pub record NextRule (s : Sweep) : Type 0 where
  pub lowest : (c : ℕ) → (next_told s ≡ gives (channel c)) ↔ (WellFormed s × LowestUnvisited s c)
  pub none : (next_told s ≡ gives done) ↔ (WellFormed s × Finished s)

-- this of every record
abbrev pub NextLowest : Type 0
NextLowest = (s : Sweep) → NextRule s

-- what the other calls that only read a record answer where it is well formed, and only there
pub record AnswersRule (s : Sweep) : Type 0 where
  -- "The numbers visited and heard are the counts of set bits in the maps."
  pub numbers : (n : Counts) → (counts_told s ≡ gives n) ↔ (WellFormed s × (n.visited ≡ set_bits s.visited) × (n.heard ≡ set_bits s.heard))
  -- a well formed record passes the test
  pub tests : (checking s ≡ accepted) ↔ WellFormed s

abbrev pub AnswerRule : Type 0
AnswerRule = (s : Sweep) → AnswersRule s

-- "A sweep is finished when all 1,085 are visited."; in a well formed record these are all that are visited, 1,085 set bits
pub record FinishedRule : Type 0 where
  pub all : (s : Sweep) → (finished s ≡ true) ↔ Finished s
  pub counted : (s : Sweep) → WellFormed s → (finished s ≡ true) ↔ (set_bits s.visited ≡ 1085)

-- ---- every list of filings, refused ones included

-- a filing: a channel, and what the modem gave for it
pub record Filing : Type 0 where
  pub channel : ℕ
  pub burst : Burst Float

-- what it is told: the record that it leaves, or its refusal
abbrev pub told : Sweep → Filing → Told Sweep
told s f = filing s f.channel f.burst

-- the record after a list of filings, each given the record that the one before left
unfoldable pub after : Sweep → List Filing → Sweep
after s [] = s
after s (f ∷ fs) = after (leaves s (told s f)) fs

-- a filing is accepted
abbrev pub is_accepted : Told Sweep → Bool
is_accepted (gives t) = true
is_accepted (refused n) = false

-- the filings of a list that are accepted
unfoldable pub accepted_of : Sweep → List Filing → List Filing
accepted_of s [] = []
accepted_of s (f ∷ fs) = cond (is_accepted (told s f)) (f ∷ accepted_of (leaves s (told s f)) fs) (accepted_of (leaves s (told s f)) fs)

-- the modem heard the burst
abbrev pub is_heard : Burst Float → Bool
is_heard (Heard r) = true
is_heard Missed = false

-- the filings of a list with a heard burst
unfoldable pub heard_of : List Filing → List Filing
heard_of [] = []
heard_of (f ∷ fs) = cond (is_heard f.burst) (f ∷ heard_of fs) (heard_of fs)

-- these call by call: what one filing more at the end of a list comes to
pub record SequenceRule : Type 0 where
  -- it is given the record that those before left, and leaves its own
  pub none_yet : (s : Sweep) → after s [] ≡ s
  pub one_more : (s : Sweep) (fs : List Filing) (f : Filing) → after s (fs ++ (f ∷ [])) ≡ leaves (after s fs) (filing (after s fs) f.channel f.burst)
  -- it is an accepted one exactly where the table has no number for it
  pub none_accepted : (s : Sweep) → accepted_of s [] ≡ []
  pub one_accepted : (s : Sweep) (fs : List Filing) (f : Filing) → Accepts (after s fs) f.channel f.burst
      → accepted_of s (fs ++ (f ∷ [])) ≡ accepted_of s fs ++ (f ∷ [])
  pub one_refused : (s : Sweep) (fs : List Filing) (f : Filing) (n : Reason) → Refuses (after s fs) f.channel f.burst n
      → accepted_of s (fs ++ (f ∷ [])) ≡ accepted_of s fs
  -- and a heard one exactly where its burst is
  pub none_heard : heard_of [] ≡ []
  pub one_heard : (fs : List Filing) (f : Filing) (r : Reading Float) → f.burst ≡ Heard r → heard_of (fs ++ (f ∷ [])) ≡ heard_of fs ++ (f ∷ [])
  pub one_missed : (fs : List Filing) (f : Filing) → f.burst ≡ Missed → heard_of (fs ++ (f ∷ [])) ≡ heard_of fs

-- a filing of the list is for channel c
abbrev pub For : ℕ → List Filing → Type 0
For c fs = Memᴰ c (map (λ f. f.channel) fs)

-- the record s shows exactly the accepted filings
pub record FiledRecord (s : Sweep) (accepted : List Filing) : Type 0 where
  pub formed : WellFormed s
  -- the numbers visited and heard are the numbers of accepted filings and of accepted heard ones
  pub number_visited : set_bits s.visited ≡ length accepted
  pub number_heard : set_bits s.heard ≡ length (heard_of accepted)
  -- the channels visited and heard are exactly those of these filings
  pub channels_visited : (c : ℕ) → (visited s c ≡ true) ↔ For c accepted
  pub channels_heard : (c : ℕ) → (heard s c ≡ true) ↔ For c (heard_of accepted)
  -- each heard level is the one filed
  pub level_filed : (f : Filing) (r : Reading Float) → Memᴰ f accepted → f.burst ≡ Heard r → level_of r.level ≡ gives (level_at s f.channel)

-- so the record after every list of filings from a fresh one shows the accepted ones of the list
abbrev pub FiledFromFresh : Type 0
FiledFromFresh = (fs : List Filing) → FiledRecord (after fresh_sweep fs) (accepted_of fresh_sweep fs)

-- ---- answers

-- what is told of an answer fixes its case and values
pub record AnswersDiffer : Type 0 where
  pub next : OneToOne told_next
  pub numbers : OneToOne told_numbers

-- and each case is told as what it says, a refusal as its number and, where it has one, its place
pub record AnswersTold : Type 0 where
  pub next_channel : (c : ℕ) → told_next (Ok (Some c)) ≡ gives (channel c)
  pub next_done : told_next (Ok None) ≡ gives done
  pub next_refused : (r : Refusal) → told_next (Err r) ≡ refused (reason_of r)
  pub numbers_of : (v h : ℕ) → told_numbers (Ok (record { visited = v; heard = h })) ≡ gives (record { visited = v; heard = h })
  pub numbers_refused : (r : Refusal) → told_numbers (Err r) ≡ refused (reason_of r)
