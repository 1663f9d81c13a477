-- Document 01, section Refusal numbers, for the calls of a watch, in its own words and document 02's: over what the plain watch holds, without
-- the tests of `Rules`. `Claims.RefusalRule` says that the calls refuse exactly so. How often a channel is in a list is `times_in`.
use Rattle.std.specs.Prelude.{ℕ, ◌≤◌, ◌<◌, ◌≡◌, ◌⊎◌, true, List, ℤ, pos, ◌≤ℤ◌, ◌<ℤ◌, length, Float}
use Rattle.std.proofs.Math.Option.{none, some}
use Rattle.std.proofs.Math.ListN.{get_elem?}
use Rattle.refusal.specs.declared.Reason.{Reason}
use Rattle.refusal.specs.declared.Reason.TheVariants.{Alone, At}
use Rattle.refusal.specs.Told.{refused}
use Rattle.readings_rules.specs.declared.Burst.{Burst}
use Rattle.readings_rules.specs.Burst.{burst_of}
use Rattle.watch_rules.specs.Lists.{times_in}
use Rattle.watch_rules.specs.Told.{Call, start, new_beam, file, ask, verdict}
use Rattle.watch_rules.specs.Plain.{Plain}

-- a channel under watch: it serves or is a neighbour
abbrev pub Watched : Plain → ℕ → Type 0
Watched p c = (p.serving ≡ some c) ⊎ (p.neighbour c ≡ true)

-- "a list with over 6 channels, one above 1,087, a repeat, or the serving channel": document 01's refusal 5, which document 02 splits, "judged
-- against the new serving channel"
pub data Faulty (s : ℕ) (l : List ℕ) : Type 0 where
  too_long : 6 < length l → Faulty s l
  above : (c : ℕ) → 0 < times_in c l → 1087 < c → Faulty s l
  repeated : (c : ℕ) → 1 < times_in c l → Faulty s l
  serving_in : 0 < times_in s l → Faulty s l

-- a fault of a place, counted from 0, by its number: "12 channel above 1,087, 13 repeat, 14 serving channel". It is the channel that stands
-- there, and a repeat is one "of an earlier place"
pub data Fault (s : ℕ) (l : List ℕ) (place : ℕ) : ℕ → Type 0 where
  above_at : (c : ℕ) → get_elem? l place ≡ some c → 1087 < c → Fault s l place 12
  again_at : (c earlier : ℕ) → get_elem? l place ≡ some c → earlier < place → get_elem? l earlier ≡ some c → Fault s l place 13
  serving_at : get_elem? l place ≡ some s → Fault s l place 14

-- "in one place the order is range, serving, repeat"
pub data AskedBefore : ℕ → ℕ → Type 0 where
  range_serving : AskedBefore 12 14
  range_repeat : AskedBefore 12 13
  serving_repeat : AskedBefore 14 13

-- "Places are looked at in rising order and the first faulty one is told"
pub record FirstFault (s : ℕ) (l : List ℕ) (place n : ℕ) : Type 0 where
  pub fault : Fault s l place n
  pub first : (earlier m : ℕ) → earlier < place → ¬ (Fault s l earlier m)
  pub order : (m : ℕ) → AskedBefore m n → ¬ (Fault s l place m)

-- the table: the call is refused with this number, at this place where one is told. "Several at once: 9, 8, 7, 2, 5, 6, 3, 4, 1.": a later
-- number only where no earlier one is given; "the group stands where 5 stood, 11 first". 9 is a matter of the record, and no call from a fresh
-- watch gets it
pub data Refuses (p : Plain) : Call → Reason → Type 0 where
  -- 7: "a .. hysteresis .. out of range", 0 to 6,000
  hysteresis_below : (h : ℤ) → h <ℤ pos 0 → Refuses p (verdict h) (Alone 7)
  hysteresis_above : (h : ℤ) → pos 6000 <ℤ h → Refuses p (verdict h) (Alone 7)
  -- 7: "a depth outside 5 to 31, before 2"
  depth_below : (c d : ℕ) → d < 5 → Refuses p (start c d) (Alone 7)
  depth_above : (c d : ℕ) → 31 < d → Refuses p (start c d) (Alone 7)
  -- 2: "a start channel above 1,087"
  start_above : (c d : ℕ) → 5 ≤ d → d ≤ 31 → 1087 < c → Refuses p (start c d) (Alone 2)
  -- "then 2 for a serving channel above 1,087"
  beam_above : (s : ℕ) (l : List ℕ) → 1087 < s → Refuses p (new_beam s l) (Alone 2)
  -- 11: "over 6 channels (no place)"
  list_too_long : (s : ℕ) (l : List ℕ) → s ≤ 1087 → 6 < length l → Refuses p (new_beam s l) (Alone 11)
  -- 12 to 14, with the place
  list_faulty : (s : ℕ) (l : List ℕ) (place n : ℕ) → s ≤ 1087 → length l ≤ 6 → FirstFault s l place n → Refuses p (new_beam s l) (At n place)
  -- 6: "a filed or asked channel not watched; .. verdict on an idle watch", and a new beam: "then 6 if idle"
  file_not_watched : (c : ℕ) (b : Burst Float) → ¬ (Watched p c) → Refuses p (file c b) (Alone 6)
  ask_not_watched : (c : ℕ) → ¬ (Watched p c) → Refuses p (ask c) (Alone 6)
  beam_idle : (s : ℕ) (l : List ℕ) → s ≤ 1087 → ¬ (Faulty s l) → p.serving ≡ none → Refuses p (new_beam s l) (Alone 6)
  verdict_idle : (h : ℤ) → pos 0 ≤ℤ h → h ≤ℤ pos 6000 → p.serving ≡ none → Refuses p (verdict h) (Alone 6)
  -- 1: "a level or quality, as a float .., is outside its range", by the readings' rule
  burst_out_of_range : (c : ℕ) (b : Burst Float) → Watched p c → burst_of b ≡ refused (Alone 1) → Refuses p (file c b) (Alone 1)

-- an accepted call: no row of the table fits it
abbrev pub Accepted : Plain → Call → Type 0
Accepted p k = (n : Reason) → ¬ (Refuses p k n)
