-- What is claimed of the readings beyond each call's contract, in document 01's words: its numbers, `≤`, the exact float and the nearest whole
-- number, without the tests and workings of the other files. Each is proved in `proofs/` under its name in snake case.
use Rattle.std.specs.Prelude.{ℕ, ◌*◌, ◌≤◌, ◌<◌, ◌≡◌, ◌↔◌, ◌⊎◌, Bool, true, false, T, ℤ, pos, neg_ℤ, ◌*ℤ◌, ◌≤ℤ◌, ◌<ℤ◌, Float, Ok, Err}
use Rattle.std.specs.Float.{fin, binary32}
use Rattle.std.specs.Float.Ieee.{up, down, fits}
use Rattle.refusal.specs.declared.Refusal.{Refusal}
use Rattle.refusal.specs.declared.Reason.{Reason}
use Rattle.refusal.specs.declared.Reason.TheVariants.{Alone}
use Rattle.refusal.specs.Number.{reason_of}
use Rattle.refusal.specs.Told.{Told, refused, gives, told}
use Rattle.refusal.specs.Claims.{OneToOne}
use Rattle.readings_rules.specs.declared.Reading.{Reading}
use Rattle.readings_rules.specs.declared.Burst.{Burst}
use Rattle.readings_rules.specs.declared.Burst.TheVariants as burst
use Rattle.readings_rules.specs.Ranges.{level_in_range, quality_in_range}
use Rattle.readings_rules.specs.Channels.{channel_highest, channel_in_range}
use Rattle.readings_rules.specs.Rounding.{distance, NearestLower, nearest_lower}
use Rattle.readings_rules.specs.Hundredths.{level_of, quality_of}
use Rattle.readings_rules.specs.Float.{level_shown, quality_shown}
use Rattle.readings_rules.specs.Back.{level_back, quality_back}
use Rattle.readings_rules.specs.Burst.{heard, missed, burst_of}
use Rattle.readings_rules.specs.Told.{told_burst}

-- ---- the ranges

-- h lies in low to high, ends included
pub record Between (low high h : ℤ) : Type 0 where
  pub lowest : low ≤ℤ h
  pub highest : h ≤ℤ high

-- "A level lies in -150 to 0, a quality in -30 to +40, ends included", in hundredths
abbrev pub LevelInRange : ℤ → Type 0
LevelInRange = Between (neg_ℤ (pos 15000)) (pos 0)

abbrev pub QualityInRange : ℤ → Type 0
QualityInRange = Between (neg_ℤ (pos 3000)) (pos 4000)

-- the tests are these words; "Channel numbers run 0 to 1,087"
pub record RangeRule : Type 0 where
  pub level : (h : ℤ) → (level_in_range h ≡ true) ↔ LevelInRange h
  pub quality : (h : ℤ) → (quality_in_range h ≡ true) ↔ QualityInRange h
  pub channel : (c : ℕ) → (channel_in_range c ≡ true) ↔ (c ≤ 1087)
  pub highest : channel_highest ≡ 1087

-- refusal 1, "a level or quality, as a float or in hundredths, is outside its range": given exactly then, and without a place
abbrev pub RefusedOutside : {A : Type 0} → Type 0 → Told A → Type 0
RefusedOutside Inside answer = (n : Reason) → (answer ≡ refused n) ↔ ((n ≡ Alone 1) × (¬ Inside))

-- ---- from a float to hundredths

-- of each fraction there is a number that the rounding rule describes, `nearest_lower` is it, and no other is
pub record RoundsTo (n : ℤ) (d : ℕ) : Type 0 where
  pub exists : NearestLower n d (nearest_lower n d)
  pub unique : (k : ℤ) → NearestLower n d k → k ≡ nearest_lower n d

abbrev pub RoundingRule : Type 0
RoundingRule = (n : ℤ) (d : ℕ) → 0 < d → RoundsTo n d

-- "The exact float is meant as a whole number times a power of two": as the fraction n / d. `up e` / `down e` is 2 ^ e
pub data Exactly : Float → ℤ → ℕ → Type 0 where
  plus : (m : ℕ) (e : ℤ) → Exactly (fin false m e) (pos (m * up e)) (down e)
  minus : (m : ℕ) (e : ℤ) → Exactly (fin true m e) (neg_ℤ (pos (m * up e))) (down e)

-- the exact float lies in low to high, ends included. NaN and infinities are no such fraction, so they lie outside
pub record Within (low high : ℤ) (x : Float) : Type 0 where
  pub n : ℤ
  pub d : ℕ
  pub exact : Exactly x n d
  pub lowest : (low *ℤ pos d) ≤ℤ n
  pub highest : n ≤ℤ (high *ℤ pos d)

-- "tested on the exact value of the float before rounding"; "the whole number nearest to 100 times the exact float; an exact half goes to the
-- lower number"
pub record Converts (low high : ℤ) (x : Float) (answer : Told ℤ) : Type 0 where
  pub refuses : RefusedOutside (Within low high x) answer
  pub nearest : (h : ℤ) → answer ≡ gives h → (n : ℤ) (d : ℕ) → Exactly x n d → NearestLower (pos 100 *ℤ n) d h

-- for every float; "Minus zero is 0."
pub record ConversionRule : Type 0 where
  pub level : (x : Float) → Converts (neg_ℤ (pos 150)) (pos 0) x (level_of x)
  pub quality : (x : Float) → Converts (neg_ℤ (pos 30)) (pos 40) x (quality_of x)
  pub minus_zero : (level_of (fin true 0 (pos 0)) ≡ gives (pos 0)) × (quality_of (fin true 0 (pos 0)) ≡ gives (pos 0))

-- ---- hundredths shown again

-- how far n / d is from h / 100, in parts of which 100 times d make 1
abbrev pub away_from : ℤ → ℤ → ℕ → ℕ
away_from h n d = distance (pos 100 *ℤ n) d h

-- "h divided by 100, rounded once": a single float, minus exactly where h is below 0, and every single float that is another number is
-- further from h / 100, so that no tie is left to break
pub record ShowsNearest (h : ℤ) (x : Float) : Type 0 where
  pub n : ℤ
  pub d : ℕ
  pub exact : Exactly x n d
  pub single : T (fits binary32 x)
  pub sign : (s : Bool) (m : ℕ) (e : ℤ) → x ≡ fin s m e → (s ≡ true) ↔ (h <ℤ pos 0)
  pub nearest : (y : Float) (i : ℤ) (j : ℕ) → T (fits binary32 y) → Exactly y i j → ¬ (i *ℤ pos d ≡ n *ℤ pos j)
      → away_from h n d * j < away_from h i j * d

pub record Shows (h : ℤ) (Inside : Type 0) (answer : Told Float) : Type 0 where
  pub refuses : RefusedOutside Inside answer
  pub nearest : (x : Float) → answer ≡ gives x → ShowsNearest h x

-- "Shown again, h hundredths are the float h divided by 100, rounded once."
pub record ShownRule : Type 0 where
  pub level : (h : ℤ) → Shows h (LevelInRange h) (level_shown h)
  pub quality : (h : ℤ) → Shows h (QualityInRange h) (quality_shown h)

-- h is shown as a single float, which read again gives h, and so does the call that does both
pub record ReadsBack (h : ℤ) (shown : Told Float) (read : Float → Told ℤ) (back : Told ℤ) : Type 0 where
  pub x : Float
  pub is : shown ≡ gives x
  pub single : T (fits binary32 x)
  pub again : read x ≡ gives h
  pub same : back ≡ gives h

-- "Read back, this gives h for every h in either range."
pub record ReadBack : Type 0 where
  pub level : (h : ℤ) → LevelInRange h → ReadsBack h (level_shown h) level_of (level_back h)
  pub quality : (h : ℤ) → QualityInRange h → ReadsBack h (quality_shown h) quality_of (quality_back h)
  pub level_refused : (h : ℤ) → RefusedOutside (LevelInRange h) (level_back h)
  pub quality_refused : (h : ℤ) → RefusedOutside (QualityInRange h) (quality_back h)

-- ---- bursts

-- "heard, with a level .. and a quality .., or missed with nothing"; "Both floats of a heard burst are tested"
pub record BurstRule : Type 0 where
  pub nothing : burst_of burst.Missed ≡ gives missed
  pub both : (r : Reading Float) (l q : ℤ) → (burst_of (burst.Heard r) ≡ gives (heard l q))
      ↔ ((level_of r.level ≡ gives l) × (quality_of r.quality ≡ gives q))
  pub either : (r : Reading Float) (n : Reason) → (burst_of (burst.Heard r) ≡ refused n)
      ↔ ((n ≡ Alone 1) × ((level_of r.level ≡ refused (Alone 1)) ⊎ (quality_of r.quality ≡ refused (Alone 1))))

-- what a burst gives in hundredths lies in the ranges
abbrev pub BurstInRange : Type 0
BurstInRange = (b : Burst Float) (l q : ℤ) → burst_of b ≡ gives (heard l q) → LevelInRange l × QualityInRange q

-- ---- answers

-- an answer tells its values, and a refusal what is told of it: its number, and its place where it has one
pub record AnswersTold : Type 0 where
  pub value : (h : ℤ) → told (Ok h) ≡ gives h
  pub float : (x : Float) → told (Ok x) ≡ gives x
  pub reading : (r : Reading ℤ) → told_burst (Ok (burst.Heard r)) ≡ gives (heard r.level r.quality)
  pub nothing : told_burst (Ok burst.Missed) ≡ gives missed
  pub no_value : (why : Refusal) → told {A = ℤ} (Err why) ≡ refused (reason_of why)
  pub no_float : (why : Refusal) → told {A = Float} (Err why) ≡ refused (reason_of why)
  pub no_reading : (why : Refusal) → told_burst (Err why) ≡ refused (reason_of why)

-- what is told of an answer fixes its case and values
pub record AnswersDiffer : Type 0 where
  pub hundredths : OneToOne (told {A = ℤ})
  pub shown : OneToOne (told {A = Float})
  pub burst : OneToOne told_burst
