-- What is claimed of the power steps beyond each call's contract; each is proved in `proofs/` under its name in snake case.
use Rattle.std.specs.Prelude.{ℕ, ◌+◌, ◌*◌, ◌≤◌, ◌<◌, min, ◌≡◌, ◌↔◌, ℤ, pos, ◌-ℤ◌, ◌*ℤ◌, ◌≤ℤ◌, ◌<ℤ◌, Ok, Err}
use Rattle.std.specs.Int.Signed.{shr_z}
use Rattle.refusal.specs.declared.Refusal.{Refusal}
use Rattle.refusal.specs.declared.Reason.{Reason}
use Rattle.refusal.specs.declared.Reason.TheVariants.{Alone}
use Rattle.refusal.specs.Number.{reason_of}
use Rattle.refusal.specs.Told.{refused, gives}
use Rattle.refusal.specs.Claims.{OneToOne}
use Rattle.readings_rules.specs.Rounding.{NearestLower}
use Rattle.power_rules.specs.declared.PowerParameters.{PowerParameters}
use Rattle.power_rules.specs.declared.PowerRecord.{PowerRecord}
use Rattle.power_rules.specs.declared.Decoded.{Decoded}
use Rattle.power_rules.specs.declared.Decoded.TheVariants.{Failed, Codes}
use Rattle.power_rules.specs.Calls.{ToSend, started, tested, stepped}
use Rattle.power_rules.specs.Refusals.{InRange, WellFormed, Refuses}
use Rattle.power_rules.specs.Told.{told_answer}

-- whatever a start hands back is well formed, accepted or refused
abbrev pub StartsWellFormed : Type 0
StartsWellFormed = (p : PowerParameters) → WellFormed (started p).power

-- whatever a step hands back is well formed if the record that it was given is, accepted or refused
abbrev pub StaysWellFormed : Type 0
StaysWellFormed = (p : PowerParameters) (r : PowerRecord) (d : Decoded) (sqi : ℤ) → WellFormed r → WellFormed (stepped p r d sqi).power

-- a refused step hands back the record it was given
abbrev pub RefusedKeepsRecord : Type 0
RefusedKeepsRecord = (p : PowerParameters) (r : PowerRecord) (d : Decoded) (sqi : ℤ) (n : Reason) → (stepped p r d sqi).answer ≡ refused n
    → (stepped p r d sqi).power ≡ r

-- the test of a record hands back the record it was given, accepted or refused
abbrev pub TestKeepsRecord : Type 0
TestKeepsRecord = (r : PowerRecord) → (tested r).power ≡ r

-- the PAR to send is 0 to 60, the PAN to send lies in PANmin to PANmax
pub record WithinLimits (p : PowerParameters) (s : ToSend) : Type 0 where
  pub par_lowest : pos 0 ≤ℤ s.par
  pub par_highest : s.par ≤ℤ pos 60
  pub pan_lowest : pos p.panmin ≤ℤ s.pan
  pub pan_highest : s.pan ≤ℤ pos p.panmax

abbrev pub SendsWithinLimits : Type 0
SendsWithinLimits = (p : PowerParameters) (r : PowerRecord) (d : Decoded) (sqi : ℤ) (s : ToSend) → (stepped p r d sqi).answer ≡ gives s → WithinLimits p s

-- `shr_z` rounds down: it gives the greatest whole number that is not above n / d
pub record RoundedDown (n : ℤ) (d : ℕ) (k : ℤ) : Type 0 where
  pub not_above : (k *ℤ pos d) ≤ℤ n
  pub greatest : (j : ℤ) → (j *ℤ pos d) ≤ℤ n → j ≤ℤ k

abbrev pub RoundsDown : Type 0
RoundsDown = (n : ℤ) (d : ℕ) → 0 < d → RoundedDown n d (shr_z n d)

-- ---- the rules in document 01's words, without the definitions of `PowerSteps`

-- each call is refused with a number exactly when the table says so: a start with 7, the test of a record with 9
pub record RefusalRule : Type 0 where
  pub starts : (p : PowerParameters) (n : Reason) → ((started p).answer ≡ refused n) ↔ ((n ≡ Alone 7) × (¬ (InRange p)))
  pub tests : (r : PowerRecord) (n : Reason) → ((tested r).answer ≡ refused n) ↔ ((n ≡ Alone 9) × (¬ (WellFormed r)))
  pub steps : (p : PowerParameters) (r : PowerRecord) (d : Decoded) (sqi : ℤ) (n : Reason) → ((stepped p r d sqi).answer ≡ refused n) ↔ Refuses p r d sqi n

-- "The record starts with PANlast = PARsave = PANbasic = PANinit, increase 0."; "refused, it returns one of all zeros"
pub record StartsWith (p : PowerParameters) : Type 0 where
  pub accepted : InRange p → (started p).power ≡ record { panlast = p.paninit; parsave = p.paninit; panbasic = p.paninit; increase = 0 }
  pub zeros : ¬ (InRange p) → (started p).power ≡ record { panlast = 0; parsave = 0; panbasic = 0; increase = 0 }

abbrev pub StartRule : Type 0
StartRule = (p : PowerParameters) → StartsWith p

-- 1. "Decoded with PAN at most 60: PANuse = PANlast = that code. Else PANuse = PANlast.": PANuse, which is also the PANlast that the step leaves
pub data Rule1 (r : PowerRecord) : Decoded → ℕ → Type 0 where
  pan_numeric : (pan par : ℕ) → pan ≤ 60 → Rule1 r (Codes pan par) pan
  pan_other : (pan par : ℕ) → 60 < pan → Rule1 r (Codes pan par) r.panlast
  pan_failed : Rule1 r Failed r.panlast

-- "T = 400 x PANuse - G x (10 x SQT - SQI), G = GainDn if 10 x SQT < SQI, else GainUp"
pub data IsT (p : PowerParameters) (panuse : ℕ) (sqi : ℤ) : ℤ → Type 0 where
  gain_down : pos (10 * p.sqt) <ℤ sqi → IsT p panuse sqi (pos (400 * panuse) -ℤ pos p.gaindn *ℤ (pos (10 * p.sqt) -ℤ sqi))
  gain_up : sqi ≤ℤ pos (10 * p.sqt) → IsT p panuse sqi (pos (400 * panuse) -ℤ pos p.gainup *ℤ (pos (10 * p.sqt) -ℤ sqi))

-- z, brought into low to high
pub data BroughtInto (low high z : ℤ) : ℤ → Type 0 where
  below : z <ℤ low → BroughtInto low high z low
  above : high <ℤ z → BroughtInto low high z high
  within : low ≤ℤ z → z ≤ℤ high → BroughtInto low high z z

-- 2. "Brought into 0 to 24,000, divided by 400, nearest, half to the lower. This is the PAR to send."
pub record Rule2 (p : PowerParameters) (panuse : ℕ) (sqi par : ℤ) : Type 0 where
  pub t : ℤ
  pub is_t : IsT p panuse sqi t
  pub held : ℤ
  pub brought : BroughtInto (pos 0) (pos 24000) t held
  pub nearest : NearestLower held 400 par

-- 3. "Decoded with PAR at most 60: PANbasic = lesser of PAR and PARsave, then PARsave = PAR, increase 0. Decoded otherwise: increase 0. Failed:
-- increase grows by 200 x Mestep, at most 24,000.": the PANbasic, PARsave and increase that the step leaves
pub data Rule3 (p : PowerParameters) (r : PowerRecord) : Decoded → ℕ → ℕ → ℕ → Type 0 where
  par_numeric : (pan par : ℕ) → par ≤ 60 → Rule3 p r (Codes pan par) (min par r.parsave) par 0
  par_other : (pan par : ℕ) → 60 < par → Rule3 p r (Codes pan par) r.panbasic r.parsave 0
  par_failed : Rule3 p r Failed r.panbasic r.parsave (min 24000 (r.increase + 200 * p.mestep))

-- 4. "PAN to send: (400 x PANbasic - increase) / 400 rounded down, brought into PANmin to PANmax.": of the record that the step leaves
pub record Rule4 (p : PowerParameters) (left : PowerRecord) (pan : ℤ) : Type 0 where
  pub whole : ℤ
  pub rounded : RoundedDown (pos (400 * left.panbasic) -ℤ pos left.increase) 400 whole
  pub brought : BroughtInto (pos p.panmin) (pos p.panmax) whole pan

-- a step from the record r that leaves this record and sends these codes
pub record ByTheRules (p : PowerParameters) (r : PowerRecord) (d : Decoded) (sqi : ℤ) (left : PowerRecord) (s : ToSend) : Type 0 where
  pub rule1 : Rule1 r d left.panlast
  pub rule2 : Rule2 p left.panlast sqi s.par
  pub rule3 : Rule3 p r d left.panbasic left.parsave left.increase
  pub rule4 : Rule4 p left s.pan

-- every accepted step goes by the rules
abbrev pub StepRule : Type 0
StepRule = (p : PowerParameters) (r : PowerRecord) (d : Decoded) (sqi : ℤ) (s : ToSend) → (stepped p r d sqi).answer ≡ gives s
    → ByTheRules p r d sqi (stepped p r d sqi).power s

-- ---- answers

-- an answer tells its codes, each under its name, and a refusal its number and, where it has one, its place
pub record AnswersTold : Type 0 where
  pub codes : (par pan : ℕ) → told_answer (Ok (record { par = par; pan = pan })) ≡ gives (record { par = pos par; pan = pos pan })
  pub reason : (why : Refusal) → told_answer (Err why) ≡ refused (reason_of why)

-- what is told of an answer fixes its case and codes
abbrev pub AnswersDiffer : Type 0
AnswersDiffer = OneToOne told_answer
