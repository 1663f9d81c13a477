-- The claims of `specs/Claims.antt`. A call's result is followed through its tests; the two codes go through the laws to natural numbers; an
-- answer is told one-to-one, as there is a way back.
use mathlib.Core.Path.{◌≡◌, refl, sym}
use Prim.Native.Nat.{ℕ, zero, suc, ◌*◌, ◌/◌, ◌≤◌}
use native.Mathlib.Nat.{div-mul-le_self, lt-div-mul-add, div-lt_iff_lt-mul, le-div_iff_mul-le, suc-mul}
use native.Mathlib.Omega.{arith}
use lib.Dec.{le→leb, leb→le}
use lib.IntN.{ℤ, pos, negsuc, neg_ℤ, nat_abs, ◌*ℤ◌}
use lib.Signed.{◌≤ℤ◌}
use Rattle.refusal.specs.Told.{refused, gives}
use Rattle.refusal.proofs.OneToOne.{told_as_differs, gives_refused}
use Rattle.power_rules.specs.declared.PowerParameters.{PowerParameters}
use Rattle.power_rules.specs.declared.Sent.{Sent}
use Rattle.power_rules.specs.Constants.{numeric_highest}
use Rattle.power_rules.specs.PowerSteps.{parameters_in_range, well_formed, fresh_with, pan_use, record_after, par_to_send, pan_to_send}
use Rattle.power_rules.specs.Calls.{HandedBack, ToSend, started, tested, sending}
use Rattle.power_rules.specs.Told.{to_send}
use Rattle.power_rules.specs.Refusals.{WellFormed}
use Rattle.power_rules.specs.Claims.{StartsWellFormed, StaysWellFormed, RefusedKeepsRecord, TestKeepsRecord, WithinLimits, SendsWithinLimits, RoundsDown, AnswersTold, AnswersDiffer}
use Rattle.power_rules.specs.Code.{above_lowest, par_at, pan_at}
use Rattle.power_rules.proofs.Whole.{both, by_test}
use Rattle.power_rules.proofs.Ranges.{usable, formed, formed_after, use_below}
use Rattle.power_rules.proofs.Rules.{held_small, par_law, pan_law}
use Rattle.power_rules.proofs.Steps.{step_cases}

-- ---- records stay well formed
fresh_formed : (n : ℕ) → n ≤ numeric_highest → WellFormed (fresh_with n)
fresh_formed n h = record { panlast = h; parsave = h; panbasic = h; increase = omega arith; multiple = refl }

pub starts_well_formed : StartsWellFormed
unfolding started
starts_well_formed p =
    by_test (parameters_in_range p)
    (λ e. rw e (fresh_formed p.paninit (usable p e).paninit))
    (λ e. rw e (fresh_formed 0 (omega arith)))

pub stays_well_formed : StaysWellFormed
stays_well_formed p r d sqi f = step_cases p r d sqi (λ (h : HandedBack ToSend). WellFormed h.power) (λ why. f) (λ _ _ _. formed_after p r d f)

-- ---- refusals
pub refused_keeps_record : RefusedKeepsRecord
refused_keeps_record p r d sqi n =
    step_cases p r d sqi (λ (h : HandedBack ToSend). h.answer ≡ refused n → h.power ≡ r)
    (λ why e. refl)
    (λ _ _ _ e. absurd (gives_refused e))

pub test_keeps_record : TestKeepsRecord
unfolding tested
test_keeps_record r = by_test (well_formed r) (λ e. rw e) (λ e. rw e)

-- ---- the codes to send
pos_le : {a b : ℕ} → a ≤ b → pos a ≤ℤ pos b
pos_le {a} {b} h = record { le = le→leb a b h }

within : (p : PowerParameters) (par pan : ℕ) → par ≤ numeric_highest → p.panmin ≤ pan → pan ≤ p.panmax → WithinLimits p (record { par = pos par; pan = pos pan })
within p par pan h low high = record { par_lowest = pos_le (omega arith); par_highest = pos_le h; pan_lowest = pos_le low; pan_highest = pos_le high }

pub sends_within_limits : SendsWithinLimits
unfolding sending
sends_within_limits p r d sqi s =
    step_cases p r d sqi (λ (h : HandedBack ToSend). h.answer ≡ gives s → WithinLimits p s)
    (λ why e. absurd (gives_refused (sym e)))
    (λ f g q e.
    let u = usable p (both _ _ g).0 in
    let fits = use_below r d (formed r f) in
    let held = held_small p (pan_use r d) fits (above_lowest sqi) in
    let is : record { par = par_to_send p (pan_use r d) sqi; pan = pan_to_send p (record_after p r d) } ≡ s = cc in
    rw (← is, par_law p (pan_use r d) fits sqi q, pan_law p (record_after p r d) u.limits)
    (within p (par_at p (pan_use r d) (above_lowest sqi)) (pan_at p (record_after p r d)) (omega arith) (omega arith) (omega (arith, u.limits))))

-- ---- rounding down
neg_le : (n a : ℕ) → suc a ≤ n → neg_ℤ (pos n) ≤ℤ negsuc a
neg_le zero a h = absurd (omega arith)
neg_le (suc m) a h = record { le = le→leb a m (omega arith) }

neg_ge : (n a : ℕ) → neg_ℤ (pos n) ≤ℤ negsuc a → suc a ≤ n
neg_ge zero a h = absurd h.le
neg_ge (suc m) a h = omega (arith, leb→le a m h.le)

pub rounds_down : RoundsDown
rounds_down (pos a) d p = record { not_above = pos_le (div-mul-le_self a d); greatest = most }
  where
    most : (j : ℤ) → (j *ℤ pos d) ≤ℤ pos a → j ≤ℤ pos (a / d)
    most (pos b) h = pos_le ((le-div_iff_mul-le p).1 (leb→le (b * d) a h.le))
    most (negsuc b) h = record { le = tt }
rounds_down (negsuc a) d p = record { not_above = neg_le (suc (a / d) * d) a (omega (arith, suc-mul (a / d) d, lt-div-mul-add {a = a} {b = d} p)); greatest = most }
  where
    most : (j : ℤ) → (j *ℤ pos d) ≤ℤ negsuc a → j ≤ℤ negsuc (a / d)
    most (pos b) h = absurd h.le
    most (negsuc b) h = let k = (div-lt_iff_lt-mul {x = a} {y = suc b} p).1 (neg_ge (suc b * d) a h) in record { le = le→leb (a / d) b (omega arith) }

-- ---- what is told fixes the answer
sent_of : ToSend → Sent
sent_of s = record { par = nat_abs s.par; pan = nat_abs s.pan }

sent_back : (s : Sent) → sent_of (to_send s) ≡ s
unfolding sent_of
sent_back s = refl

pub answers_told : AnswersTold
answers_told = record { codes = λ par pan. refl; reason = λ why. refl }

pub answers_differ : AnswersDiffer
answers_differ = told_as_differs to_send sent_of sent_back
