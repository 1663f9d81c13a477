-- What a host finds fixes what is told of a call: from each answer there is a way back. A refusal's number is not that of an accepted call, so the
-- first number tells the two apart; and no call but those that change a watch tells a place.
use Prim.Native.Nat.{ℕ, zero, suc, ◌<◌}
use mathlib.Core.Path.{◌≡◌, refl, sym, ap, ap₂, subst, ◌∙◌}
use mathlib.Core.Bool.{Bool, true, false, not, cond, ◌&&◌}
use mathlib.Core.List.{List}
use mathlib.Core.Option.{Option, none, some}
use native.Mathlib.Omega.{arith}
use lib.Dec.{eqb}
use lib.IntN.{ℤ, pos, negsuc, nat_abs}
use lib.Signed.{◌≤ℤ◌}
use lib.Ieee.{Float}
use borrow.Author.Tests.{ne_eqb}
use Rattle.refusal.specs.declared.Refusal.{Refusal}
use Rattle.refusal.specs.declared.Refusal.TheVariants as why
use Rattle.refusal.specs.declared.Reason.{Reason}
use Rattle.refusal.specs.declared.Reason.TheVariants.{Alone, At}
use Rattle.refusal.specs.Number.{reason_of, number_in}
use Rattle.refusal.specs.Told.{Told, refused, gives, refused_for, provided, acceptance, giving}
use Rattle.refusal.proofs.Numbers.{numbers_rule}
use Rattle.readings_rules.specs.declared.Burst.{Burst}
use Rattle.readings_rules.specs.declared.Burst.TheVariants.{Heard, Missed}
use Rattle.readings_rules.specs.Ranges.{level_low, level_high, quality_low, quality_high, in_range, level_in_range, quality_in_range}
use Rattle.readings_rules.specs.Hundredths.{within, hundredths_of, converted}
use Rattle.readings_rules.specs.Float.{float_of, shown}
use Rattle.readings_rules.specs.Burst.{BurstResult, heard, missed, both_of, burst_of}
use Rattle.sweep_rules.specs.declared.Sweep.{Sweep}
use Rattle.sweep_rules.specs.Record as sweeps
use Rattle.sweep_rules.specs.Filing.{with_burst, filing, checking}
use Rattle.sweep_rules.specs.Next.{Next, channel, done, next_told}
use Rattle.sweep_rules.specs.Counts.{counts_told}
use Rattle.choice_rules.specs.Choose.{Chosen, camp, read, no_beam, outcomes_fine, margin_in_range, choosing}
use Rattle.watch_rules.specs.declared.Watch.{Watch}
use Rattle.watch_rules.specs.Told.{Call, start, new_beam, file, ask, verdict, Given, accepted, levels, wait, stay, move_to}
use Rattle.watch_rules.specs.Rules.{View, allowed, granted, answer, full, serving_levels, target, stay_or_move}
use Rattle.watch_rules.specs.Record.{rows, view_of, well_formed, handed, returned, called, tested}
use Rattle.watch_rules.proofs.Refusals.{told_number, told_place}
use Rattle.power_rules.specs.declared.PowerParameters.{PowerParameters}
use Rattle.power_rules.specs.declared.PowerRecord.{PowerRecord}
use Rattle.power_rules.specs.PowerSteps as steps
use Rattle.power_rules.specs.PowerSteps.{parameters_in_range, codes_in_range}
use Rattle.power_rules.specs.Calls as powers
use Rattle.power_rules.specs.Calls.{ToSend}
use Rattle.power_rules.proofs.Claims.{sends_within_limits}
use Rattle.host_rules.specs.Answers.{accepted_number, refusal_number, no_place, refusal_place, a_channel, to_camp, to_read, to_wait, to_stay, hundredths_answer, float_answer, burst_answer, next_answer, counts_answer, choice_answer, levels_answer, verdict_answer, sent_answer}
use Rattle.host_rules.specs.Claims.{OneToOneOver, Changes, Changing, SweepFiling, handed_sweep, PowerStep, handed_power, NothingLost}

-- ---- the way back

-- what was told, by the number and the value
told_by : {A : Type 0} → ℕ → A → Told A
told_by zero v = gives v
told_by (suc n) v = refused (Alone (suc n))

told_refused : {A : Type 0} (n : ℕ) (v : A) → ¬ (n ≡ accepted_number) → told_by n v ≡ refused (Alone n)
unfolding told_by
told_refused zero v k = absurd (k refl)
told_refused (suc n) v k = refl

-- what an answer f keeps of what was told: the number, which is no accepted one, or the value
data Kept {A C : Type 0} (f : Told A → C) (number : C → ℕ) (value : C → A) : Told A → Type 0 where
  given : {v : A} → number (f (gives v)) ≡ accepted_number → value (f (gives v)) ≡ v → Kept f number value (gives v)
  numbered : {n : ℕ} → number (f (refused (Alone n))) ≡ n → ¬ (n ≡ accepted_number) → Kept f number value (refused (Alone n))

module _ {A C : Type 0} {f : Told A → C} {number : C → ℕ} {value : C → A} where
  way_back : {t : Told A} → Kept f number value t → told_by (number (f t)) (value (f t)) ≡ t
  unfolding told_by
  way_back (given {v} p q) = ap (λ (n : ℕ). told_by n (value (f (gives v)))) p ∙ ap gives q
  way_back (numbered {n} p q) = ap (λ (m : ℕ). told_by m (value (f (refused (Alone n))))) p ∙ told_refused n (value (f (refused (Alone n)))) q

  kept_over : {X : Type 0} {g : X → Told A} → ((x : X) → Kept f number value (g x)) → OneToOneOver g f
  kept_over k x y e = sym (way_back (k x)) ∙ ap (λ (z : C). told_by (number z) (value z)) e ∙ way_back (k y)

-- ---- calls that tell no place

-- a value, or a number alone that is no accepted one
data Placeless {A : Type 0} : Told A → Type 0 where
  value : (v : A) → Placeless (gives v)
  alone : (n : ℕ) → ¬ (n ≡ accepted_number) → Placeless (refused (Alone n))

-- an answer that keeps every value and every number keeps what is told without a place
keeps : {A C : Type 0} {f : Told A → C} {number : C → ℕ} {back : C → A} → ((v : A) → Kept f number back (gives v))
    → ((n : ℕ) → number (f (refused (Alone n))) ≡ n) → {t : Told A} → Placeless t → Kept f number back t
keeps values numbers (value v) = values v
keeps values numbers (alone n k) = numbered (numbers n) k

-- "no number is 0"
lone : {A : Type 0} (r : Refusal) {n : ℕ} → reason_of r ≡ Alone n → Placeless {A = A} (refused_for r)
lone {A} r {n} e = subst (λ (x : Reason). Placeless {A = A} (refused x)) (sym e) (alone n (λ z. numbers_rule.none_is_zero r (ap number_in e ∙ z)))

unless : {A : Type 0} (b : Bool) (r : Refusal) {n : ℕ} → reason_of r ≡ Alone n → {t : Told A} → Placeless t → Placeless (provided b r t)
unless true r e p = p
unless false r e p = lone r e

accepting : {A : Type 0} {t : Told A} → Placeless t → Placeless (acceptance t)
accepting (value v) = value tt
accepting (alone n k) = alone n k

both : {s t : Told ℤ} → Placeless s → Placeless t → Placeless (both_of s t)
both (value l) (value q) = value (heard l q)
both (value l) (alone n k) = alone n k
both (alone n k) t = alone n k

-- a call that gives no value
number_kept : {t : Told Unit} → Placeless t → Kept refusal_number (λ n. n) (λ n. tt) t
number_kept = keeps (λ v. given refl refl) (λ n. refl)

number_fixes : {s t : Told Unit} → Placeless s → Placeless t → refusal_number s ≡ refusal_number t → s ≡ t
number_fixes x y e = kept_over {g = λ (p : (t : Told Unit) × Placeless t). p.0} (λ p. number_kept p.1) (_, x) (_, y) e

-- ---- readings
converts : (low high : ℤ) (x : Float) → Placeless (converted low high x)
unfolding converted
converts low high x = unless (within low high x) why.ReadingOutOfRange refl (value (hundredths_of x))

shows : (low high h : ℤ) → Placeless (shown low high h)
unfolding shown
shows low high h = unless (in_range low high h) why.ReadingOutOfRange refl (value (float_of h))

hundredths_kept : {t : Told ℤ} → Placeless t → Kept hundredths_answer (λ x. x.refusal) (λ x. x.hundredths) t
hundredths_kept = keeps (λ v. given refl refl) (λ n. refl)

float_kept : {t : Told Float} → Placeless t → Kept float_answer (λ x. x.refusal) (λ x. x.value) t
float_kept = keeps (λ v. given refl refl) (λ n. refl)

both_kept : {s t : Told ℤ} → Placeless s → Placeless t → Kept burst_answer (λ x. x.refusal) (λ x. heard x.level x.quality) (both_of s t)
both_kept (value l) (value q) = given refl refl
both_kept (value l) (alone n k) = numbered refl k
both_kept (alone n k) t = numbered refl k

-- ---- sweep and choice: a case by its number
burst_told : (b : Burst Float) → Placeless (burst_of b)
burst_told (Heard r) = both (converts level_low level_high r.level) (converts quality_low quality_high r.quality)
burst_told Missed = value missed

with_burst_lem : (s : Sweep) (c : ℕ) {t : Told BurstResult} → Placeless t → Placeless (with_burst s c t)
unfolding with_burst
with_burst_lem s c (value (heard l q)) = value _
with_burst_lem s c (value missed) = value _
with_burst_lem s c (alone n k) = alone n k

files : (x : SweepFiling) → Placeless (handed_sweep x).1
unfolding filing
files x =
    accepting
    (unless (sweeps.well_formed x.sweep) why.RecordNotWellFormed refl
    (unless (sweeps.swept x.channel) why.ChannelOutOfRange refl
    (unless (not (sweeps.visited x.sweep x.channel)) why.ChannelVisited refl
    (with_burst_lem x.sweep x.channel (burst_told x.burst)))))

check_told : (s : Sweep) → Placeless (checking s)
unfolding checking
check_told s = unless (sweeps.well_formed s) why.RecordNotWellFormed refl (value tt)

abbrev next_by : ℕ → ℕ → Next
next_by n c = cond (eqb n a_channel) (channel c) done

next_kept : (s : Sweep) → Kept next_answer (λ x. x.refusal) (λ x. next_by x.next x.channel) (next_told s)
unfolding next_told
next_kept s = keeps values (λ n. refl) (unless (sweeps.well_formed s) why.RecordNotWellFormed refl (value _))
  where
    values : (v : Next) → Kept next_answer (λ x. x.refusal) (λ x. next_by x.next x.channel) (gives v)
    values (channel c) = given refl refl
    values done = given refl refl

counts_kept : (s : Sweep) → Kept counts_answer (λ x. x.refusal) (λ x. record { visited = x.visited; heard = x.heard }) (counts_told s)
unfolding counts_told
counts_kept s = keeps (λ v. given refl refl) (λ n. refl) (unless (sweeps.well_formed s) why.RecordNotWellFormed refl (value _))

abbrev choice_by : ℕ → ℕ → ℕ → Chosen
choice_by n c tried = cond (eqb n to_camp) (camp c tried) (cond (eqb n to_read) (read c tried) (no_beam tried))

choice_kept : (x : Sweep × ℤ × List ℕ)
    → Kept choice_answer (λ z. z.refusal) (λ z. choice_by z.choice z.channel z.tried) (choosing x.0 x.1 x.2)
unfolding choosing
choice_kept x =
    keeps values (λ n. refl)
    (unless (sweeps.well_formed x.0) why.RecordNotWellFormed refl
    (unless (outcomes_fine x.2) why.OutcomesFaulty refl
    (unless (margin_in_range x.1) why.ParameterOutOfRange refl
    (unless (sweeps.finished x.0) why.SweepUnfinished refl (value _)))))
  where
    values : (v : Chosen) → Kept choice_answer (λ z. z.refusal) (λ z. choice_by z.choice z.channel z.tried) (gives v)
    values (camp c n) = given refl refl
    values (read c n) = given refl refl
    values (no_beam n) = given refl refl

-- ---- watch: a call gives what it grants, or it tells a number, and a place of a list where it tells one

data WatchTold (v : View) (k : Call) : Told Given → Type 0 where
  grants : WatchTold v k (gives (granted v k))
  tells : (n : ℕ) → ¬ (n ≡ accepted_number) → WatchTold v k (refused (Alone n))
  tells_at : (n place : ℕ) → ¬ (n ≡ accepted_number) → place < 6 → Changes k → WatchTold v k (refused (At n place))

watch_told : (v : View) (k : Call) → WatchTold v k (answer v k)
unfolding answer
watch_told v k = go (allowed v k) refl
  where
    go : (o : Told Unit) → allowed v k ≡ o → WatchTold v k (giving o (granted v k))
    go (gives u) e = grants
    go (refused (Alone n)) e = tells n (λ z. (let h = told_number v k e in omega arith))
    go (refused (At n place)) e =
        let p = told_place v k e in
        tells_at n place (λ z. (let h = told_number v k e in omega arith)) p.0 (subst Changes (sym p.1.2) tt)

call_told : (w : Watch) (k : Call) → WatchTold (view_of w) k (called w k).answer
unfolding called
call_told w k = by_form (well_formed w)
  where
    by_form : (b : Bool) → WatchTold (view_of w) k (cond b (handed w (rows w) k) (returned w)).answer
    by_form true = watch_told (view_of w) k
    by_form false = tells 9 (numbers_rule.none_is_zero why.RecordNotWellFormed)

-- a call that may change the watch: what was told, by its number and place
change_by : ℕ → ℕ → Told Given
change_by zero place = gives accepted
change_by (suc n) place = cond (eqb place no_place) (refused (Alone (suc n))) (refused (At (suc n) place))

alone_back : (n : ℕ) → ¬ (n ≡ accepted_number) → change_by n no_place ≡ refused (Alone n)
unfolding change_by
alone_back zero k = absurd (k refl)
alone_back (suc n) k = refl

place-back : (n place : ℕ) → ¬ (n ≡ accepted_number) → place < 6 → change_by n place ≡ refused (At n place)
unfolding change_by
place-back zero place k h = absurd (k refl)
place-back (suc n) place k h = rw (ne_eqb place no_place (λ e. omega arith))

change_back : (v : View) (k : Call) → Changes k → {t : Told Given} → WatchTold v k t → change_by (refusal_number t) (refusal_place t) ≡ t
unfolding change_by
change_back v (start c d) p grants = refl
change_back v (new_beam s l) p grants = refl
change_back v (file c b) p grants = refl
change_back v (ask c) p grants = absurd p
change_back v (verdict h) p grants = absurd p
change_back v k p (tells n x) = alone_back n x
change_back v k p (tells_at n place x h q) = place-back n place x h

change_fixes : (x y : Changing) → refusal_number (called x.watch x.call).answer ≡ refusal_number (called y.watch y.call).answer
    → refusal_place (called x.watch x.call).answer ≡ refusal_place (called y.watch y.call).answer
    → (called x.watch x.call).answer ≡ (called y.watch y.call).answer
change_fixes x y e f =
    sym (change_back (view_of x.watch) x.call x.changes (call_told x.watch x.call))
    ∙ ap₂ change_by e f
    ∙ change_back (view_of y.watch) y.call y.changes (call_told y.watch y.call)

test_kept : (w : Watch) → Kept refusal_number (λ n. n) (λ n. accepted) (tested w).answer
unfolding tested
test_kept w = by_form (well_formed w)
  where
    by_form : (b : Bool) → Kept refusal_number (λ n. n) (λ n. accepted) (cond b (record { watch = w; answer = gives accepted }) (returned w)).answer
    by_form true = given refl refl
    by_form false = numbered refl (numbers_rule.none_is_zero why.RecordNotWellFormed)

abbrev Asked : Told Given → Type 0
Asked = Kept levels_answer (λ z. z.refusal) (λ z. levels z.count z.mean)

levels_kept : (v : View) (c : ℕ) {t : Told Given} → WatchTold v (ask c) t → Asked t
levels_kept v c grants = given refl refl
levels_kept v c (tells n k) = numbered refl k
levels_kept v c (tells_at n place k h p) = absurd p

abbrev verdict_by : ℕ → ℕ → Given
verdict_by n c = cond (eqb n to_wait) wait (cond (eqb n to_stay) stay (move_to c))

abbrev Judged : Told Given → Type 0
Judged = Kept verdict_answer (λ z. z.refusal) (λ z. verdict_by z.verdict z.channel)

judged : (b : Bool) (o : Option ℕ) → Judged (gives (cond b (stay_or_move o) wait))
judged true none = given refl refl
judged true (some c) = given refl refl
judged false o = given refl refl

verdict_kept : (v : View) (h : ℤ) {t : Told Given} → WatchTold v (verdict h) t → Judged t
verdict_kept v h grants = judged (full v.depth (serving_levels v)) (target v h)
verdict_kept v h (tells n k) = numbered refl k
verdict_kept v h (tells_at n place k l p) = absurd p

-- ---- power
gives_placeless : {A : Type 0} {o : Told Unit} (a : A) → Placeless o → Placeless (giving o a)
gives_placeless a (value u) = value a
gives_placeless a (alone n k) = alone n k

started_told : (p : PowerParameters) → Placeless (powers.started p).answer
unfolding powers.started
started_told p = gives_placeless tt (unless (parameters_in_range p) why.ParameterOutOfRange refl (value tt))

tested_told : (r : PowerRecord) → Placeless (powers.tested r).answer
unfolding powers.tested
tested_told r = gives_placeless tt (unless (steps.well_formed r) why.RecordNotWellFormed refl (value tt))

step_told : (x : PowerStep) → Placeless (handed_power x).answer
unfolding powers.stepped
step_told x =
    gives_placeless (powers.sending x.parameters x.power x.decoded x.sqi)
    (unless (steps.well_formed x.power) why.RecordNotWellFormed refl
    (unless (parameters_in_range x.parameters && codes_in_range x.decoded) why.ParameterOutOfRange refl
    (unless (quality_in_range x.sqi) why.ReadingOutOfRange refl
    (value tt))))

-- no code to send is below 0
not-below : (n : ℕ) (z : ℤ) → pos n ≤ℤ z → pos (nat_abs z) ≡ z
not-below n (pos m) h = refl
not-below n (negsuc m) h = absurd h.le

sent_kept : (x : PowerStep) → Kept sent_answer (λ z. z.refusal) (λ z. record { par = pos z.par; pan = pos z.pan }) (handed_power x).answer
sent_kept x = go (handed_power x).answer refl (step_told x)
  where
    go : (t : Told ToSend) → (handed_power x).answer ≡ t → Placeless t
        → Kept sent_answer (λ z. z.refusal) (λ z. record { par = pos z.par; pan = pos z.pan }) t
    go (gives s) e p =
        let l = sends_within_limits x.parameters x.power x.decoded x.sqi s e in
        given refl (λ i. record { par = not-below _ s.par l.par_lowest i; pan = not-below _ s.pan l.pan_lowest i })
    go (refused (Alone n)) e (alone m k) = numbered refl k
    go (refused (At _ _)) e p = elim p [ ]

pub nothing_lost : NothingLost
nothing_lost =
    record {
      level = kept_over (λ x. hundredths_kept (converts level_low level_high x));
      quality = kept_over (λ x. hundredths_kept (converts quality_low quality_high x));
      level_back = kept_over (λ h. hundredths_kept (unless (level_in_range h) why.ReadingOutOfRange refl (value h)));
      quality_back = kept_over (λ h. hundredths_kept (unless (quality_in_range h) why.ReadingOutOfRange refl (value h)));
      level_shown = kept_over (λ h. float_kept (shows level_low level_high h));
      quality_shown = kept_over (λ h. float_kept (shows quality_low quality_high h));
      burst = kept_over (λ r. both_kept (converts level_low level_high r.level) (converts quality_low quality_high r.quality));
      sweep = λ x y e i. ((e i).sweep, number_fixes (files x) (files y) (ap (λ o. o.refusal) e) i);
      next = kept_over next_kept;
      counts = kept_over counts_kept;
      choice = kept_over choice_kept;
      watch = λ x y e i. record { watch = (e i).watch; answer = change_fixes x y (ap (λ o. o.refusal) e) (ap (λ o. o.place) e) i };
      levels = kept_over (λ x. levels_kept (view_of x.0) x.1 (call_told x.0 (ask x.1)));
      verdict = kept_over (λ x. verdict_kept (view_of x.0) x.1 (call_told x.0 (verdict x.1)));
      power = λ p q e i. record { power = (e i).power; answer = number_fixes (started_told p) (started_told q) (ap (λ o. o.refusal) e) i };
      sent = kept_over sent_kept;
      step = λ x y e i. record { power = (e i).power; answer = kept_over sent_kept x y (ap (λ o. o.answer) e) i };
      sweep_number = kept_over (λ s. number_kept (check_told s));
      watch_number = kept_over test_kept;
      power_number = kept_over (λ r. number_kept (tested_told r));
    }
