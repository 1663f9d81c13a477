-- The refusals in the words of documents 01 and 02. The rule's tests are those words, decided: a test that fails names the row of the table, and a row
-- decides the tests.
use Prim.Native.Nat.{ℕ, ◌≤◌, ◌<◌}
use mathlib.Core.Path.{◌≡◌, refl, sym, ap, ◌∙◌, subst}
use mathlib.Core.Logic.{inl, inr}
use mathlib.Core.Bool.{Bool, true, false, ◌||◌, or-true}
use mathlib.Core.List.{List, []}
use mathlib.Core.Option.{Option, none, some}
use native.Mathlib.Omega.{arith}
use lib.Dec.{leb}
use lib.IntN.{ℤ, pos}
use lib.Signed.{le_z, ◌<ℤ◌, clash_ℤ}
use borrow.Author.Tests.{le-leb, lt-leb, leb-true, leb-false}
use Rattle.refusal.specs.declared.Refusal.TheVariants as why
use Rattle.refusal.specs.declared.Reason.{Reason}
use Rattle.refusal.specs.declared.Reason.TheVariants.{Alone, At}
use Rattle.refusal.specs.Number.{number_in}
use Rattle.refusal.specs.Told.{Told, refused, gives, accepted, provided, acceptance}
use Rattle.refusal.proofs.OneToOne.{gives_refused}
use Rattle.refusal.proofs.Provided.{same_reason, acceptance_refused, refuse_now, refuse_later, refused_by}
use Rattle.readings_rules.specs.Channels.{channel_in_range}
use Rattle.readings_rules.specs.Burst.{burst_of}
use Rattle.readings_rules.proofs.Bursts.{burst_1}
use Rattle.watch_rules.specs.Lists.{is}
use Rattle.watch_rules.specs.Limits.{hysteresis_in_range, depth_in_range}
use Rattle.watch_rules.specs.Told.{Call, start, new_beam, file, ask, verdict}
use Rattle.watch_rules.specs.Rules.{View, watched, serves, unless_faulty, allowed, answer, granted}
use Rattle.watch_rules.specs.Plain.{Plain, seen}
use Rattle.watch_rules.specs.Refusals.{Watched, Refuses, Accepted, hysteresis_below, hysteresis_above, depth_below, depth_above, start_above, beam_above, list_too_long, list_faulty, file_not_watched, ask_not_watched, beam_idle, verdict_idle, burst_out_of_range}
use Rattle.watch_rules.proofs.Laws.{by_case, clash, and_left, and_right, and_both, or_true_right}
use Rattle.watch_rules.proofs.Depth.{depth_low, depth_high}
use Rattle.watch_rules.proofs.Order.{le_yes, by_order}
use Rattle.watch_rules.proofs.Calls.{refused_answer, granted_answer}
use Rattle.watch_rules.proofs.Answers.{in_range}
use Rattle.watch_rules.proofs.Words.{is_some, some_is}
use Rattle.watch_rules.proofs.Faults.{fault_within, fault_number}
use Rattle.watch_rules.proofs.FaultRule.{ListKind, is_long, has_fault, is_sound, list_kind, long_refused, fault_refused, sound_allowed}

-- ---- the tests in the table's words

module _ (p : Plain) (c : ℕ) where
  pub watched_yes : watched (seen p) c ≡ true → Watched p c
  watched_yes e =
      by_case (is p.serving c)
      (λ q. inl (is_some p.serving c q))
      (λ q. inr (or_true_right (is p.serving c) (p.neighbour c) e q))

  pub yes_watched : Watched p c → watched (seen p) c ≡ true
  yes_watched (inl e) = ap (λ (b : Bool). b || p.neighbour c) (some_is p.serving c e)
  yes_watched (inr e) = ap (λ (b : Bool). is p.serving c || b) e ∙ or-true (is p.serving c)

  pub no_watched : ¬ (Watched p c) → watched (seen p) c ≡ false
  no_watched n = by_case (watched (seen p) c) (λ e. absurd (n (watched_yes e))) (λ e. e)

serves_none : (o : Option ℕ) → serves o ≡ false → o ≡ none
serves_none none e = refl
serves_none (some s) e = clash refl e

too_low : (h : ℤ) → h <ℤ pos 0 → hysteresis_in_range h ≡ false
too_low h l = by_case (hysteresis_in_range h) (λ e. clash_ℤ l (le_yes (pos 0) h (and_left (le_z (pos 0) h) (le_z h (pos 6000)) e))) (λ e. e)

too_high : (h : ℤ) → pos 6000 <ℤ h → hysteresis_in_range h ≡ false
too_high h l = by_case (hysteresis_in_range h) (λ e. clash_ℤ l (le_yes h (pos 6000) (and_right (le_z (pos 0) h) (le_z h (pos 6000)) e))) (λ e. e)

too_shallow : (d : ℕ) → d < 5 → depth_in_range d ≡ false
too_shallow d l = by_case (depth_in_range d) (λ e. absurd (let k = depth_low d e in omega arith)) (λ e. e)

too_deep : (d : ℕ) → 31 < d → depth_in_range d ≡ false
too_deep d l = by_case (depth_in_range d) (λ e. absurd (let k = depth_high d e in omega arith)) (λ e. e)

-- ---- from a refusal to its row

module _ (p : Plain) where
  -- the row of a reason that is known
  known : {k : Call} {m n : Reason} → m ≡ n → Refuses p k m → Refuses p k n
  known {k} q row = subst (Refuses p k) q row

  idle_row : (k : Call) {n : Reason} → provided (serves p.serving) why.NotWatched accepted ≡ refused n
      → (p.serving ≡ none → Refuses p k (Alone 6)) → Refuses p k n
  idle_row k e row =
      refused_by (serves p.serving) why.NotWatched accepted e (λ s q. known q (row (serves_none p.serving s))) (λ s q. absurd (gives_refused q))

  -- once the serving channel is in range
  list_row : (s : ℕ) (l : List ℕ) (n : Reason) → s ≤ 1087
      → unless_faulty s l (provided (serves p.serving) why.NotWatched accepted) ≡ refused n → ListKind s l → Refuses p (new_beam s l) n
  list_row s l n i e (is_long h) = known (same_reason (long_refused s l _ h) e) (list_too_long s l i h)
  list_row s l n i e (has_fault place m h f) = known (same_reason (fault_refused s l _ h f) e) (list_faulty s l place m i h f)
  list_row s l n i e (is_sound x) = idle_row (new_beam s l) (sym (sound_allowed s l _ x) ∙ e) (beam_idle s l i x)

  row_of : (k : Call) (n : Reason) → allowed (seen p) k ≡ refused n → Refuses p k n
  row_of (start c d) n e =
      refused_by (depth_in_range d) why.ParameterOutOfRange (provided (channel_in_range c) why.ChannelOutOfRange accepted) e
      (λ b q. by_case (leb 5 d)
      (λ l. by_case (leb d 31) (λ m. clash (and_both l m) b) (λ m. known q (depth_above c d (leb-false d 31 m))))
      (λ l. known q (depth_below c d (leb-false 5 d l))))
      (λ b z. refused_by (channel_in_range c) why.ChannelOutOfRange accepted z
      (λ a q. known q (start_above c d (depth_low d b) (depth_high d b) (leb-false c 1087 a)))
      (λ a q. absurd (gives_refused q)))
  row_of (new_beam s l) n e =
      refused_by (channel_in_range s) why.ChannelOutOfRange (unless_faulty s l (provided (serves p.serving) why.NotWatched accepted)) e
      (λ a q. known q (beam_above s l (leb-false s 1087 a)))
      (λ a z. list_row s l n (leb-true s 1087 a) z (list_kind s l))
  row_of (file c b) n e =
      refused_by (watched (seen p) c) why.NotWatched (acceptance (burst_of b)) e
      (λ x q. known q (file_not_watched c b (λ w. clash (yes_watched p c w) x)))
      (λ x z.
      let t : burst_of b ≡ refused n = acceptance_refused (burst_of b) z in
      let one : n ≡ Alone 1 = burst_1 b n t in
      known (sym one) (burst_out_of_range c b (watched_yes p c x) (t ∙ ap refused one)))
  row_of (ask c) n e =
      refused_by (watched (seen p) c) why.NotWatched accepted e
      (λ x q. known q (ask_not_watched c (λ w. clash (yes_watched p c w) x)))
      (λ b q. absurd (gives_refused q))
  row_of (verdict h) n e =
      refused_by (hysteresis_in_range h) why.ParameterOutOfRange (provided (serves p.serving) why.NotWatched accepted) e
      (λ b q. by_order h (pos 0)
      (λ l. known q (hysteresis_below h l))
      (λ l. by_order (pos 6000) h (λ m. known q (hysteresis_above h m)) (λ m. clash (in_range h l m) b)))
      (λ b z. idle_row (verdict h) z
      (verdict_idle h
      (le_yes (pos 0) h (and_left (le_z (pos 0) h) (le_z h (pos 6000)) b))
      (le_yes h (pos 6000) (and_right (le_z (pos 0) h) (le_z h (pos 6000)) b))))

  -- ---- from a row to the answer

  from_row_allowed : {k : Call} {n : Reason} → Refuses p k n → allowed (seen p) k ≡ refused n
  from_row_allowed (hysteresis_below h l) = refuse_now why.ParameterOutOfRange _ (too_low h l)
  from_row_allowed (hysteresis_above h l) = refuse_now why.ParameterOutOfRange _ (too_high h l)
  from_row_allowed (depth_below c d l) = refuse_now why.ParameterOutOfRange _ (too_shallow d l)
  from_row_allowed (depth_above c d l) = refuse_now why.ParameterOutOfRange _ (too_deep d l)
  from_row_allowed (start_above c d a b l) =
      refuse_later why.ParameterOutOfRange (and_both (le-leb 5 d a) (le-leb d 31 b)) (refuse_now why.ChannelOutOfRange _ (lt-leb c 1087 l))
  from_row_allowed (beam_above s l h) = refuse_now why.ChannelOutOfRange _ (lt-leb s 1087 h)
  from_row_allowed (list_too_long s l i h) = refuse_later why.ChannelOutOfRange (le-leb s 1087 i) (long_refused s l _ h)
  from_row_allowed (list_faulty s l place n i h f) = refuse_later why.ChannelOutOfRange (le-leb s 1087 i) (fault_refused s l _ h f)
  from_row_allowed (file_not_watched c b n) = refuse_now why.NotWatched _ (no_watched p c n)
  from_row_allowed (ask_not_watched c n) = refuse_now why.NotWatched _ (no_watched p c n)
  from_row_allowed (beam_idle s l i n e) =
      refuse_later why.ChannelOutOfRange (le-leb s 1087 i) (sound_allowed s l _ n ∙ refuse_now why.NotWatched _ (ap serves e))
  from_row_allowed (verdict_idle h a b e) =
      refuse_later why.ParameterOutOfRange (in_range h a b) (refuse_now why.NotWatched _ (ap serves e))
  from_row_allowed (burst_out_of_range c b w e) = refuse_later why.NotWatched (yes_watched p c w) (ap acceptance e)

  pub from_row : {k : Call} {n : Reason} → Refuses p k n → answer (seen p) k ≡ refused n
  from_row {k} {n} row = refused_answer (seen p) k n (from_row_allowed row)

  -- ---- both ways

  pub to_row : (k : Call) (n : Reason) → answer (seen p) k ≡ refused n → Refuses p k n
  to_row k n e = go (allowed (seen p) k) refl
    where
      go : (o : Told Unit) → allowed (seen p) k ≡ o → Refuses p k n
      go (gives u) q = absurd (gives_refused (sym (granted_answer (seen p) k q) ∙ e))
      go (refused m) q = known (same_reason (refused_answer (seen p) k m q) e) (row_of k m q)

  -- where no row fits, nothing refuses the call, and it is granted
  pub no_refusal : (k : Call) → Accepted p k → allowed (seen p) k ≡ gives tt
  no_refusal k none_fits = go (allowed (seen p) k) refl
    where
      go : (o : Told Unit) → allowed (seen p) k ≡ o → allowed (seen p) k ≡ gives tt
      go (gives u) q = q
      go (refused n) q = absurd (none_fits n (row_of k n q))

  pub no_row : (k : Call) → Accepted p k → answer (seen p) k ≡ gives (granted (seen p) k)
  no_row k none_fits = granted_answer (seen p) k (no_refusal k none_fits)

-- ---- the numbers and places of the table

-- none is 0, and none is 9
pub row_number : {p : Plain} {k : Call} {n : Reason} → Refuses p k n → (1 ≤ number_in n) × (¬ (number_in n ≡ 9))
row_number (hysteresis_below h l) = (omega arith, λ e. omega arith)
row_number (hysteresis_above h l) = (omega arith, λ e. omega arith)
row_number (depth_below c d l) = (omega arith, λ e. omega arith)
row_number (depth_above c d l) = (omega arith, λ e. omega arith)
row_number (start_above c d a b l) = (omega arith, λ e. omega arith)
row_number (beam_above s l h) = (omega arith, λ e. omega arith)
row_number (list_too_long s l i h) = (omega arith, λ e. omega arith)
row_number (list_faulty s l place n i h f) = let k = (fault_number f.fault).0 in (omega arith, λ e. omega arith)
row_number (file_not_watched c b w) = (omega arith, λ e. omega arith)
row_number (ask_not_watched c w) = (omega arith, λ e. omega arith)
row_number (beam_idle s l i f q) = (omega arith, λ e. omega arith)
row_number (verdict_idle h a b q) = (omega arith, λ e. omega arith)
row_number (burst_out_of_range c b w q) = (omega arith, λ e. omega arith)

-- a place is one of the six of a list
pub place_row : {p : Plain} {k : Call} {n place : ℕ} → Refuses p k (At n place) → (place < 6) × ((s : ℕ) × (l : List ℕ) × (k ≡ new_beam s l))
place_row (list_faulty s l place n i h f) = (omega (arith, h, fault_within f.fault), (s, l, refl))

-- the row of a call that is refused over what a watch shows
abbrev shown_by : View → Plain
shown_by v = record { depth = 0; serving = v.serving; neighbour = v.neighbour; levels = λ c. [] }

view_row : (v : View) (k : Call) {n : Reason} → allowed v k ≡ refused n → Refuses (shown_by v) k n
view_row v (start c d) e = row_of (shown_by v) (start c d) _ e
view_row v (new_beam s l) e = row_of (shown_by v) (new_beam s l) _ e
view_row v (file c b) e = row_of (shown_by v) (file c b) _ e
view_row v (ask c) e = row_of (shown_by v) (ask c) _ e
view_row v (verdict h) e = row_of (shown_by v) (verdict h) _ e

pub told_number : (v : View) (k : Call) {n : Reason} → allowed v k ≡ refused n → 1 ≤ number_in n
told_number v k e = (row_number (view_row v k e)).0

pub told_place : (v : View) (k : Call) {n place : ℕ} → allowed v k ≡ refused (At n place) → (place < 6) × ((s : ℕ) × (l : List ℕ) × (k ≡ new_beam s l))
told_place v k e = place_row (view_row v k e)
