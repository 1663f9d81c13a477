-- Demand 3. Record and plain watch keep in step through every call, granted or refused, from the fresh one on; what they show is then one
-- value, and all that is compared follows from it. Of a list the plain watch takes the set alone; only which fault is told first goes by its
-- order.
use Prim.Native.Nat.{ℕ, ◌≤◌}
use mathlib.Core.Path.{◌≡◌, refl, sym, ap, ap₂, ◌∙◌, subst, subst₂}
use mathlib.Core.Bool.{Bool, true, false, cond, ◌&&◌, ◌||◌}
use mathlib.Core.List.{List, [], ◌∷◌, map}
use mathlib.Core.Option.{some}
use native.Mathlib.Omega.{arith}
use lib.Dec.{eqb}
use lib.ListN.{length, take, length-map}
use Rattle.refusal.specs.declared.Refusal.{Refusal}
use Rattle.refusal.specs.declared.Refusal.TheVariants as why
use Rattle.refusal.specs.declared.Reason.TheVariants.{At}
use Rattle.refusal.specs.Told.{Told, refused, gives, refused_for, provided, giving, unless_refused}
use Rattle.readings_rules.specs.Channels.{channel_in_range}
use Rattle.readings_rules.specs.Burst.{BurstResult, heard, missed, burst_of}
use Rattle.watch_rules.specs.declared.Watch.{Watch}
use Rattle.watch_rules.specs.Lists.{mem, is, pad_to}
use Rattle.watch_rules.specs.Limits.{room}
use Rattle.watch_rules.specs.Told.{Call, start, new_beam, file, ask, verdict, Called, Given, accepted}
use Rattle.watch_rules.specs.Rules.{View, watched, serves, unless_faulty, allowed, answer, full, counts, target}
use Rattle.watch_rules.specs.Refusals.{Faulty, too_long}
use Rattle.watch_rules.specs.Plain.{Plain, idle, under_watch, seen, after_file, change, next, answers, after}
use Rattle.watch_rules.specs.Rows.{Row, channels, levels_of, first, rest, shown, changed_rows, changed_depth}
use Rattle.watch_rules.specs.Record.{view_of, track_of, unused, record_of, changed_record, fresh, called, answers_from, after_from}
use Rattle.watch_rules.specs.Claims.{mean_told, moves_to, Compared, count_of, of_record, of_plain, Alike, Reordered, ButForOrder, same, lists, AllButForOrder, end, more, OneOfFaults, AsPlain, ButForFault, same_answer, faults, AllButForFault, no_more, and_more, PlaceFree, Demand3}
use Rattle.watch_rules.proofs.Laws.{by_case, clash, take_pad_to, view_path, levels_none}
use Rattle.watch_rules.proofs.Faults.{fault_number, fault_faulty}
use Rattle.watch_rules.proofs.FaultRule.{ListKind, is_long, has_fault, is_sound, list_kind, long_refused, fault_refused, sound_allowed}
use Rattle.watch_rules.proofs.Encode.{rows_record}
use Rattle.watch_rules.proofs.Calls.{called_record, first_watched}
use Rattle.watch_rules.proofs.Steps.{Step, step}
use Rattle.watch_rules.proofs.Reorder.{length-reordered, faulty_reordered, mem_reordered}
use Rattle.watch_rules.proofs.Answers.{mean_told_lem, moved_told}

-- ---- in step through every call

-- the record is that of rows that keep in step with the plain watch, at its depth
pub record Linked (w : Watch) (p : Plain) : Type 0 where
  pub held : List Row
  pub made : w ≡ record_of p.depth held
  pub kept : Step held p

-- a call does to the depth of the record what it does to that of the plain watch
depth_filed : (p : Plain) (c : ℕ) (t : Told BurstResult) → p.depth ≡ (after_file p c t).depth
depth_filed p c (gives (heard x q)) = refl
depth_filed p c (gives missed) = refl
depth_filed p c (refused n) = refl

pub depth_changed : (p : Plain) (k : Call) → changed_depth p.depth k ≡ (change p k).depth
depth_changed p (start c d) = refl
depth_changed p (new_beam s l) = refl
depth_changed p (file c b) = depth_filed p c (burst_of b)
depth_changed p (ask c) = refl
depth_changed p (verdict h) = refl

module _ (rs : List Row) (p : Plain) (k : Call) (s : Step rs p) where
  abbrev old : Watch
  old = record_of p.depth rs

  answered_step : (called old k).answer ≡ answer (seen p) k
  answered_step = ap (λ (o : Called). o.answer) (called_record p.depth rs k s.good) ∙ ap (λ (v : View). answer v k) s.same

  linked_step : Linked (called old k).watch (next p k)
  linked_step = subst (λ (o : Told Unit). Linked (called old k).watch (unless_refused o p (change p k))) also (go (allowed (shown p.depth rs) k) refl)
    where
      at : {o : Told Unit} → allowed (shown p.depth rs) k ≡ o → (called old k).watch ≡ unless_refused o old (changed_record p.depth rs k)
      at e =
          ap (λ (o : Called). o.watch) (called_record p.depth rs k s.good)
          ∙ ap (λ (o : Told Unit). unless_refused o old (changed_record p.depth rs k)) e

      also : allowed (shown p.depth rs) k ≡ allowed (seen p) k
      also = ap (λ (v : View). allowed v k) s.same

      go : (o : Told Unit) → allowed (shown p.depth rs) k ≡ o → Linked (called old k).watch (unless_refused o p (change p k))
      go (gives u) e =
          record {
            held = changed_rows p.depth rs k;
            made = at e ∙ ap (λ (n : ℕ). record_of n (changed_rows p.depth rs k)) (depth_changed p k);
            kept = step rs p k s e;
          }
      go (refused n) e = record { held = rs; made = at e; kept = s }

pub linked_next : {w : Watch} {p : Plain} (k : Call) → Linked w p → Linked (called w k).watch (next p k)
linked_next {p = p} k l = subst (λ (x : Watch). Linked (called x k).watch (next p k)) (sym l.made) (linked_step l.held p k l.kept)

answered_linked : {w : Watch} {p : Plain} (k : Call) → Linked w p → (called w k).answer ≡ answer (seen p) k
answered_linked {p = p} k l = ap (λ (x : Watch). (called x k).answer) l.made ∙ answered_step l.held p k l.kept

answered_all : (ks : List Call) (w : Watch) (p : Plain) → Linked w p → answers_from w ks ≡ answers p ks
answered_all [] w p l = refl
answered_all (k ∷ ks) w p l =
    ap₂ ◌∷◌
    (answered_linked k l)
    (answered_all ks (called w k).watch (next p k) (linked_next k l))

linked_all : (ks : List Call) (w : Watch) (p : Plain) → Linked w p → Linked (after_from w ks) (after p ks)
linked_all [] w p l = l
linked_all (k ∷ ks) w p l = linked_all ks (called w k).watch (next p k) (linked_next k l)

linked_fresh : Linked fresh idle
linked_fresh =
    record {
      held = [];
      made = refl;
      kept = record { good = record { depth = refl; short = refl; apart = refl; fine = refl }; same = view_path refl refl (λ c. refl) (λ c. refl) };
    }

pub linked : (ks : List Call) → Linked (after_from fresh ks) (after idle ks)
linked ks = linked_all ks fresh idle linked_fresh

-- the answer to one more call
pub answered_next : (ks : List Call) (k : Call) → (called (after_from fresh ks) k).answer ≡ answer (seen (after idle ks)) k
answered_next ks k = answered_linked k (linked ks)

-- ---- alike

pub shows : {w : Watch} {p : Plain} → Linked w p → view_of w ≡ seen p
shows {p = p} l = ap (λ (x : Watch). view_of x) l.made ∙ ap (shown p.depth) (rows_record p.depth l.held) ∙ l.kept.same

count_tracks : (c : ℕ) (rs : List Row) → count_of c (map track_of rs) ≡ length (levels_of c rs)
count_tracks c [] = refl
count_tracks c (r ∷ rs) = by_case (eqb r.channel c) (λ q. rw q) (λ q. rw q (count_tracks c rs))

pub count_record : (d c : ℕ) (rs : List Row) → count_of c (take (record_of d rs).watched (record_of d rs).tracks) ≡ length (levels_of c rs)
count_record d c rs =
    ap (λ (n : ℕ). count_of c (take n (pad_to room unused (map track_of rs)))) (sym (length-map rs track_of))
    ∙ ap (count_of c) (take_pad_to room unused (map track_of rs))
    ∙ count_tracks c rs

-- a channel that is not under watch has no levels
pub unwatched_bare : (rs : List Row) (p : Plain) (c : ℕ) → Step rs p → watched (seen p) c ≡ false → (seen p).levels c ≡ []
unwatched_bare rs p c s e =
    sym (ap (λ (v : View). v.levels c) s.same)
    ∙ levels_none c rs (sym (first_watched p.depth rs c) ∙ ap (λ (v : View). watched v c) s.same ∙ e)

-- and where none serves, there is no neighbour
rows_alone : (rs : List Row) → serves (first rs) ≡ false → (c : ℕ) → mem c (channels (rest rs)) ≡ false
rows_alone [] e c = refl
rows_alone (r ∷ rs) e c = clash refl e

alone : (rs : List Row) (p : Plain) → Step rs p → serves p.serving ≡ false → (c : ℕ) → p.neighbour c ≡ false
alone rs p s = subst (λ (v : View). serves v.serving ≡ false → (c : ℕ) → v.neighbour c ≡ false) s.same (rows_alone rs)

pub alike_linked : {w : Watch} {p : Plain} → Linked w p → Alike (of_record w) (of_plain p)
alike_linked {w} {p} l =
    record {
      depth = ap (λ (v : View). v.depth) (shows l);
      serving = ap (λ (v : View). v.serving) (shows l);
      neighbour = λ c. ap (λ (v : View). v.neighbour c) (shows l);
      levels = λ c. ap (λ (v : View). v.levels c) (shows l);
      count =
          λ c.
          ap (λ (x : Watch). count_of c (take x.watched x.tracks)) l.made
          ∙ count_record p.depth c l.held
          ∙ ap (λ (v : View). length (v.levels c)) l.kept.same;
      mean = λ c. ap mean_told (answered_linked (ask c) l) ∙ mean_told_lem (seen p) c (unwatched_bare l.held p c l.kept);
      part =
          λ h low high c.
          let m : moves_to (called w (verdict h)).answer c ≡ is (target (seen p) h) c =
          ap (λ (a : Told Given). moves_to a c) (answered_linked (verdict h) l) ∙ moved_told (seen p) h c (alone l.held p l.kept) low high in
          λ i. record { full = full (shows l i).depth ((shows l i).levels c); counts = counts (shows l i) h c; moved_to = m i };
    }

pub as_plain : (ks : List Call) → AsPlain ks
as_plain ks = record { answered = answered_all ks fresh idle linked_fresh; alike = alike_linked (linked ks) }

-- ---- the order within lists

pub one_of_faults : (n : ℕ) → (12 ≤ n) × (n ≤ 14) → OneOfFaults n
one_of_faults n k = (omega (arith, k.0), omega (arith, k.1))

-- whether two calls are allowed: alike, or both refused for a fault of their lists
data AllowedAlike : Told Unit → Told Unit → Type 0 where
  alike_allowed : (a : Told Unit) → AllowedAlike a a
  both_faulty : (n m place other : ℕ) → OneOfFaults n → OneOfFaults m → AllowedAlike (refused (At n place)) (refused (At m other))

-- two lists of which each is as the other but for its order: both are too long, or both have a first fault, or neither is faulty
module _ (s : ℕ) (a : Told Unit) (l m : List ℕ) (r : Reordered l m) where
  back : Faulty s m → Faulty s l
  back = faulty_reordered m l (λ (c : ℕ). sym (r c)) s

  equal_ends : {b : Told Unit} → unless_faulty s l a ≡ b → unless_faulty s m a ≡ b
      → AllowedAlike (unless_faulty s l a) (unless_faulty s m a)
  equal_ends e f = subst (AllowedAlike (unless_faulty s l a)) (e ∙ sym f) (alike_allowed (unless_faulty s l a))

  lists_alike : ListKind s l → ListKind s m → AllowedAlike (unless_faulty s l a) (unless_faulty s m a)
  lists_alike (is_long h) (is_long k) = equal_ends (long_refused s l a h) (long_refused s m a k)
  lists_alike (is_long h) (has_fault place n k f) = absurd (let e = length-reordered l m r in omega arith)
  lists_alike (is_long h) (is_sound n) = absurd (n (faulty_reordered l m r s (too_long h)))
  lists_alike (has_fault place n h f) (is_long k) = absurd (let e = length-reordered l m r in omega arith)
  lists_alike (has_fault place n h f) (has_fault other o k g) =
      subst₂ AllowedAlike (sym (fault_refused s l a h f)) (sym (fault_refused s m a k g))
      (both_faulty n o place other (one_of_faults n (fault_number f.fault)) (one_of_faults o (fault_number g.fault)))
  lists_alike (has_fault place n h f) (is_sound x) = absurd (x (faulty_reordered l m r s (fault_faulty s l f.fault)))
  lists_alike (is_sound x) (is_long k) = absurd (x (back (too_long k)))
  lists_alike (is_sound x) (has_fault place n k f) = absurd (x (back (fault_faulty s m f.fault)))
  lists_alike (is_sound x) (is_sound y) = equal_ends (sound_allowed s l a x) (sound_allowed s m a y)

-- behind a test that both pass or fail
behind_test : (b : Bool) (r : Refusal) {x y : Told Unit} → AllowedAlike x y → AllowedAlike (provided b r x) (provided b r y)
behind_test true r a = a
behind_test false r a = alike_allowed (refused_for r)

allowed_but : (p : Plain) {k j : Call} → ButForOrder k j → AllowedAlike (allowed (seen p) k) (allowed (seen p) j)
allowed_but p (same k) = alike_allowed (allowed (seen p) k)
allowed_but p (lists s l m r) = behind_test (channel_in_range s) why.ChannelOutOfRange (lists_alike s _ l m r (list_kind s l) (list_kind s m))

answer_alike : {a b : Told Unit} (g : Given) → AllowedAlike a b → ButForFault (giving a g) (giving b g)
answer_alike g (alike_allowed a) = same_answer (giving a g)
answer_alike g (both_faulty n m place other x y) = faults n m place other x y

answer_but : (p : Plain) {k j : Call} → ButForOrder k j → ButForFault (answer (seen p) k) (answer (seen p) j)
unfolding answer
answer_but p (same k) = same_answer (answer (seen p) k)
answer_but p (lists s l m r) = answer_alike accepted (allowed_but p (lists s l m r))

change_but : (p : Plain) {k j : Call} → ButForOrder k j → change p k ≡ change p j
change_but p (same k) = refl
change_but p (lists s l m r) =
    λ i.
    record {
      depth = p.depth;
      serving = some s;
      neighbour = λ c. mem_reordered l m r c i;
      levels = λ c. cond (under_watch p c && (eqb s c || mem_reordered l m r c i)) (p.levels c) [];
    }

next_alike : {a b : Told Unit} (p q : Plain) → AllowedAlike a b → unless_refused a p q ≡ unless_refused b p q
next_alike p q (alike_allowed a) = refl
next_alike p q (both_faulty n m place other x y) = refl

next_but : (p : Plain) {k j : Call} → ButForOrder k j → next p k ≡ next p j
next_but p {k} {j} b = next_alike p (change p k) (allowed_but p b) ∙ ap (unless_refused (allowed (seen p) j) p) (change_but p b)

answers_but : (p : Plain) {ks js : List Call} → AllButForOrder ks js → AllButForFault (answers p ks) (answers p js)
answers_but p end = no_more
answers_but p (more {k} {j} {ks} {js} b bs) =
    and_more (answer_but p b) (subst (λ (q : Plain). AllButForFault (answers (next p k) ks) (answers q js)) (next_but p b) (answers_but (next p k) bs))

after_but : (p : Plain) {ks js : List Call} → AllButForOrder ks js → after p ks ≡ after p js
after_but p end = refl
after_but p (more {k} {j} {ks} {js} b bs) = after_but (next p k) bs ∙ ap (λ (q : Plain). after q js) (next_but p b)

pub alike_both : {a b c : Compared} → Alike a b → Alike c b → Alike a c
alike_both x y =
    record {
      depth = x.depth ∙ sym y.depth;
      serving = x.serving ∙ sym y.serving;
      neighbour = λ c. x.neighbour c ∙ sym (y.neighbour c);
      levels = λ c. x.levels c ∙ sym (y.levels c);
      count = λ c. x.count c ∙ sym (y.count c);
      mean = λ c. x.mean c ∙ sym (y.mean c);
      part = λ h low high c. x.part h low high c ∙ sym (y.part h low high c);
    }

place_free : (ks js : List Call) → AllButForOrder ks js → PlaceFree ks js
place_free ks js b =
    record {
      answered = subst₂ AllButForFault (sym (as_plain ks).answered) (sym (as_plain js).answered) (answers_but idle b);
      alike =
          alike_both
          (subst (λ (p : Plain). Alike (of_record (after_from fresh ks)) (of_plain p)) (after_but idle b) (as_plain ks).alike)
          (as_plain js).alike;
    }

pub demand3 : Demand3
demand3 = record { as_plain = as_plain; place_free = place_free }
