-- The new beam after every sequence of calls: when it is accepted, and what it does of what a new list and a move did. A channel that is not
-- under watch has no levels, since its last ones are none and the depth is above 0.
use Prim.Native.Nat.{ℕ, ◌≤◌, ◌<◌}
use mathlib.Core.Path.{◌≡◌, refl, sym, ap, ap₂, ◌∙◌, subst}
use mathlib.Core.Logic.{◌↔◌, inl, inr}
use mathlib.Core.Bool.{Bool, true, false, not, cond, ◌&&◌, ◌||◌}
use mathlib.Core.List.{List, [], ◌∷◌, ◌++◌}
use mathlib.Core.Option.{Option, none, some, some-ne-none}
use native.Mathlib.Omega.{arith}
use lib.Dec.{eqb, leb}
use lib.IntN.{ℤ}
use lib.ListN.{length}
use borrow.Author.Tests.{eqb-true, leb-true, leb-false}
use Rattle.refusal.specs.declared.Reason.{Reason}
use Rattle.refusal.specs.Told.{Told, refused, gives, unless_refused}
use Rattle.refusal.proofs.OneToOne.{gives_refused}
use Rattle.watch_rules.specs.Lists.{mem, times_in, distinct, is, last_n}
use Rattle.watch_rules.specs.Told.{Call, new_beam, accepted}
use Rattle.watch_rules.specs.Rules.{View, serves, allowed, answer, mean, full, counts, target}
use Rattle.watch_rules.specs.Plain.{Plain, idle, under_watch, seen, after_new_beam, after}
use Rattle.watch_rules.specs.Rows.{Row, channels, first, rest}
use Rattle.watch_rules.specs.Record.{fresh, after_from}
use Rattle.watch_rules.specs.Refusals.{Watched, Faulty, too_long, serving_in, Refuses, Accepted, beam_above, list_too_long, list_faulty, beam_idle}
use Rattle.watch_rules.specs.PlainSteps.{BeamTaken}
use Rattle.watch_rules.specs.Claims.{Compared, of_record, Alike, NeighboursReplaced, BeamRule}
use Rattle.watch_rules.proofs.Levels.{last_of}
use Rattle.watch_rules.proofs.Laws.{by_case, clash, and_left, not_is, last_none, view_path}
use Rattle.watch_rules.proofs.Depth.{depth_low}
use Rattle.watch_rules.proofs.Words.{mem_times, times_mem}
use Rattle.watch_rules.proofs.Faults.{fault_faulty}
use Rattle.watch_rules.proofs.FaultRule.{ListKind, is_long, has_fault, is_sound, list_kind}
use Rattle.watch_rules.proofs.Refusals.{watched_yes, yes_watched, no_watched, from_row}
use Rattle.watch_rules.proofs.PlainSteps.{plain_rule}
use Rattle.watch_rules.proofs.Sequence.{sequence_rule}
use Rattle.watch_rules.proofs.Steps.{Step, deep}
use Rattle.watch_rules.proofs.Demand3.{linked, linked_next, alike_linked, alike_both, unwatched_bare, answered_next}
use Rattle.watch_rules.proofs.Rules.{accepted_rule}
use Rattle.watch_rules.proofs.Moved.{was_serving, move_ranged, not_faulty, roles_changed}

-- ---- when it is accepted

module _ (p : Plain) (s : ℕ) (l : List ℕ) (e : answer (seen p) (new_beam s l) ≡ gives accepted) where
  no_row_fits : Accepted p (new_beam s l)
  no_row_fits n row = gives_refused (sym e ∙ from_row p row)

  ranged : s ≤ 1087
  ranged = by_case (leb s 1087) (λ b. leb-true s 1087 b) (λ b. absurd (no_row_fits _ (beam_above s l (leb-false s 1087 b))))

  sound : ListKind s l → ¬ (Faulty s l)
  sound (is_long h) f = no_row_fits _ (list_too_long s l ranged h)
  sound (has_fault place n h g) f = no_row_fits _ (list_faulty s l place n ranged h g)
  sound (is_sound n) f = n f

  runs : ¬ (p.serving ≡ none)
  runs z = no_row_fits _ (beam_idle s l ranged (sound (list_kind s l)) z)

none_fits : {p : Plain} {s : ℕ} {l : List ℕ} {n : Reason} → s ≤ 1087 → ¬ (Faulty s l) → ¬ (p.serving ≡ none) → ¬ (Refuses p (new_beam s l) n)
none_fits i f o (beam_above s l h) = omega arith
none_fits i f o (list_too_long s l j h) = f (too_long h)
none_fits i f o (list_faulty s l place n j h g) = f (fault_faulty s l g.fault)
none_fits i f o (beam_idle s l j g z) = o z

-- what it leaves of the plain watch
beam_taken : (ks : List Call) (s : ℕ) (l : List ℕ) → Accepted (after idle ks) (new_beam s l)
    → BeamTaken (after idle ks) s l (after idle (ks ++ new_beam s l ∷ []))
beam_taken ks s l a =
    subst (BeamTaken (after idle ks) s l) (sym (sequence_rule.in_turn ks (new_beam s l)).plain) ((plain_rule.steps (after idle ks)).beams s l a)

-- ---- a channel that is not under watch

last_nothing : (n : ℕ) (l : List ℤ) → 0 < n → last_n n l ≡ [] → l ≡ []
last_nothing n [] h e = refl
last_nothing n (x ∷ l) h e = absurd (let z : length (last_n n (x ∷ l)) ≡ 0 = ap length e in omega (arith, h, z, (last_of n (x ∷ l)).number))

first_alone : (rs : List Row) (s : ℕ) → first rs ≡ some s → distinct (channels rs) ≡ true → mem s (channels (rest rs)) ≡ false
first_alone [] s e u = refl
first_alone (r ∷ rs) s e u =
    let z : r.channel ≡ s = cc in
    ap (λ (c : ℕ). mem c (channels rs)) (sym z) ∙ not_is _ (and_left (not (mem r.channel (channels rs))) (distinct (channels rs)) u)

module _ (rs : List Row) (p : Plain) (k : Step rs p) (s : ℕ) (serving : p.serving ≡ some s) where
  serving_first : first rs ≡ some s
  serving_first = ap (λ (v : View). v.serving) k.same ∙ serving

  above_0 : 0 < p.depth
  above_0 = let d = depth_low p.depth (deep p.depth rs k.good (ap serves serving_first)) in omega arith

  bare : (d : ℕ) → ¬ (Watched p d) → p.levels d ≡ []
  bare d n = last_nothing p.depth (p.levels d) above_0 (unwatched_bare rs p d k (no_watched p d n))

  -- the serving channel is no neighbour
  apart : ¬ (p.neighbour s ≡ true)
  apart e = clash (ap (λ (v : View). v.neighbour s) k.same ∙ e) (first_alone rs s serving_first k.good.apart)

-- ---- the serving channel as it was

replaces : (ks : List Call) (s : ℕ) (l : List ℕ) → (after idle ks).serving ≡ some s → answer (seen (after idle ks)) (new_beam s l) ≡ gives accepted
    → NeighboursReplaced (after idle ks) l (after idle (ks ++ new_beam s l ∷ []))
replaces ks s l e a =
    record {
      depth = t.depth;
      serving = t.serving ∙ sym e;
      serving_keeps = λ c z. t.kept c (inl z) (inl (t.serving ∙ sym e ∙ z));
      neighbours = t.neighbours;
      kept = λ c n h. t.kept c (inr n) (inr ((t.neighbours c).1 h));
      dropped = λ c n z. t.dropped c (gone c n z);
      new = λ c n h. t.others c (unknown c n h);
    }
  where
    t : BeamTaken (after idle ks) s l (after idle (ks ++ new_beam s l ∷ []))
    t = beam_taken ks s l (no_row_fits (after idle ks) s l a)

    gone : (c : ℕ) → (after idle ks).neighbour c ≡ true → times_in c l ≡ 0 → ¬ (Watched (after idle (ks ++ new_beam s l ∷ [])) c)
    gone c n z (inl x) =
        apart (linked ks).held (after idle ks) (linked ks).kept c (e ∙ sym t.serving ∙ x) n
    gone c n z (inr x) = let h = (t.neighbours c).0 x in omega arith

    unknown : (c : ℕ) → (after idle ks).neighbour c ≡ false → 0 < times_in c l → ¬ (Watched (after idle ks) c)
    unknown c n h (inl x) =
        let z : c ≡ s = cc in
        sound (after idle ks) s l a (list_kind s l) (serving_in (subst (λ (y : ℕ). 0 < times_in y l) z h))
    unknown c n h (inr x) = clash x n

-- ---- no channel dropped

module _ (ks : List Call) (s : ℕ) (l : List ℕ) (a : answer (seen (after idle ks)) (new_beam s l) ≡ gives accepted) where
  abbrev later : Plain
  later = after idle (ks ++ new_beam s l ∷ [])

  -- the serving channel and those of the list are under watch then
  under_then : (c : ℕ) → 0 < times_in c (s ∷ l) → Watched later c
  under_then c h =
      let t = beam_taken ks s l (no_row_fits (after idle ks) s l a) in
      by_case (eqb s c)
      (λ z. inl (t.serving ∙ ap {B = Option ℕ} some (eqb-true s c z)))
      (λ z. inr ((t.neighbours c).1 (rw z at h)))

  -- the one that serves now
  served : (o : Option ℕ) → ¬ (o ≡ none) → (c : ℕ) × (o ≡ some c)
  served none n = absurd (n refl)
  served (some c) n = (c, refl)

  all_stay_lem : ((c : ℕ) → Watched (after idle ks) c → 0 < times_in c (s ∷ l)) → (c : ℕ) → later.levels c ≡ (after idle ks).levels c
  all_stay_lem none_dropped c =
      let p : Plain = after idle ks in
      let t = beam_taken ks s l (no_row_fits p s l a) in
      let o = served p.serving (runs p s l a) in
      by_case (under_watch p c)
      (λ u. (let w = watched_yes p c u in t.kept c w (under_then c (none_dropped c w))))
      (λ u.
      let n : ¬ (Watched p c) = λ w. clash (yes_watched p c w) u in
      t.others c n ∙ sym (bare (linked ks).held p (linked ks).kept o.0 o.1 c n))

-- ---- serving channel and neighbours as they were

same_test : {a b : Bool} → (a ≡ true) ↔ (b ≡ true) → a ≡ b
same_test {a} {b} f = by_case a (λ x. x ∙ sym (f.0 x)) (λ x. by_case b (λ y. f.1 y ∙ sym y) (λ y. x ∙ sym y))

-- all that is compared of the plain watch goes by what it shows
abbrev shown_as : View → Compared
shown_as v =
    record {
      depth = v.depth;
      serving = v.serving;
      neighbour = v.neighbour;
      levels = v.levels;
      count = λ c. length (v.levels c);
      mean = λ c. mean (v.levels c);
      part = λ h c. record { full = full v.depth (v.levels c); counts = counts v h c; moved_to = is (target v h) c };
    }

module _ (rs : List Row) (p : Plain) (k : Step rs p) (s : ℕ) (l : List ℕ) (serving : p.serving ≡ some s)
    (same : (c : ℕ) → (p.neighbour c ≡ true) ↔ (0 < times_in c l)) where
  neighbours : (c : ℕ) → mem c l ≡ p.neighbour c
  neighbours c = same_test ((λ e. (same c).1 (mem_times c l e)), (λ e. times_mem c l ((same c).0 e)))

  under : (c : ℕ) → (eqb s c || mem c l) ≡ under_watch p c
  under c = ap₂ (λ (o : Option ℕ) (b : Bool). is o c || b) (sym serving) (neighbours c)

  levels_same : (c : ℕ) → last_n p.depth ((after_new_beam p s l).levels c) ≡ last_n p.depth (p.levels c)
  levels_same c =
      ap (λ (b : Bool). last_n p.depth (cond (under_watch p c && b) (p.levels c) [])) (under c)
      ∙ by_case (under_watch p c)
      (λ u. rw u)
      (λ u. rw u (last_none p.depth ∙ sym (unwatched_bare rs p c k u)))

  shown-same : (o : Told Unit) → seen (unless_refused o p (after_new_beam p s l)) ≡ seen p
  shown-same (refused n) = refl
  shown-same (gives u) = view_path refl (sym serving) neighbours levels_same

pub beam_rule : BeamRule
beam_rule =
    record {
      answered = λ ks s l. (
        (λ e.
            let p : Plain = after idle ks in
            let a : answer (seen p) (new_beam s l) ≡ gives accepted = sym (answered_next ks (new_beam s l)) ∙ e in
            (ranged p s l a, sound p s l a (list_kind s l), runs p s l a)),
        (λ h. accepted_rule.beams ks s l (λ n row. none_fits h.0 h.1 h.2 row)),
      );
      as_list = λ ks s l e a. replaces ks s l e (sym (answered_next ks (new_beam s l)) ∙ a);
      as_move = λ ks s c l m e.
          let p : Plain = after idle ks in
          let w = was_serving s c l m ks e in
          let fits : Accepted p (new_beam c (l ++ s ∷ m)) =
          λ n row. none_fits (move_ranged s c l m ks e) (not_faulty s c l m ks e) (λ z. some-ne-none s (sym w ∙ z)) row in
          record {
            answered = accepted_rule.beams ks c (l ++ s ∷ m) fits;
            roles =
                roles_changed s c l m ks e (after idle (ks ++ new_beam c (l ++ s ∷ m) ∷ [])) (beam_taken ks c (l ++ s ∷ m) fits)
                (bare (linked ks).held p (linked ks).kept s w);
          };
      all_stay = λ ks s l a. all_stay_lem ks s l (sym (answered_next ks (new_beam s l)) ∙ a);
      again = λ ks s l e same.
          let p : Plain = after idle ks in
          let k = linked ks in
          alike_both (alike_linked (linked_next (new_beam s l) k))
          (subst (λ (x : Compared). Alike (of_record (after_from fresh ks)) x)
          (ap shown_as (sym (shown-same k.held p k.kept s l e same (allowed (seen p) (new_beam s l)))))
          (alike_linked k));
    }
