-- The verdict's rule in document 01's words. The tests of the rule are those words, decided; the search's result is the strongest that
-- counts, and there is only one.
use Prim.Native.Nat.{ℕ, suc, ◌≤◌, ◌<◌}
use mathlib.Core.Path.{◌≡◌, refl, sym, ap, ◌∙◌, subst}
use mathlib.Core.Logic.{◌↔◌}
use mathlib.Core.Bool.{Bool, true, false, cond, ◌&&◌}
use mathlib.Core.List.{List, [], ◌∷◌}
use mathlib.Core.Option.{Option, none, some}
use native.Mathlib.Omega.{arith}
use lib.IntN.{ℤ, pos, ◌+ℤ◌, ◌*ℤ◌}
use lib.Signed.{◌≤ℤ◌, ◌<ℤ◌}
use lib.ListN.{length}
use borrow.Author.Tests.{eq-eqb, le-leb, lt-leb, leb-true, leb-false}
use Rattle.refusal.specs.declared.Refusal.TheVariants as why
use Rattle.refusal.specs.Told.{Told, gives}
use Rattle.refusal.proofs.Provided.{refuse_later}
use Rattle.watch_rules.specs.declared.Watch.{Watch}
use Rattle.watch_rules.specs.Lists.{every, is, sum}
use Rattle.readings_rules.specs.Channels.{channel_highest, channel_in_range}
use Rattle.watch_rules.specs.Told.{Call, verdict, Given, wait, stay, move_to}
use Rattle.watch_rules.specs.Rules.{View, serves, answer, full, levels_if, serving_levels, exceeds, counts, target, stay_or_move, verdict_of}
use Rattle.watch_rules.specs.Plain.{idle, after}
use Rattle.watch_rules.specs.Rows.{Row, channels, shown}
use Rattle.watch_rules.specs.Record.{rows, view_of, well_formed, fresh, called, after_from}
use Rattle.watch_rules.specs.Claims.{of_record, moves_to, VerdictRule, PartRule}
use Rattle.watch_rules.specs.Claims as claims
use Rattle.watch_rules.proofs.Laws.{by_case, clash, and_left, and_right, and_both}
use Rattle.watch_rules.proofs.Order.{lt_yes, yes_lt, ≤ℤ-antisymm}
use Rattle.watch_rules.proofs.Best.{IsBest, best-is}
use Rattle.watch_rules.proofs.Good.{row_fine}
use Rattle.watch_rules.proofs.Encode.{read_record}
use Rattle.watch_rules.proofs.Calls.{granted_answer}
use Rattle.watch_rules.proofs.Steps.{channels_fine}
use Rattle.watch_rules.proofs.Demand3.{linked, shows, answered_next}
use Rattle.watch_rules.proofs.Reach.{left_formed}
use Rattle.watch_rules.proofs.Answers.{in_range, moved_told}
use Rattle.watch_rules.proofs.Words.{mem_times, every_times, is_some}

-- ---- who counts and who is the strongest, over what a watch shows; `claims` says it where s serves

pub record Counts (v : View) (h : ℤ) (c : ℕ) : Type 0 where
  pub serving : v.depth ≤ length (serving_levels v)
  pub neighbour : v.neighbour c ≡ true
  pub full : v.depth ≤ length (v.levels c)
  pub exceeds : (sum (serving_levels v) +ℤ pos v.depth *ℤ h) <ℤ sum (v.levels c)

pub record Strongest (v : View) (h : ℤ) (c : ℕ) : Type 0 where
  pub counting : Counts v h c
  pub greatest : (d : ℕ) → Counts v h d → sum (v.levels d) ≤ℤ sum (v.levels c)
  pub lowest : (d : ℕ) → Counts v h d → sum (v.levels d) ≡ sum (v.levels c) → c ≤ d

-- ---- the tests

pub full_yes : (d : ℕ) (l : List ℤ) → full d l ≡ true → d ≤ length l
unfolding full
full_yes d l e = leb-true d (length l) e

pub yes_full : (d : ℕ) (l : List ℤ) → d ≤ length l → full d l ≡ true
unfolding full
yes_full d l h = le-leb d (length l) h

pub full_no : (d : ℕ) (l : List ℤ) → full d l ≡ false → length l < d
unfolding full
full_no d l e = leb-false d (length l) e

pub no_full : (d : ℕ) (l : List ℤ) → length l < d → full d l ≡ false
unfolding full
no_full d l h = lt-leb d (length l) h

module _ (v : View) (h : ℤ) (c : ℕ) where
  pub counts_yes : counts v h c ≡ true → Counts v h c
  unfolding counts
  counts_yes e =
      let a : (v.neighbour c && (full v.depth (v.levels c) && exceeds v h c)) ≡ true = and_right (full v.depth (serving_levels v)) _ e in
      let b : (full v.depth (v.levels c) && exceeds v h c) ≡ true = and_right (v.neighbour c) _ a in
      record {
        serving = full_yes v.depth (serving_levels v) (and_left (full v.depth (serving_levels v)) _ e);
        neighbour = and_left (v.neighbour c) _ a;
        full = full_yes v.depth (v.levels c) (and_left (full v.depth (v.levels c)) (exceeds v h c) b);
        exceeds = lt_yes (sum (serving_levels v) +ℤ pos v.depth *ℤ h) (sum (v.levels c)) (and_right (full v.depth (v.levels c)) (exceeds v h c) b);
      }

  pub yes_counts : Counts v h c → counts v h c ≡ true
  unfolding counts
  yes_counts k =
      and_both (yes_full v.depth (serving_levels v) k.serving)
      (and_both k.neighbour (and_both (yes_full v.depth (v.levels c) k.full) (yes_lt k.exceeds)))

-- ---- the one moved to

-- a channel that is a neighbour is in range
abbrev pub Ranged : View → Type 0
Ranged v = (c : ℕ) → v.neighbour c ≡ true → channel_in_range c ≡ true

module _ (v : View) (h : ℤ) (ranged : Ranged v) where
  in_search : (c : ℕ) → Counts v h c → c < suc channel_highest
  in_search c k = let l = leb-true c channel_highest (ranged c k.neighbour) in omega arith

  -- what the search found
  pub Found : Option ℕ → Type 0
  Found none = (c : ℕ) → Counts v h c → ⊥
  Found (some b) = Strongest v h b

  found : (o : Option ℕ) → IsBest (counts v h) (λ c. sum (v.levels c)) (suc channel_highest) o → Found o
  unfolding Found
  found none x = λ c k. clash (yes_counts v h c k) (x c (in_search c k))
  found (some b) x =
      record {
        counting = counts_yes v h b x.passes;
        greatest = λ d k. x.greatest d (in_search d k) (yes_counts v h d k);
        lowest = λ d k e. x.lowest d (in_search d k) (yes_counts v h d k) e;
      }

  pub target_found : Found (target v h)
  unfolding target
  target_found = found (target v h) (best-is (counts v h) (λ c. sum (v.levels c)) (suc channel_highest))

  one_strongest : (b c : ℕ) → Strongest v h b → Strongest v h c → b ≡ c
  one_strongest b c x y =
      let e : sum (v.levels c) ≡ sum (v.levels b) =
      ≤ℤ-antisymm (sum (v.levels c)) (sum (v.levels b)) (x.greatest c y.counting) (y.greatest b x.counting) in
      let p = x.lowest c y.counting e in
      let q = y.lowest b x.counting (sym e) in
      omega arith

  found_some : (o : Option ℕ) (c : ℕ) → Found o → Strongest v h c → o ≡ some c
  unfolding Found
  found_some none c x y = absurd (x c y.counting)
  found_some (some b) c x y = ap {B = Option ℕ} some (one_strongest b c x y)

  found_none : (o : Option ℕ) → Found o → ((c : ℕ) → Counts v h c → ⊥) → o ≡ none
  unfolding Found
  found_none none x y = refl
  found_none (some b) x y = absurd (y b x.counting)

  pub target_some : (c : ℕ) → Strongest v h c → target v h ≡ some c
  target_some c s = found_some (target v h) c target_found s

  pub target_none : ((c : ℕ) → Counts v h c → ⊥) → target v h ≡ none
  target_none n = found_none (target v h) target_found n

  some_target : (c : ℕ) → target v h ≡ some c → Strongest v h c
  unfolding Found
  some_target c e = subst Found e target_found

  none_target : target v h ≡ none → (c : ℕ) → Counts v h c → ⊥
  unfolding Found
  none_target e = subst Found e target_found

-- ---- the verdict

stay_or_move_wait : (o : Option ℕ) → stay_or_move o ≡ wait → ⊥
stay_or_move_wait none e = let z : ◌≡◌ {A = ℕ} 0 1 = cc in omega arith
stay_or_move_wait (some c) e = let z : ◌≡◌ {A = ℕ} 0 1 = cc in omega arith

stay_or_move_stay : (o : Option ℕ) → stay_or_move o ≡ stay → o ≡ none
stay_or_move_stay none e = refl
stay_or_move_stay (some c) e = let z : ◌≡◌ {A = ℕ} 0 1 = cc in absurd (omega arith)

stay_or_move_move : (o : Option ℕ) (c : ℕ) → stay_or_move o ≡ move_to c → o ≡ some c
stay_or_move_move none c e = let z : ◌≡◌ {A = ℕ} 0 1 = cc in absurd (omega arith)
stay_or_move_move (some b) c e = let z : b ≡ c = cc in ap {B = Option ℕ} some z

wait_is_no : (g : Given) → g ≡ wait → (g ≡ stay → ⊥) × ((c : ℕ) → g ≡ move_to c → ⊥)
wait_is_no g e = ((λ q. let z : ◌≡◌ {A = ℕ} 0 1 = cc in omega arith), (λ c q. let z : ◌≡◌ {A = ℕ} 0 1 = cc in omega arith))

module _ (v : View) (h : ℤ) where
  pub verdict_full : full v.depth (serving_levels v) ≡ true → verdict_of v h ≡ stay_or_move (target v h)
  verdict_full e = ap (λ (b : Bool). cond b (stay_or_move (target v h)) wait) e

  pub verdict_waits : full v.depth (serving_levels v) ≡ false → verdict_of v h ≡ wait
  verdict_waits e = ap (λ (b : Bool). cond b (stay_or_move (target v h)) wait) e

-- where a channel serves, its levels are the serving ones: what is said over the one is said over the other
module _ (w : Watch) (s : ℕ) (h : ℤ) (serving : (view_of w).serving ≡ some s) where
  abbrev view : View
  view = view_of w

  own : serving_levels view ≡ view.levels s
  own = ap (levels_if view) serving

  counts_out : {c : ℕ} → Counts view h c → claims.Counts w.depth (of_record w) s h c
  counts_out {c} k =
      record {
        serving = subst (λ (l : List ℤ). w.depth ≤ length l) own k.serving;
        neighbour = k.neighbour;
        full = k.full;
        exceeds = subst (λ (l : List ℤ). (sum l +ℤ pos w.depth *ℤ h) <ℤ sum (view.levels c)) own k.exceeds;
      }

  counts_in : {c : ℕ} → claims.Counts w.depth (of_record w) s h c → Counts view h c
  counts_in {c} k =
      record {
        serving = subst (λ (l : List ℤ). w.depth ≤ length l) (sym own) k.serving;
        neighbour = k.neighbour;
        full = k.full;
        exceeds = subst (λ (l : List ℤ). (sum l +ℤ pos w.depth *ℤ h) <ℤ sum (view.levels c)) (sym own) k.exceeds;
      }

  strongest_out : {c : ℕ} → Strongest view h c → claims.Strongest w.depth (of_record w) s h c
  strongest_out x =
      record {
        counting = counts_out x.counting;
        greatest = λ d k. x.greatest d (counts_in k);
        lowest = λ d k e. x.lowest d (counts_in k) e;
      }

  strongest_in : {c : ℕ} → claims.Strongest w.depth (of_record w) s h c → Strongest view h c
  strongest_in x =
      record {
        counting = counts_in x.counting;
        greatest = λ d k. x.greatest d (counts_out k);
        lowest = λ d k e. x.lowest d (counts_out k) e;
      }

  full_is : (l : List ℤ) → (full w.depth l ≡ true) ↔ (w.depth ≤ length l)
  full_is l = (full_yes w.depth l, yes_full w.depth l)

  waiting_is : (full w.depth (serving_levels view) ≡ false) ↔ (length (view.levels s) < w.depth)
  waiting_is = (
    (λ f. subst (λ (l : List ℤ). length l < w.depth) own (full_no w.depth (serving_levels view) f)),
    (λ n. no_full w.depth (serving_levels view) (subst (λ (l : List ℤ). length l < w.depth) (sym own) n)),
  )

  ready_is : (full w.depth (serving_levels view) ≡ true) ↔ (w.depth ≤ length (view.levels s))
  ready_is = ((λ f. (full_is (view.levels s)).0 (sym (ap (full w.depth) own) ∙ f)), (λ n. ap (full w.depth) own ∙ (full_is (view.levels s)).1 n))

  judged : Ranged view → claims.Judged w.depth (of_record w) s h (gives (verdict_of view h))
  judged ranged =
      record {
        waits = (
          (λ e. by_case (full w.depth (serving_levels view)) (λ f. absurd (stay_or_move_wait (target view h) (sym (verdict_full view h f) ∙ given e)))
              (λ f. waiting_is.0 f)),
          (λ l. ap gives (verdict_waits view h (waiting_is.1 l))),
        );
        stays = (
          (λ e. by_case (full w.depth (serving_levels view))
              (λ f. (
                ready_is.0 f,
                (λ c k. none_target view h ranged (stay_or_move_stay (target view h) (sym (verdict_full view h f) ∙ given e)) c
                    (counts_in k)),
              ))
              (λ f. absurd ((wait_is_no (verdict_of view h) (verdict_waits view h f)).0 (given e)))),
          (λ n. ap gives (verdict_full view h (ready_is.1 n.0) ∙ ap stay_or_move (target_none view h ranged (λ c k. n.1 c (counts_out k))))),
        );
        moves = λ c. (
          (λ e. by_case (full w.depth (serving_levels view))
              (λ f. strongest_out (some_target view h ranged c (stay_or_move_move (target view h) c (sym (verdict_full view h f) ∙ given e))))
              (λ f. absurd ((wait_is_no (verdict_of view h) (verdict_waits view h f)).1 c (given e)))),
          (λ x. ap gives (verdict_full view h (ready_is.1 x.counting.serving) ∙ ap stay_or_move (target_some view h ranged c (strongest_in x)))),
        );
      }
    where
      given : {x y : Given} → ◌≡◌ {A = Told Given} (gives x) (gives y) → x ≡ y
      given e = cc

  takes : Ranged view → (c : ℕ) → moves_to (called w (verdict h)).answer c ≡ is (target view h) c → claims.TakesPart w.depth (of_record w) s h c
  takes ranged c told =
      let none_counts : length (view.levels s) < w.depth → (d : ℕ) → Counts view h d → ⊥ =
      λ l d k. (let x = (counts_out k).serving in omega arith) in
      record {
        full = full_is (view.levels c);
        counts = ((λ e. counts_out (counts_yes view h c e)), (λ k. yes_counts view h c (counts_in k)));
        moved_to = (
          (λ e. strongest_out (some_target view h ranged c (is_some (target view h) c (sym told ∙ e)))),
          (λ x. told ∙ ap (λ (o : Option ℕ). is o c) (target_some view h ranged c (strongest_in x)) ∙ eq-eqb c c refl),
        );
        waiting = λ l. (
          by_case (counts view h c) (λ e. absurd (none_counts l c (counts_yes view h c e))) (λ e. e),
          told ∙ ap (λ (o : Option ℕ). is o c) (target_none view h ranged (none_counts l)),
        );
      }

-- ---- after every sequence of calls

-- the neighbours of good rows are in range, and so are those of a plain watch in step with them
rows_ranged : (d : ℕ) (rs : List Row) → every (row_fine d) rs ≡ true → Ranged (shown d rs)
rows_ranged d [] e c m = clash m refl
rows_ranged d (r ∷ rs) e c m =
    every_times channel_in_range (channels rs) (channels_fine d rs (and_right (row_fine d r) (every (row_fine d) rs) e)) c (mem_times c (channels rs) m)

pub formed_ranged : (w : Watch) → well_formed w ≡ true → Ranged (view_of w)
formed_ranged w f = rows_ranged w.depth (rows w) (read_record w f).good.fine

-- after every sequence of calls: what the record shows, and what it answers
module _ (ks : List Call) where
  abbrev left : Watch
  left = after_from fresh ks

  left_ranged : Ranged (view_of left)
  left_ranged = formed_ranged left (left_formed ks)

  left_serving : (s : ℕ) → (after idle ks).serving ≡ some s → (view_of left).serving ≡ some s
  left_serving s e = ap (λ (v : View). v.serving) (shows (linked ks)) ∙ e

  left_answer : (h : ℤ) → (called left (verdict h)).answer ≡ answer (view_of left) (verdict h)
  left_answer h = answered_next ks (verdict h) ∙ ap (λ (v : View). answer v (verdict h)) (sym (shows (linked ks)))

  -- what holds at the record's depth holds at that of the plain watch
  at_depth : (P : ℕ → Type 0) → P left.depth → P (after idle ks).depth
  at_depth P x = subst P (ap (λ (v : View). v.depth) (shows (linked ks))) x

pub verdict_rule : VerdictRule
verdict_rule ks s h e low high =
    let v : View = view_of (after_from fresh ks) in
    let o : v.serving ≡ some s = left_serving ks s e in
    at_depth ks (λ n. claims.Judged n (of_record (after_from fresh ks)) s h (called (after_from fresh ks) (verdict h)).answer)
    (subst (claims.Judged (after_from fresh ks).depth (of_record (after_from fresh ks)) s h)
    (sym (left_answer ks h
    ∙ granted_answer v (verdict h) (refuse_later why.ParameterOutOfRange (in_range h low high) (refuse_later why.NotWatched (ap serves o) refl))))
    (judged (after_from fresh ks) s h o (left_ranged ks)))

pub part_rule : PartRule
part_rule ks s h e low high c =
    at_depth ks (λ n. claims.TakesPart n (of_record (after_from fresh ks)) s h c)
    (takes (after_from fresh ks) s h (left_serving ks s e) (left_ranged ks) c
    (ap (λ (a : Told Given). moves_to a c) (left_answer ks h)
    ∙ moved_told (view_of (after_from fresh ks)) h c (λ z. clash (ap serves (left_serving ks s e)) z) low high))
