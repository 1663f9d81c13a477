-- While the serving channel lacks levels the answer is to wait; otherwise it is what going through the list finds.
use Rattle.std.proofs.Common.{neg_ℤ, ◌≤ℤ◌, ◌≡◌, ◌≤◌, ◌*◌, ◌<◌, ◌^◌, ℕ, ◌∷◌, List, true, map, take, length, refl, sym, ap, ap₂, ◌∙◌, rules, arith, subst}
use Rattle.std.proofs.Math.Nat.{mul-le-mul}
use Rattle.std.specs.Prelude.{Option, None, Err, fold}
use Rattle.std.specs.Option.{ok_or}
use Rattle.std.proofs.lemmas.Result.{err_from_is_err_and}
use Rattle.std.proofs.lemmas.Int.{ints, to_z_pos}
use lib.Dec.{leb}
use lib.IntN.{ℤ, pos, negsuc, ◌+ℤ◌, ◌*ℤ◌}
use lib.Signed.{le_z}
use lib.ListN.{length-map}
use borrow.Author.Tests.{leb-true}
use mir.Syntax.{w32}
use mir.Val.{SFits, to_z, of_z}
use mir.Facts.{to_z-of_z}
use Rattle.refusal.specs.declared.Refusal.{Refusal}
use Rattle.refusal.specs.declared.Refusal.TheVariants.{NotWatched, ParameterOutOfRange}
use Rattle.refusal.specs.Told.{gives, refused_for}
use Rattle.refusal.proofs.Provided.{refuse_now, refuse_later}
use Rattle.watch_rules.specs.declared.Track.{Track}
use Rattle.watch_rules.specs.declared.Watch.{Watch}
use Rattle.watch_rules.specs.Lists.{sum}
use Rattle.watch_rules.specs.Limits.{hysteresis_highest, hysteresis_in_range, capacity}
use Rattle.watch_rules.specs.Told.{Given, verdict}
use Rattle.watch_rules.specs.Rules.{serves, stay_or_move, verdict_of}
use Rattle.watch_rules.specs.Rows.{Row, first, shown}
use Rattle.watch_rules.specs.Record.{rows, view_of, row_of, well_formed, called}
use Rattle.watch_rules.proofs.Laws.{clash, and_right}
use Rattle.watch_rules.proofs.Depth.{depth_within}
use Rattle.watch_rules.proofs.Encode.{read_record}
use Rattle.watch_rules.proofs.Good.{Good}
use Rattle.watch_rules.proofs.Calls.{called_unformed, called_refused, called_granted, formed_depth}
use Rattle.watch_rules.proofs.Verdict.{Ranged, formed_ranged}
use Rattle.watch_record.specs.Code.{back}
use Rattle.watch_record.proofs.Watched.{as_many_lem, serving_none}
use Rattle.watch.specs.declared.Pick.{Pick}
use Rattle.watch.specs.Code.{consider, chosen}
use Rattle.watch.proofs.Search.{verdict_is, verdict_early, scan_tracks}
use Rattle.watch.proofs.judged.Goals as goal

-- what the hysteresis adds to a sum is small, and not below 0
added : (d : ℕ) (h : ℤ) → d ≤ capacity → hysteresis_in_range h ≡ true → (n : ℕ) × (pos d *ℤ h ≡ pos n) × (n ≤ capacity * hysteresis_highest)
added d (pos n) few e = (
  d * n,
  refl,
  mul-le-mul few (leb-true n hysteresis_highest (and_right (le_z (pos 0) (pos n)) (leb n hysteresis_highest) e)),
)
added d (negsuc n) few e = clash e refl

small_sum : (t : ℤ) (n : ℕ) → neg_ℤ (pos (2 ^ 20)) ≤ℤ t → t ≤ℤ pos (2 ^ 20) → n ≤ capacity * hysteresis_highest → SFits w32 (t +ℤ pos n)
small_sum t n low high m = search (rules, ints)

-- the same as the code computes it, in 32 bits
abbrev times : ℕ → ℤ → ℤ
times d h = to_z w32 (of_z w32 (to_z w32 d *ℤ to_z w32 (of_z w32 h)))

module _ (d : ℕ) (h : ℤ) (few : d ≤ capacity) (ranged : hysteresis_in_range h ≡ true) (fits : SFits w32 h) where
  times_is : times d h ≡ pos d *ℤ h
  times_is =
      let n = added d h few ranged in
      let e : to_z w32 d *ℤ to_z w32 (of_z w32 h) ≡ pos n.0 = ap₂ ◌*ℤ◌ (to_z_pos w32 d (omega arith)) (to_z-of_z fits) ∙ n.1 in
      let f : SFits w32 (pos n.0) = record { sfits = omega (arith, n.2) } in
      ap (λ (z : ℤ). to_z w32 (of_z w32 z)) e ∙ to_z-of_z f ∙ sym n.1

  module _ (t : ℤ) (whole : SFits w32 t) (low : neg_ℤ (pos (2 ^ 20)) ≤ℤ t) (high : t ≤ℤ pos (2 ^ 20)) where
    bar_fits : SFits w32 (to_z w32 (of_z w32 t) +ℤ times d h)
    bar_fits =
        let n = added d h few ranged in
        subst (SFits w32) (sym (ap₂ ◌+ℤ◌ (to_z-of_z whole) (times_is ∙ n.1))) (small_sum t n.0 low high n.2)

    bar_is : to_z w32 (of_z w32 (to_z w32 (of_z w32 t) +ℤ times d h)) ≡ t +ℤ pos d *ℤ h
    bar_is = to_z-of_z bar_fits ∙ ap₂ ◌+ℤ◌ (to_z-of_z whole) times_is

-- the watch of a serving track and its list
module _ (w : Watch) (formed : well_formed w ≡ true) (h : ℤ) (ranged : hysteresis_in_range h ≡ true) (s : Track) (l : List Track)
    (both : take w.watched w.tracks ≡ s ∷ l) where
  rows_are : rows w ≡ row_of s ∷ map row_of l
  rows_are = ap (map row_of) both

  granted : (g : Given) → verdict_of (view_of w) h ≡ g → back w (gives g) ≡ called w (verdict h)
  granted g e =
      sym (called_granted w (verdict h) formed
      (refuse_later ParameterOutOfRange ranged (refuse_later NotWatched (ap (λ (rs : List Row). serves (first rs)) rows_are) refl))
      ∙ ap₂ (λ (v : Watch) (a : Given). back v (gives a)) (read_record w formed).back e)

  waits : length (row_of s).levels < w.depth → back w (gives Rattle.watch_rules.specs.Told.wait) ≡ called w (verdict h)
  waits few = granted _ (ap (λ (rs : List Row). verdict_of (shown w.depth rs) h) rows_are ∙ verdict_early w.depth (row_of s) (map row_of l) h few)

  settles : w.depth ≤ length (row_of s).levels → (o : Option Pick)
      → o ≡ fold (λ best track. consider w.depth (sum (row_of s).levels +ℤ pos w.depth *ℤ h) best (row_of track)) None l
      → back w (gives (stay_or_move (chosen o))) ≡ called w (verdict h)
  settles enough o found =
      granted _
      (ap (λ (rs : List Row). verdict_of (shown w.depth rs) h) rows_are
      ∙ verdict_is w.depth (row_of s) (map row_of l) h
      (subst (Good w.depth) rows_are (read_record w formed).good) enough
      (subst (λ (rs : List Row). Ranged (shown w.depth rs)) rows_are (formed_ranged w formed))
      ∙ ap (λ (q : Option Pick). stay_or_move (chosen q)) (sym (found ∙ scan_tracks w.depth _ None l)))

pub returns-in_err-sound : goal.returns-in_err-sound
returns-in_err-sound c =
    let a = c.args in
    let p = err_from_is_err_and c.from_residual.result c.from_residual.ensures.1 in
    rw (p.1, p.2)
    (ap (λ (r : Refusal). back a.w.now (refused_for r)) c.in_err-sound.ensures.cases.0
    ∙ sym (called_unformed a.w.now (verdict a.hysteresis) c.in_err-sound.ensures.cases.1))

pub returns-then-not-contains : goal.returns-then-not-contains
returns-then-not-contains c =
    let a = c.args in
    let test : c.contains.result ≡ hysteresis_in_range a.hysteresis = search rules in
    sym (called_refused a.w.now (verdict a.hysteresis) c.in_ok-sound.ensures.cases.1
    (refuse_now ParameterOutOfRange _ (sym test ∙ c.if-not-contains.true)))

pub returns-in_err-serving : goal.returns-in_err-serving
returns-in_err-serving c =
    let a = c.args in
    let w = a.w.now in
    let formed = c.in_ok-sound.ensures.cases.1 in
    let test : c.contains.result ≡ hysteresis_in_range a.hysteresis = search rules in
    let x = c.in_err-serving.ensures in
    let none : length c.tracks.result.now ≡ 0 = rw x.ok_part at c.split_first.ensures.cases in
    let used = c.tracks.ensures ∙ ap (λ (v : Watch). take v.watched v.tracks) c.in_ok-sound.ensures.cases.0 in
    let idle : w.watched ≡ 0 = sym (as_many_lem w formed) ∙ length-map (take w.watched w.tracks) row_of ∙ ap length (sym used) ∙ none in
    let v : Err c.in_err-serving.field-0.0 ≡ Err NotWatched = x.value ∙ ap (λ o. ok_or o NotWatched) x.ok_part in
    let why : c.in_err-serving.field-0.0 ≡ NotWatched = cc in
    let p = err_from_is_err_and c.from_residual-in_err-serving.result c.from_residual-in_err-serving.ensures.1 in
    rw (p.1, p.2)
    (ap (λ (r : Refusal). back w (refused_for r)) why
    ∙ sym (called_refused w (verdict a.hysteresis) formed
    (refuse_later ParameterOutOfRange (sym test ∙ c.if-not-contains.false) (refuse_now NotWatched _ (serving_none w formed idle)))))

pub returns-then-levels-w : goal.returns-then-levels-w
returns-then-levels-w c =
    let a = c.args in
    let w = a.w.now in
    let formed = c.in_ok-sound.ensures.cases.1 in
    let test : c.contains.result ≡ hysteresis_in_range a.hysteresis = search rules in
    let f = rw c.in_ok-serving.ensures.ok_part at c.split_first.ensures.cases in
    let s = c.in_ok-serving.serving.now in
    let l = c.in_ok-serving.list.now in
    let both : take w.watched w.tracks ≡ s ∷ l =
    sym (c.tracks.ensures ∙ ap (λ (v : Watch). take v.watched v.tracks) c.in_ok-sound.ensures.cases.0) ∙ f.0 in
    let few : length (row_of s).levels < w.depth = subst (λ (m : List ℤ). length m < w.depth) c.levels_of-levels.ensures.kept c.if-levels-w.true in
    waits w formed a.hysteresis (sym test ∙ c.if-not-contains.false) s l both few

pub overflow_add-bar : goal.overflow_add-bar
overflow_add-bar c =
    let a = c.args in
    let w = a.w.now in
    let test : c.contains.result ≡ hysteresis_in_range a.hysteresis = search rules in
    let deep = depth_within w.watched w.depth (formed_depth w c.in_ok-sound.ensures.cases.1) in
    let whole : SFits w32 c.total.result = search rules in
    bar_fits w.depth a.hysteresis deep (sym test ∙ c.if-not-contains.false) c.ranges.hysteresis c.total.result whole c.total.ensures.low c.total.ensures.high

pub returns : goal.returns
returns c =
    let w = c.args.w.now in
    let h = c.args.hysteresis in
    let formed = c.in_ok-sound.ensures.cases.1 in
    let test : c.contains.result ≡ hysteresis_in_range h = search rules in
    let ranged = sym test ∙ c.if-not-contains.false in
    let f = rw c.in_ok-serving.ensures.ok_part at c.split_first.ensures.cases in
    let s = c.in_ok-serving.serving.now in
    let l = c.in_ok-serving.list.now in
    let both : take w.watched w.tracks ≡ s ∷ l =
    sym (c.tracks.ensures ∙ ap (λ (v : Watch). take v.watched v.tracks) c.in_ok-sound.ensures.cases.0) ∙ f.0 in
    let kept = c.levels_of-levels.ensures.kept in
    let enough : w.depth ≤ length (row_of s).levels = subst (λ (m : List ℤ). w.depth ≤ length m) kept c.if-levels-w.false in
    let deep = depth_within w.watched w.depth (formed_depth w formed) in
    let whole : SFits w32 c.total.result = search rules in
    let bar = bar_is w.depth h deep ranged c.ranges.hysteresis c.total.result whole c.total.ensures.low c.total.ensures.high in
    ap (λ (g : Given). back w (gives g)) c.move_or_stay.ensures
    ∙ settles w formed h ranged s l both enough c.best.result
    (c.best.ensures
    ∙ ap (λ (z : ℤ). fold (λ best track. consider w.depth z best (row_of track)) None l)
    (bar ∙ ap (λ (z : ℤ). z +ℤ pos w.depth *ℤ h) (c.total.ensures.value ∙ ap sum kept)))
