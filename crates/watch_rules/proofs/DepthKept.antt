-- The depth of the record is that of the plain watch, and only a start changes that. Where a channel serves one goes on to serve, so there are
-- rows, and the depth of good rows is in range where there is one; without rows the record is the fresh one.
use Prim.Native.Nat.{ℕ, ◌≤◌}
use mathlib.Core.Path.{◌≡◌, refl, sym, ap, ◌∙◌, subst}
use mathlib.Core.Bool.{true}
use mathlib.Core.List.{List, [], ◌∷◌, ◌++◌}
use mathlib.Core.Option.{none, some-ne-none}
use borrow.Author.Tests.{eqb-true}
use Rattle.refusal.specs.Told.{Told, refused, gives, unless_refused}
use Rattle.readings_rules.specs.Burst.{BurstResult, heard, missed, burst_of}
use Rattle.watch_rules.specs.declared.Watch.{Watch}
use Rattle.watch_rules.specs.Limits.{depth_in_range}
use Rattle.watch_rules.specs.Told.{Call, start, new_beam, file, ask, verdict}
use Rattle.watch_rules.specs.Rules.{View, serves, allowed}
use Rattle.watch_rules.specs.Plain.{Plain, idle, seen, after_file, change, next, after}
use Rattle.watch_rules.specs.Rows.{Row, first, changed_depth}
use Rattle.watch_rules.specs.Record.{record_of, fresh, called, after_from}
use Rattle.watch_rules.specs.Claims.{DepthRule}
use Rattle.watch_rules.proofs.Depth.{depth_low, depth_high}
use Rattle.watch_rules.proofs.Good.{Good}
use Rattle.watch_rules.proofs.Steps.{deep}
use Rattle.watch_rules.proofs.PlainSteps.{plain_rule}
use Rattle.watch_rules.proofs.Sequence.{sequence_rule}
use Rattle.watch_rules.proofs.Demand3.{Linked, linked, depth_changed}

-- ---- the plain watch

-- what holds before a call, and after it where it is accepted, holds after it in any case
by_refusal : (P : Plain → Type 0) (o : Told Unit) (p q : Plain) → P p → P q → P (unless_refused o p q)
by_refusal P (gives u) p q x y = y
by_refusal P (refused n) p q x y = x

keeps : (k : Call) (n : ℕ) → ((c d : ℕ) → ¬ (k ≡ start c d)) → changed_depth n k ≡ n
keeps (start c d) n other = absurd (other c d refl)
keeps (new_beam s l) n other = refl
keeps (file c b) n other = refl
keeps (ask c) n other = refl
keeps (verdict h) n other = refl

depth_next : (p : Plain) (k : Call) → ((c d : ℕ) → ¬ (k ≡ start c d)) → (next p k).depth ≡ p.depth
depth_next p k other =
    by_refusal (λ (q : Plain). q.depth ≡ p.depth) (allowed (seen p) k) p (change p k) refl (sym (depth_changed p k) ∙ keeps k p.depth other)

serving_filed : (p : Plain) (c : ℕ) (t : Told BurstResult) → serves p.serving ≡ true → serves (after_file p c t).serving ≡ true
serving_filed p c (gives (heard x q)) e = e
serving_filed p c (gives missed) e = e
serving_filed p c (refused n) e = e

serving_changed : (p : Plain) (k : Call) → serves p.serving ≡ true → serves (change p k).serving ≡ true
serving_changed p (start c d) e = refl
serving_changed p (new_beam s l) e = refl
serving_changed p (file c b) e = serving_filed p c (burst_of b) e
serving_changed p (ask c) e = e
serving_changed p (verdict h) e = e

serving_after : (p : Plain) (js : List Call) → serves p.serving ≡ true → serves (after p js).serving ≡ true
serving_after p [] e = e
serving_after p (k ∷ js) e =
    serving_after (next p k) js
    (by_refusal (λ (q : Plain). serves q.serving ≡ true) (allowed (seen p) k) p (change p k) e (serving_changed p k e))

after-append : (p : Plain) (ks js : List Call) → after p (ks ++ js) ≡ after (after p ks) js
after-append p [] js = refl
after-append p (k ∷ ks) js = after-append (next p k) ks js

-- ---- the record

depth_of : {w : Watch} {p : Plain} → Linked w p → w.depth ≡ p.depth
depth_of l = ap (λ (w : Watch). w.depth) l.made

-- without rows the depth is 0
none_fresh : (d : ℕ) (rs : List Row) → Good d rs → first rs ≡ none → record_of d rs ≡ fresh
none_fresh d [] g e = ap (λ (n : ℕ). record_of n []) (eqb-true d 0 g.depth)
none_fresh d (r ∷ rs) g e = absurd (some-ne-none r.channel e)

in_range_while : {w : Watch} {p : Plain} → Linked w p → serves p.serving ≡ true → (5 ≤ w.depth) × (w.depth ≤ 31)
in_range_while {p = p} l e =
    let d : depth_in_range p.depth ≡ true = deep p.depth l.held l.kept.good (ap (λ (v : View). serves v.serving) l.kept.same ∙ e) in
    subst (λ (n : ℕ). (5 ≤ n) × (n ≤ 31)) (sym (depth_of l)) (depth_low p.depth d, depth_high p.depth d)

-- the depth of the record after one call more is that of the plain watch
depth_more : (ks : List Call) (k : Call) → (called (after_from fresh ks) k).watch.depth ≡ (next (after idle ks) k).depth
depth_more ks k =
    ap (λ (w : Watch). w.depth) (sym (sequence_rule.in_turn ks k).watch)
    ∙ depth_of (linked (ks ++ k ∷ []))
    ∙ ap (λ (p : Plain). p.depth) (sequence_rule.in_turn ks k).plain

pub depth_rule : DepthRule
depth_rule =
    record {
      given = λ ks c d a. depth_more ks (start c d) ∙ ((plain_rule.steps (after idle ks)).starts c d a).depth;
      stays = λ ks k other. depth_more ks k ∙ depth_next (after idle ks) k other ∙ sym (depth_of (linked ks));
      ever =
          λ ks js s e.
          in_range_while (linked (ks ++ js))
          (ap (λ (p : Plain). serves p.serving) (after-append idle ks js) ∙ serving_after (after idle ks) js (ap serves e));
      before =
          λ ks e.
          let l = linked ks in
          l.made ∙ none_fresh (after idle ks).depth l.held l.kept.good (ap (λ (v : View). v.serving) l.kept.same ∙ e);
      begins = refl;
    }
