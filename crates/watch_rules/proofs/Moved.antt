-- A move by a new beam: the neighbour c serves, and the old serving channel s stands in its place in the list. With c before it, this list has
-- each channel as often as the watch had it; so it has no fault, and every channel under watch stays so.
use Prim.Native.Nat.{ℕ, suc, ◌+◌, ◌≤◌, ◌<◌}
use mathlib.Core.Path.{◌≡◌, sym, ap, ◌∙◌, subst}
use mathlib.Core.Logic.{◌⊎◌, inl, inr}
use mathlib.Core.Bool.{true}
use mathlib.Core.List.{List, [], ◌∷◌, ◌++◌}
use mathlib.Core.Option.{Option, some}
use native.Mathlib.Omega.{arith}
use lib.Dec.{eqb}
use lib.ListN.{length, drop, get_or, length-append, length-map}
use borrow.Author.Tests.{eqb-true, eqb-false, ne_eqb}
use Rattle.watch_rules.specs.Lists.{mem, times_in}
use Rattle.watch_rules.specs.Told.{Call}
use Rattle.watch_rules.specs.Rules.{View}
use Rattle.watch_rules.specs.Plain.{Plain, idle, under_watch, after}
use Rattle.watch_rules.specs.Rows.{Row, channels, first, rest}
use Rattle.watch_rules.specs.Record.{rows, fresh, after_from}
use Rattle.watch_rules.specs.Refusals.{Watched, Faulty, too_long, above, repeated, serving_in}
use Rattle.watch_rules.specs.PlainSteps.{BeamTaken}
use Rattle.watch_rules.specs.Claims.{Follows, RolesChanged}
use Rattle.watch_rules.proofs.Laws.{by_case, clash, drop_none}
use Rattle.watch_rules.proofs.Words.{mem_times, times_mem, times_first, times_joined_lem}
use Rattle.watch_rules.proofs.Faults.{one_at}
use Rattle.watch_rules.proofs.Refusals.{watched_yes, yes_watched}
use Rattle.watch_rules.proofs.Demand3.{linked, shows}
use Rattle.watch_rules.proofs.Follows.{it_follows}

-- ---- rows whose channels are known

first-is : (rs : List Row) (s : ℕ) (l : List ℕ) → channels rs ≡ s ∷ l → first rs ≡ some s
first-is [] s l e = absurd (omega (arith, ap length e))
first-is (r ∷ rs) s l e = ap {B = Option ℕ} some (ap (λ (xs : List ℕ). get_or xs 0 0) e)

rest-is : (rs : List Row) (s : ℕ) (l : List ℕ) → channels rs ≡ s ∷ l → channels (rest rs) ≡ l
rest-is [] s l e = absurd (omega (arith, ap length e))
rest-is (r ∷ rs) s l e = sym (drop_none (channels rs)) ∙ ap (drop 1) e ∙ drop_none l

-- ---- s in the place of c

module _ (s c : ℕ) (l m : List ℕ) where
  abbrev pub replaced : List ℕ
  replaced = l ++ s ∷ m

  -- how often a channel is there: the two change their places only
  both_ways : (d : ℕ) → times_in d (s ∷ []) + times_in d (l ++ c ∷ m) ≡ times_in d (c ∷ []) + times_in d replaced
  both_ways d = omega (arith, times_joined_lem d l (c ∷ m), times_joined_lem d (c ∷ []) m, times_joined_lem d l (s ∷ m), times_joined_lem d (s ∷ []) m)

  serving_there : 0 < times_in s replaced
  serving_there = omega (arith, times_joined_lem s l (s ∷ m), times_first s m)

  module _ (ks : List Call) (e : channels (rows (after_from fresh ks)) ≡ s ∷ (l ++ c ∷ m)) where
    abbrev p : Plain
    p = after idle ks

    pub was_serving : p.serving ≡ some s
    was_serving = sym (ap (λ (v : View). v.serving) (shows (linked ks))) ∙ first-is (rows (after_from fresh ks)) s (l ++ c ∷ m) e

    was_neighbour : (d : ℕ) → p.neighbour d ≡ mem d (l ++ c ∷ m)
    was_neighbour d =
        sym (ap (λ (v : View). v.neighbour d) (shows (linked ks))) ∙ ap (mem d) (rest-is (rows (after_from fresh ks)) s (l ++ c ∷ m) e)

    -- the channels under watch, in all
    in_all : (d : ℕ) → times_in d (channels (rows (after_from fresh ks))) ≡ times_in d (c ∷ []) + times_in d replaced
    in_all d = ap (times_in d) e ∙ times_joined_lem d (s ∷ []) (l ++ c ∷ m) ∙ both_ways d

    known : Follows (after_from fresh ks)
    known = it_follows ks

    pub move_ranged : c ≤ 1087
    move_ranged = known.in_range c (omega (arith, in_all c, times_first c []))

    pub not_faulty : ¬ (Faulty c replaced)
    not_faulty (too_long h) =
        let n : length (rows (after_from fresh ks)) ≡ suc (length (l ++ c ∷ m)) =
        sym (length-map (rows (after_from fresh ks)) (λ (r : Row). r.channel)) ∙ ap length e in
        omega (arith, h, n, known.few, length-append l (c ∷ m), length-append l (s ∷ m))
    not_faulty (above d t h) = let k = known.in_range d (omega (arith, in_all d, t)) in omega arith
    not_faulty (repeated d t) = omega (arith, t, in_all d, known.differ d)
    not_faulty (serving_in t) = omega (arith, t, in_all c, known.differ c, times_first c [])

    -- ---- the roles

    module _ (q : Plain) (taken : BeamTaken p c replaced q) (bare : (d : ℕ) → ¬ (Watched p d) → p.levels d ≡ []) where
      listed : (d : ℕ) → 0 < times_in d replaced → (p.serving ≡ some d) ⊎ ((p.neighbour d ≡ true) × (¬ (d ≡ c)))
      listed d h =
          by_case (eqb s d)
          (λ z. inl (was_serving ∙ ap {B = Option ℕ} some (eqb-true s d z)))
          (λ z.
          let none : times_in d (s ∷ []) ≡ 0 = rw z in
          inr (
            was_neighbour d ∙ times_mem d (l ++ c ∷ m) (omega (arith, h, none, both_ways d)),
            (λ x. not_faulty (serving_in (subst (λ (y : ℕ). 0 < times_in y replaced) x h))),
          ))

      in_list : (d : ℕ) → (p.serving ≡ some d) ⊎ ((p.neighbour d ≡ true) × (¬ (d ≡ c))) → 0 < times_in d replaced
      in_list d (inl x) = subst (λ (y : ℕ). 0 < times_in y replaced) (one_at (sym was_serving ∙ x)) serving_there
      in_list d (inr x) =
          let none : times_in d (c ∷ []) ≡ 0 = rw (ne_eqb c d (λ z. x.1 (sym z))) in
          omega (arith, none, both_ways d, mem_times d (l ++ c ∷ m) (sym (was_neighbour d) ∙ x.0))

      stays : (d : ℕ) → Watched p d → Watched q d
      stays d (inl x) = inr ((taken.neighbours d).1 (in_list d (inl x)))
      stays d (inr x) =
          by_case (eqb d c)
          (λ z. inl (taken.serving ∙ ap {B = Option ℕ} some (sym (eqb-true d c z))))
          (λ z. inr ((taken.neighbours d).1 (in_list d (inr (x, eqb-false d c z)))))

      pub roles_changed : RolesChanged p c q
      roles_changed =
          record {
            depth = taken.depth;
            serving = taken.serving;
            neighbours = λ d. ((λ x. listed d ((taken.neighbours d).0 x)), (λ x. (taken.neighbours d).1 (in_list d x)));
            levels =
                λ d.
                by_case (under_watch p d)
                (λ u. (let w = watched_yes p d u in taken.kept d w (stays d w)))
                (λ u. (let n : ¬ (Watched p d) = λ w. clash (yes_watched p d w) u in taken.others d n ∙ sym (bare d n)));
          }
