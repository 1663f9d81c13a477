-- The keys give the search order. A level in range lies a whole number of hundredths below the top of the range, its depth: a higher level has a
-- lesser depth, and what one level lies below another is the difference of their depths. With the channel, which is below the step, behind it,
-- the order of the keys is that of the two keys of the paper.
use Prim.Native.Nat.{ℕ, zero, suc, ◌+◌, ◌/◌, ◌%◌, ◌≤◌, ◌<◌}
use mathlib.Core.Path.{◌≡◌, refl, sym, ap, ◌∙◌}
use mathlib.Core.Bool.{Bool, true, false}
use mathlib.Core.List.{List, [], ◌∷◌, map}
use mathlib.Core.Logic.{inl, inr, ⊎_elim}
use native.Mathlib.Nat.{not-suc-le-zero}
use native.Mathlib.Omega.{arith}
use lib.ListN.{length}
use lib.IntN.{ℤ, nat_abs, ◌-ℤ◌}
use lib.Signed.{le_z, lt_z}
use lib.Dec.{leb, ltb}
use borrow.Author.Tests.{ne_eqb, leb-true, le-leb, lt-ltb, ltb-true, ltb-false}
use Rattle.readings_rules.specs.Ranges.{level_lowest, level_highest, level_in_range}
use Rattle.sweep_rules.specs.Map.{channels}
use Rattle.sweep_rules.specs.Record.{level_at, well_formed}
use Rattle.sweep_rules.specs.declared.Sweep.{Sweep}
use Rattle.sweep_rules.proofs.Tests.{which, left, right, same_test}
use Rattle.sweep_rules.proofs.Formed.{level_range, well_formed_rule}
use Rattle.choice_rules.specs.Order.{sort_by, comes_before, channels_that, search_order, at_most_below, near_of, near_part}
use Rattle.choice_rules.specs.Choose.{not_read, suitable, outcome_at, margin_lowest, no_beam, chosen_among}
use Rattle.choice_rules.specs.Code.{depth, key_step, key_of, keys_of, passed, All, Apart, Keyed, near_keys, walk_over, walked}
use Rattle.choice_rules.specs.Claims.{Passes}
use Rattle.choice_rules.proofs.Whole.{above, below, le_parts, parts_le, lt_parts, parts_lt, parts_same, sub_parts, sub_size, own_size}
use Rattle.choice_rules.proofs.Lists.{all_map, mem_all, apart_from, begin_map, sort_map}
use Rattle.choice_rules.proofs.Listed.{listed}
use Rattle.choice_rules.proofs.Ranked.{ordered, before_falls, falls_before, near_rule}
use Rattle.choice_rules.proofs.Answers.{is_open, open_cases, closed_above, FirstAt, named_as, chosen_at}

-- ---- depths

pub highest_of : (z : ℤ) → level_in_range z ≡ true → le_z z level_highest ≡ true
highest_of z e = right (le_z level_lowest z) (le_z z level_highest) e

-- the depth by the parts of the level
depth_parts : (z : ℤ) → level_in_range z ≡ true → depth z + below level_highest + above z ≡ above level_highest + below z
depth_parts z e = sub_size level_highest z (highest_of z e)

-- no level lies deeper than the lowest
abbrev pub deepest : ℕ
deepest = depth level_lowest

pub depth_le : (z : ℤ) → level_in_range z ≡ true → depth z ≤ deepest
depth_le z e =
    let low = le_parts level_lowest z (left (le_z level_lowest z) (le_z z level_highest) e) in
    let d = depth_parts z e in
    let l = depth_parts level_lowest refl in
    omega arith

module _ (level : ℕ → ℤ) where
  -- a channel with its level in range
  abbrev pub Ranged : ℕ → Type 0
  Ranged c = (c < channels) × (level_in_range (level c) ≡ true)

  abbrev pub key_at : ℕ → ℕ
  key_at c = key_of (level c) c

  key_channel : (c : ℕ) → Ranged c → key_at c % key_step ≡ c
  key_channel c r = omega (arith, r.0)

  key_depth : (c : ℕ) → Ranged c → key_at c / key_step ≡ depth (level c)
  key_depth c r = omega (arith, r.0)

  -- the lesser key comes before
  pub key_order : (c d : ℕ) → Ranged c → Ranged d → ltb (key_at c) (key_at d) ≡ comes_before level c d
  key_order c d p q =
      let x = depth_parts (level c) p.1 in
      let y = depth_parts (level d) q.1 in
      same_test (ltb (key_at c) (key_at d)) (comes_before level c d)
      (λ e.
      let l = ltb-true (key_at c) (key_at d) e in
      falls_before level c d (⊎_elim
      (λ (t : ltb (depth (level c)) (depth (level d)) ≡ true). let g = ltb-true (depth (level c)) (depth (level d)) t in inl (parts_lt (level d) (level c) (omega arith)))
      (λ (t : ltb (depth (level c)) (depth (level d)) ≡ false).
      let g = ltb-false (depth (level c)) (depth (level d)) t in
      let same : depth (level c) ≡ depth (level d) = omega (arith, p.0, q.0) in
      inr (parts_same (level c) (level d) (omega arith), omega arith))
      (which (ltb (depth (level c)) (depth (level d))))))
      (λ e. lt-ltb (key_at c) (key_at d) (⊎_elim
      (λ (t : lt_z (level d) (level c) ≡ true). let g = lt_parts (level d) (level c) t in let h : depth (level c) < depth (level d) = omega arith in omega (arith, p.0))
      (λ (t : (level c ≡ level d) × (c < d)). let g = ap depth t.0 in omega (arith, t.1))
      (before_falls level c d e)))

  -- near in depth is near in level
  pub key_near : (m : ℤ) → le_z margin_lowest m ≡ true → (c d : ℕ) → Ranged c → Ranged d
      → leb (key_at d / key_step) (key_at c / key_step + nat_abs m) ≡ le_z (level c -ℤ level d) m
  key_near m n c d p q =
      let x = depth_parts (level c) p.1 in
      let y = depth_parts (level d) q.1 in
      let a = key_depth c p in
      let b = key_depth d q in
      let s = sub_parts (level c) (level d) in
      let z = own_size m n in
      same_test (leb (key_at d / key_step) (key_at c / key_step + nat_abs m)) (le_z (level c -ℤ level d) m)
      (λ e. let l = leb-true (key_at d / key_step) (key_at c / key_step + nat_abs m) e in parts_le (level c -ℤ level d) m (omega arith))
      (λ e. let l = le_parts (level c -ℤ level d) m e in le-leb (key_at d / key_step) (key_at c / key_step + nat_abs m) (omega arith))

  -- ---- the walk over the keys is the choice

  -- the images of a list
  of_images : (Q : ℕ → Type 0) (cs : List ℕ) → All (λ c. Q (key_at c)) cs → All Q (map key_at cs)
  of_images Q [] a = tt
  of_images Q (c ∷ cs) a = (a.0, of_images Q cs a.1)

  near_keys_lem : (m : ℤ) → le_z margin_lowest m ≡ true → (cs : List ℕ) → All Ranged cs → near_keys (nat_abs m) (map key_at cs) ≡ map key_at (near_of level m cs)
  unfolding near_keys near_of
  near_keys_lem m n [] a = refl
  near_keys_lem m n (c ∷ cs) a =
      begin_map key_at (λ d. at_most_below m (level c) (level d)) (λ j. leb (j / key_step) (key_at c / key_step + nat_abs m)) (c ∷ cs)
      (all_map (c ∷ cs) (λ d q. key_near m n c d a.0 q) a)

  module _ (o : ℕ → ℕ) where
    -- a closed channel is passed, an open one named
    walk_on : (c : ℕ) (cs : List ℕ) → Ranged c → is_open (o c) ≡ false → (n : ℕ) → walk_over o (map key_at (c ∷ cs)) n ≡ walk_over o (map key_at cs) (suc n)
    unfolding walk_over
    walk_on c cs r z n = let e = key_channel c r in
        let b = closed_above (o c) z in
        rw (e, ne_eqb (o c) not_read (λ q. not-suc-le-zero {n = 0} (omega arith)), ne_eqb (o c) suitable (λ q. not-suc-le-zero {n = 0} (omega arith)))

    walk_stop : (c : ℕ) (cs : List ℕ) → Ranged c → is_open (o c) ≡ true → (n : ℕ) → walk_over o (map key_at (c ∷ cs)) n ≡ named_as o c (suc n)
    unfolding walk_over
    walk_stop c cs r z n = let e = key_channel c r in
        ⊎_elim (λ (q : o c ≡ not_read). rw (e, q)) (λ (q : o c ≡ suitable). rw (e, q)) (open_cases (o c) z)

    walk_closed : (cs : List ℕ) → All Ranged cs → All (λ c. is_open (o c) ≡ false) cs → (n : ℕ) → walk_over o (map key_at cs) n ≡ no_beam (n + length cs)
    unfolding walk_over
    walk_closed [] a z n = ap no_beam (omega arith)
    walk_closed (c ∷ cs) a z n = walk_on c cs a.0 z.0 n ∙ walk_closed cs a.1 z.1 (suc n) ∙ ap no_beam (omega arith)

    walk_first : (cs : List ℕ) → All Ranged cs → (c j : ℕ) → FirstAt o cs c j → (n : ℕ) → walk_over o (map key_at cs) n ≡ named_as o c (n + suc j)
    walk_first [] a c j f n = absurd (not-suc-le-zero f.inside)
    walk_first (d ∷ ds) a c zero f n =
        walk_stop d ds a.0 (ap (λ (x : ℕ). is_open (o x)) f.is ∙ f.opens) n ∙ ap (λ (x : ℕ). named_as o x (suc n)) f.is ∙ ap (named_as o c) (omega arith)
    walk_first (d ∷ ds) a c (suc j) f n =
        let h = f.inside in
        walk_on d ds a.0 (f.closed 0 (omega arith)) n
        ∙ walk_first ds a.1 c j (record { inside = omega arith; is = f.is; opens = f.opens; closed = λ i g. f.closed (suc i) (omega arith) }) (suc n)
        ∙ ap (named_as o c) (omega arith)

-- ---- over a record whose levels are in range

module _ (test : ℕ → Bool) (s : Sweep) (w : well_formed s ≡ true) where
  ranged : (cs : List ℕ) → All (Passes test) cs → All (Ranged (level_at s)) cs
  ranged cs a = all_map cs (λ c p. (p.0, level_range s ((well_formed_rule s).0 w) c p.0)) a

  all_ranged : All (Ranged (level_at s)) (channels_that test)
  all_ranged = ranged (channels_that test) (listed test)

  sorted_keys : sort_by ltb (keys_of (level_at s) (channels_that test)) ≡ map (key_at (level_at s)) (search_order test s)
  unfolding keys_of search_order
  sorted_keys = sort_map (comes_before (level_at s)) ltb (key_at (level_at s)) (Ranged (level_at s)) (λ c d p q. key_order (level_at s) c d p q) (channels_that test) all_ranged

  near_ranged : (m : ℤ) → All (Ranged (level_at s)) (near_part test s m)
  near_ranged m = ranged (near_part test s m) (mem_all (Passes test) (near_part test s m) (λ c i. (((near_rule test s m).exactly c).0 i).0))

  pub walk_chooses : (m : ℤ) (o : List ℕ) → le_z margin_lowest m ≡ true → walked (keys_of (level_at s) (channels_that test)) (nat_abs m) o ≡ chosen_among test s m o
  unfolding walked near_part
  walk_chooses m o n =
      let near = near_part test s m in
      let keys : near_keys (nat_abs m) (sort_by ltb (keys_of (level_at s) (channels_that test))) ≡ map (key_at (level_at s)) near =
      ap (near_keys (nat_abs m)) sorted_keys ∙ near_keys_lem (level_at s) m n (search_order test s) (ranged (search_order test s) (ordered test s)) in
      ap (λ (ks : List ℕ). walk_over (outcome_at o) ks 0) keys
      ∙ ⊎_elim
      (λ (r : (chosen_among test s m o ≡ no_beam (length near)) × All (λ c. is_open (outcome_at o c) ≡ false) near).
      walk_closed (level_at s) (outcome_at o) near (near_ranged m) r.1 0 ∙ ap no_beam (omega arith) ∙ sym r.0)
      (λ (r : (c : ℕ) × (j : ℕ) × (chosen_among test s m o ≡ named_as (outcome_at o) c (suc j)) × FirstAt (outcome_at o) near c j × FirstAt (outcome_at o) (search_order test s) c j).
      walk_first (level_at s) (outcome_at o) near (near_ranged m) r.0 r.1 r.3 0 ∙ ap (named_as (outcome_at o) r.0) (omega arith) ∙ sym r.2)
      (chosen_at test s m o)

  -- ---- what the walk asks of the keys

  apart_keys : (cs : List ℕ) → All (Ranged (level_at s)) cs → Apart cs → Apart (map (key_at (level_at s)) cs)
  apart_keys [] a z = tt
  apart_keys (c ∷ cs) a z = (
    of_images (level_at s) (λ k. key_at (level_at s) c ≡ k → ⊥) cs (differ cs a.1 z.0),
    apart_keys cs a.1 z.1,
  )
    where
      differ : (ds : List ℕ) → All (Ranged (level_at s)) ds → All (λ d. c ≡ d → ⊥) ds → All (λ d. key_at (level_at s) c ≡ key_at (level_at s) d → ⊥) ds
      differ [] r q = tt
      differ (d ∷ ds) r q = (
        λ e. q.0 (sym (key_channel (level_at s) c a.0) ∙ ap (λ (k : ℕ). k % key_step) e ∙ key_channel (level_at s) d r.0),
        differ ds r.1 q.1,
      )

  pub keys_keyed : Keyed (keys_of (level_at s) (channels_that test))
  unfolding keys_of
  keys_keyed = record {
    small = of_images (level_at s) (λ k. (k % key_step < channels) × (k < passed)) (channels_that test) (all_map (channels_that test)
        (λ c r.
        let e = key_channel (level_at s) c r in
        let d = depth_le (level_at s c) r.1 in
        (omega (arith, r.0), omega (arith, r.0)))
        all_ranged);
    apart = apart_keys (channels_that test) all_ranged (apart_from test channels 0);
  }
