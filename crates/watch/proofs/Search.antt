-- The verdict: going through the list in its order finds the neighbour that the rule names. What is found so far is the best of those gone
-- through, by sum and then by channel; at the end that is the strongest that counts.
use Prim.Native.Nat.{ℕ, zero, suc, ◌≤◌, ◌<◌}
use mathlib.Core.Path.{◌≡◌, refl, sym, ap, ◌∙◌, subst, fun_ext}
use mathlib.Core.Bool.{Bool, true, false, cond, ◌||◌, or-true, or-false}
use mathlib.Core.List.{List, [], ◌∷◌, map}
use native.Mathlib.Omega.{arith}
use lib.Dec.{eqb, leb}
use lib.IntN.{ℤ, pos, ◌+ℤ◌, ◌*ℤ◌}
use lib.Signed.{lt_z, le_z, ◌≤ℤ◌, ◌<ℤ◌}
use lib.ListN.{length, take, get_or}
use borrow.Author.Tests.{eqb-true, eq-eqb, le-leb, leb-true, leb-false}
use Rattle.std.proofs.lemmas.Int.{ints}
use Rattle.std.specs.Prelude.{Option, Some, None, fold}
use Rattle.watch_rules.specs.declared.Track.{Track}
use Rattle.watch_rules.specs.declared.Watch.{Watch}
use Rattle.watch_rules.specs.Lists.{mem, sum}
use Rattle.watch_rules.specs.Told.{wait}
use Rattle.watch_rules.specs.Rules.{View, serving_levels, target, stay_or_move, verdict_of}
use Rattle.watch_rules.specs.Rows.{Row, row, channels, levels_of, shown}
use Rattle.watch_rules.specs.Record.{view_of, row_of, tracks_fine, track_fine, well_formed}
use Rattle.watch_rules.proofs.Laws.{by_case, clash, and_left, and_right, and_both, or_true_right}
use Rattle.watch_rules.proofs.Good.{Good}
use Rattle.watch_rules.proofs.Encode.{track_levels}
use Rattle.watch_rules.proofs.Calls.{formed_tracks, fine_at}
use Rattle.watch_rules.proofs.Own.{Own, own_rest}
use Rattle.watch_rules.proofs.Order.{lt_yes, lt_no, yes_lt, le_yes}
use Rattle.watch_rules.proofs.Verdict.{Counts, Strongest, Ranged, target_some, target_none, yes_full, no_full, verdict_full, verdict_waits}
use Rattle.watch_record.specs.Code.{nothing}
use Rattle.watch.specs.declared.Pick.{Pick}
use Rattle.watch.specs.Code.{able, better_of, better_with, consider, scan, chosen}

-- ---- the best of those gone through: `cand` says who counts, `g` is the sum

abbrev pick : (ℕ → ℤ) → ℕ → Pick
pick g c = record { channel = c; sum = g c }

module _ (cand : ℕ → Bool) (g : ℕ → ℤ) where
  record Found (P : ℕ → Bool) (p : Pick) : Type 0 where
    seen : P p.channel ≡ true
    counts : cand p.channel ≡ true
    summed : p.sum ≡ g p.channel
    greatest : (c : ℕ) → P c ≡ true → cand c ≡ true → g c ≤ℤ g p.channel
    lowest : (c : ℕ) → P c ≡ true → cand c ≡ true → g c ≡ g p.channel → p.channel ≤ c

  BestIn : (ℕ → Bool) → Option Pick → Type 0
  BestIn P None = (c : ℕ) → P c ≡ true → cand c ≡ false
  BestIn P (Some p) = Found P p

  abbrev with_one : ℕ → (ℕ → Bool) → ℕ → Bool
  with_one c P d = eqb c d || P d

  older : (c d : ℕ) (P : ℕ → Bool) → with_one c P d ≡ true → eqb c d ≡ false → P d ≡ true
  older c d P m e = or_true_right (eqb c d) (P d) m e

  -- the new one is taken
  taken : (P : ℕ → Bool) (c : ℕ) → cand c ≡ true → ((d : ℕ) → P d ≡ true → cand d ≡ true → g d ≤ℤ g c)
      → ((d : ℕ) → P d ≡ true → cand d ≡ true → g d ≡ g c → c ≤ d) → Found (with_one c P) (pick g c)
  taken P c a b l =
      record {
        seen = ap (λ (x : Bool). x || P c) (eq-eqb c c refl);
        counts = a;
        summed = refl;
        greatest = λ d m k. by_case (eqb c d)
            (λ e. subst (λ (z : ℤ). z ≤ℤ g c) (ap g (eqb-true c d e)) (same_sum (g c)))
            (λ e. b d (older c d P m e) k);
        lowest = λ d m k q. by_case (eqb c d)
            (λ e. let w : c ≡ d = eqb-true c d e in omega arith)
            (λ e. l d (older c d P m e) k q);
      }
    where
      same_sum : (z : ℤ) → z ≤ℤ z
      same_sum z = omega (arith, ints)

  -- the old one stays
  stays : (P : ℕ → Bool) (p : Pick) (c : ℕ) → Found P p → (cand c ≡ true → g c ≤ℤ g p.channel)
      → (cand c ≡ true → g c ≡ g p.channel → p.channel ≤ c) → Found (with_one c P) p
  stays P p c f b l =
      record {
        seen = ap (λ (x : Bool). eqb c p.channel || x) f.seen ∙ or-true (eqb c p.channel);
        counts = f.counts;
        summed = f.summed;
        greatest = λ d m k. by_case (eqb c d)
            (λ e. subst (λ (z : ℤ). z ≤ℤ g p.channel) (ap g (eqb-true c d e)) (b (ap cand (eqb-true c d e) ∙ k)))
            (λ e. f.greatest d (older c d P m e) k);
        lowest = λ d m k q. by_case (eqb c d)
            (λ e. let w : c ≡ d = eqb-true c d e in let u = l (ap cand w ∙ k) (ap g w ∙ q) in omega arith)
            (λ e. f.lowest d (older c d P m e) k q);
      }

  -- one more that counts
  better_best : (P : ℕ → Bool) (p : Pick) (c : ℕ) → cand c ≡ true → Found P p → Found (with_one c P) (better_of p (pick g c))
  better_best P p c a f =
      let top = f.summed in
      by_case (lt_z (g c) p.sum)
      (λ e. let u : g c <ℤ p.sum = lt_yes (g c) p.sum e in
      rw e (stays P p c f (λ k. omega (arith, ints)) (λ k z. absurd (omega (arith, ints)))))
      (λ e. let u : p.sum ≤ℤ g c = lt_no (g c) p.sum e in
      by_case (le_z (g c) p.sum)
      (λ i. let v : g c ≤ℤ p.sum = le_yes (g c) p.sum i in
      by_case (leb p.channel c)
      (λ j. rw (e, i, j) (stays P p c f (λ k. omega (arith, ints)) (λ k z. leb-true p.channel c j)))
      (λ j. rw (e, i, j) (taken P c a (λ d m k. let b = f.greatest d m k in omega (arith, ints))
      (λ d m k z. let y : g d ≡ g p.channel = omega (arith, ints) in omega (arith, f.lowest d m k y, leb-false p.channel c j)))))
      (λ i. let v : p.sum <ℤ g c = grind (arith, ints) in
      rw (e, i) (taken P c a (λ d m k. let b = f.greatest d m k in omega (arith, ints))
      (λ d m k z. let b = f.greatest d m k in absurd (omega (arith, ints))))))

  with_best : (P : ℕ → Bool) (o : Option Pick) (c : ℕ) → cand c ≡ true → BestIn P o → Found (with_one c P) (better_with o (pick g c))
  unfolding BestIn
  with_best P None c a x = taken P c a (λ d m k. clash k (x d m)) (λ d m k z. clash k (x d m))
  with_best P (Some p) c a f = better_best P p c a f

  -- one more that does not
  same_best : (P : ℕ → Bool) (o : Option Pick) (c : ℕ) → cand c ≡ false → BestIn P o → BestIn (with_one c P) o
  unfolding BestIn
  same_best P None c a x = λ d m. by_case (eqb c d) (λ e. ap cand (sym (eqb-true c d e)) ∙ a) (λ e. x d (older c d P m e))
  same_best P (Some p) c a f = stays P p c f (λ k. clash k a) (λ k z. clash k a)

  consider_c : Option Pick → ℕ → Option Pick
  consider_c o c = cond (cand c) (Some (better_with o (pick g c))) o

  consider_best : (P : ℕ → Bool) (o : Option Pick) (c : ℕ) → BestIn P o → BestIn (with_one c P) (consider_c o c)
  unfolding consider_c BestIn
  consider_best P o c x = by_case (cand c) (λ a. rw a (with_best P o c a x)) (λ a. rw a (same_best P o c a x))

-- ---- the rows of a watch

swap_or : (a b q : Bool) → (a || (b || q)) ≡ ((b || a) || q)
swap_or true true q = refl
swap_or true false q = refl
swap_or false true q = refl
swap_or false false q = refl

module _ (depth : ℕ) (r : Row) (rs : List Row) (h : ℤ) (good : Good depth (r ∷ rs)) (served : depth ≤ length r.levels) where
  abbrev view : View
  view = shown depth (r ∷ rs)

  -- what a sum has to exceed
  abbrev bar : ℤ
  bar = sum r.levels +ℤ pos depth *ℤ h

  abbrev sum_of : ℕ → ℤ
  sum_of c = sum (levels_of c (r ∷ rs))

  abbrev cand : ℕ → Bool
  cand c = able depth bar (levels_of c (r ∷ rs))

  first_levels : levels_of r.channel (r ∷ rs) ≡ r.levels
  first_levels = rw (eq-eqb r.channel r.channel refl)

  -- who counts, by the code's test
  counting : (c : ℕ) → mem c (channels rs) ≡ true → cand c ≡ true → Counts view h c
  counting c n a =
      record {
        serving = subst (λ (l : List ℤ). depth ≤ length l) (sym first_levels) served;
        neighbour = n;
        full = leb-true depth (length (levels_of c (r ∷ rs))) (and_left (leb depth (length (levels_of c (r ∷ rs)))) (lt_z bar (sum_of c)) a);
        exceeds = subst (λ (l : List ℤ). (sum l +ℤ pos depth *ℤ h) <ℤ sum_of c) (sym first_levels)
            (lt_yes bar (sum_of c) (and_right (leb depth (length (levels_of c (r ∷ rs)))) (lt_z bar (sum_of c)) a));
      }

  counted : (c : ℕ) → Counts view h c → cand c ≡ true
  counted c k =
      and_both (le-leb depth (length (levels_of c (r ∷ rs))) k.full)
      (ap (λ (l : List ℤ). lt_z (sum l +ℤ pos depth *ℤ h) (sum_of c)) (sym first_levels) ∙ yes_lt k.exceeds)

  -- going through rows
  consider_is : (o : Option Pick) (q : Row) → q.levels ≡ levels_of q.channel (r ∷ rs) → consider depth bar o q ≡ consider_c cand sum_of o q.channel
  unfolding consider_c
  consider_is o q e = ap (λ (l : List ℤ). consider depth bar o (row q.channel l)) e

  scan_best : (qs : List Row) (P : ℕ → Bool) (o : Option Pick) → Own (r ∷ rs) qs → BestIn cand sum_of P o
      → BestIn cand sum_of (λ d. mem d (channels qs) || P d) (scan depth bar o qs)
  unfolding Own
  scan_best [] P o w x = x
  scan_best (q ∷ qs) P o w x =
      subst (λ (Q : ℕ → Bool). BestIn cand sum_of Q (scan depth bar (consider depth bar o q) qs))
      (fun_ext (λ d. swap_or (mem d (channels qs)) (eqb q.channel d) (P d)))
      (scan_best qs (with_one cand sum_of q.channel P) (consider depth bar o q) w.1
      (subst (BestIn cand sum_of (with_one cand sum_of q.channel P)) (sym (consider_is o q w.0)) (consider_best cand sum_of P o q.channel x)))

  strongest : (p : Pick) → Found cand sum_of (λ d. mem d (channels rs) || false) p → Strongest view h p.channel
  strongest p f =
      record {
        counting = counting p.channel (sym (or-false (mem p.channel (channels rs))) ∙ f.seen) f.counts;
        greatest = λ d k. f.greatest d (or-false (mem d (channels rs)) ∙ k.neighbour) (counted d k);
        lowest = λ d k e. f.lowest d (or-false (mem d (channels rs)) ∙ k.neighbour) (counted d k) e;
      }

  target_of : Ranged view → (o : Option Pick) → BestIn cand sum_of (λ d. mem d (channels rs) || false) o → target view h ≡ chosen o
  unfolding BestIn
  target_of ranged None x = target_none view h ranged (λ c k. clash (counted c k) (x c (or-false (mem c (channels rs)) ∙ k.neighbour)))
  target_of ranged (Some p) f = target_some view h ranged p.channel (strongest p f)

  pub verdict_is : Ranged view → verdict_of view h ≡ stay_or_move (chosen (scan depth bar None rs))
  unfolding BestIn
  verdict_is ranged =
      verdict_full view h (yes_full depth (serving_levels view) (subst (λ (l : List ℤ). depth ≤ length l) (sym first_levels) served))
      ∙ ap stay_or_move (target_of ranged (scan depth bar None rs)
      (scan_best rs (λ d. false) None (own_rest r rs good.apart) (λ c n. clash n refl)))

pub verdict_early : (depth : ℕ) (r : Row) (rs : List Row) (h : ℤ) → length r.levels < depth → verdict_of (shown depth (r ∷ rs)) h ≡ wait
verdict_early depth r rs h few =
    let e : levels_of r.channel (r ∷ rs) ≡ r.levels = rw (eq-eqb r.channel r.channel refl) in
    verdict_waits (shown depth (r ∷ rs)) h (no_full depth (serving_levels (shown depth (r ∷ rs))) (subst (λ (l : List ℤ). length l < depth) (sym e) few))

-- the code goes through tracks
pub scan_tracks : (depth : ℕ) (b : ℤ) (o : Option Pick) (ts : List Track)
    → fold (λ best track. consider depth b best (row_of track)) o ts ≡ scan depth b o (map row_of ts)
scan_tracks depth b o [] = refl
scan_tracks depth b o (t ∷ ts) = scan_tracks depth b (consider depth b o (row_of t)) ts

-- ---- of a watch

early_tracks : (depth n : ℕ) (ts : List Track) (h : ℤ) → tracks_fine depth n ts ≡ true → (n ≡ 0 → ⊥) → length (row_of (get_or ts 0 nothing)).levels < depth
    → verdict_of (shown depth (map row_of (take n ts))) h ≡ wait
early_tracks depth zero ts h e z few = absurd (z refl)
early_tracks depth (suc n) [] h e z few = clash e refl
early_tracks depth (suc n) (t ∷ ts) h e z few = verdict_early depth (row_of t) (map row_of (take n ts)) h few

module _ (w : Watch) (formed : well_formed w ≡ true) (active : w.watched ≡ 0 → ⊥) where
  abbrev pub server : Track
  server = get_or w.tracks 0 nothing

  pub server_fine : track_fine w.depth server ≡ true
  server_fine = fine_at w.depth w.watched 0 w.tracks nothing (formed_tracks w formed) (omega arith)

  server_count : length (row_of server).levels ≡ server.count
  server_count = (track_levels w.depth server server_fine).counted

  pub watch_waits : (h : ℤ) → server.count < w.depth → verdict_of (view_of w) h ≡ wait
  watch_waits h few = early_tracks w.depth w.watched w.tracks h (formed_tracks w formed) active (omega (arith, server_count))
