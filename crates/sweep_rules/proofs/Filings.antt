-- Every list of filings from a fresh record. A list grows at its end; by the rule of one filing an accepted one is one bit more in each map that it
-- marks, and changes no level but its channel's, so the record shows exactly the accepted filings.
use Rattle.std.specs.Prelude.{Float}
use Prim.Native.Nat.{ℕ, zero, suc, ◌/◌, ◌%◌, ◌≤◌, ◌<◌}
use mathlib.Core.Path.{◌≡◌, refl, sym, ap, ◌∙◌, subst}
use mathlib.Core.Bool.{true, false}
use mathlib.Core.Logic.{◌⊎◌, inl, inr, ⊎_elim, ⊎_map, ◌↔◌}
use mathlib.Core.List.{List, [], ◌∷◌, ◌++◌, map, map-append, append-nil, append_assoc}
use mathlib.Core.List.Memᴰ
use mathlib.Core.List.{Memᴰ}
use native.Mathlib.Omega.{arith}
use lib.ListN.{length, get_or, replicate, length-append, length-replicate}
use lib.IntN.{ℤ, pos}
use Rattle.refusal.specs.Told.{Told, refused, gives}
use Rattle.refusal.proofs.OneToOne.{gives_refused}
use Rattle.readings_rules.specs.declared.Burst.{Burst}
use Rattle.readings_rules.specs.declared.Burst.TheVariants.{Heard, Missed}
use Rattle.readings_rules.specs.declared.Reading.{Reading}
use Rattle.readings_rules.specs.Ranges.{level_low, level_high}
use Rattle.readings_rules.specs.Claims.{LevelInRange}
use Rattle.readings_rules.proofs.Ranges.{range_rule}
use Rattle.readings_rules.specs.Hundredths.{level_of}
use Rattle.readings_rules.proofs.Bursts.{converted_in}
use Rattle.sweep_rules.specs.Map.{channels, bit_at, is_set, set_bits}
use Rattle.sweep_rules.specs.Record.{visited, heard, level_at, fresh_sweep}
use Rattle.sweep_rules.specs.Filing.{filing, leaves}
use Rattle.sweep_rules.specs.Claims.{Typed, WellFormed, Accepts, Filed, Filing, after, accepted_of, heard_of, For, FiledFromFresh}
use Rattle.sweep_rules.specs.declared.Sweep.{Sweep}
use Rattle.sweep_rules.proofs.Tests.{same_or_not, fails, clash, same_test, many_none, many_more, many_same}
use Rattle.sweep_rules.proofs.ReadRecord.{fresh_rule}
use Rattle.sweep_rules.proofs.Levels.{no_bit}
use Rattle.sweep_rules.proofs.Formed.{not_heard, well_formed_rule}
use Rattle.sweep_rules.proofs.Refusals.{to_row, from_row}
use Rattle.sweep_rules.proofs.OneFiling.{Passed, passed, filing_rule}
use Rattle.sweep_rules.proofs.Sequences.{sequence_rule}

zero_in : LevelInRange (pos 0)
zero_in = (range_rule.level (pos 0)).0 refl

-- ---- an accepted filing leaves a well formed record

module _ (s : Sweep) (c : ℕ) (b : Burst Float) (t : Sweep) (P : Passed s c) (F : Filed s c b t) where
  -- by the burst
  heard_more : (x : Burst Float) → b ≡ x → (d : ℕ) → heard t d ≡ true → (heard s d ≡ true) ⊎ (d ≡ c)
  heard_more (Heard r) is d h = (F.hears r is d).0 h
  heard_more Missed is d h = inl (sym (F.misses is d) ∙ h)

  heard_still : (x : Burst Float) → b ≡ x → (d : ℕ) → heard s d ≡ true → heard t d ≡ true
  heard_still (Heard r) is d h = (F.hears r is d).1 (inl h)
  heard_still Missed is d h = F.misses is d ∙ h

  other_level : (x : Burst Float) → b ≡ x → (d : ℕ) → ¬ (d ≡ c) → level_at t d ≡ level_at s d
  other_level (Heard r) is d n = F.level_kept r is d n
  other_level Missed is d n = F.levels_kept is d

  own_level : (x : Burst Float) → b ≡ x → LevelInRange (level_at t c) × (heard t c ≡ false → level_at t c ≡ pos 0)
  own_level (Heard r) is = (
    (range_rule.level (level_at t c)).0 (converted_in level_low level_high r.level (level_at t c) (F.level_stored r is)),
    λ n. absurd (clash ((F.hears r is c).1 (inr refl)) n),
  )
  own_level Missed is = (subst LevelInRange (sym (F.level_zero is)) zero_in, λ n. F.level_zero is)

  heard_visited_lem : (d : ℕ) → d < 1088 → heard t d ≡ true → visited t d ≡ true
  heard_visited_lem d l h = (F.visits d).1 (⊎_map (P.formed.heard_visited d l) (λ (q : d ≡ c). q) (heard_more b refl d h))

  visited_inside_lem : (d : ℕ) → d < 1088 → visited t d ≡ true → (2 ≤ d) × (d ≤ 1086)
  visited_inside_lem d l v = ⊎_elim
      (λ (o : visited s d ≡ true). P.formed.visited_inside d l o)
      (λ (q : d ≡ c). subst (λ (n : ℕ). (2 ≤ n) × (n ≤ 1086)) (sym q) P.inside)
      ((F.visits d).0 v)

  formed_after : WellFormed t
  formed_after = record {
    heard_visited = heard_visited_lem;
    visited_inside = visited_inside_lem;
    heard_inside = λ d l h. visited_inside_lem d l (heard_visited_lem d l h);
    level_zero = λ d l n. ⊎_elim
        (λ (q : d ≡ c). ap (level_at t) q ∙ (own_level b refl).1 (sym (ap (heard t) q) ∙ n))
        (λ (o : d ≡ c → ⊥). other_level b refl d o ∙ P.formed.level_zero d l (fails (heard s d) (λ h. clash (heard_still b refl d h) n)))
        (same_or_not d c);
    level_in_range = λ d l. ⊎_elim
        (λ (q : d ≡ c). subst (λ (x : ℕ). LevelInRange (level_at t x)) (sym q) (own_level b refl).0)
        (λ (o : d ≡ c → ⊥). subst LevelInRange (sym (other_level b refl d o)) (P.formed.level_in_range d l))
        (same_or_not d c);
  }

-- ---- a map and the filings that it marks

-- the map marks exactly the channels of these filings, and has as many bits set
record Marks (m : List ℕ) (fs : List Filing) : Type 0 where
  number : set_bits m ≡ length fs
  channels : (c : ℕ) → (is_set m c ≡ true) ↔ For c fs

marks_none : (m : List ℕ) → ((c : ℕ) → is_set m c ≡ false) → Marks m []
unfolding set_bits
marks_none m clear = record {
  number = many_none (is_set m) channels clear;
  channels = λ c. (λ e. absurd (clash e (clear c)), λ i. absurd (Memᴰ.not-nil i));
}

-- one filing more
module _ (m n : List ℕ) (fs : List Filing) (f : Filing) (M : Marks m fs) where
  for_more : (c : ℕ) → For c fs ⊎ (c ≡ f.channel) → For c (fs ++ (f ∷ []))
  for_more c o = subst (Memᴰ c) (sym (map-append (λ g. g.channel) fs (f ∷ []))) (⊎_elim
      (λ (i : For c fs). Memᴰ.append_left (f.channel ∷ []) i)
      (λ (q : c ≡ f.channel). Memᴰ.append_right (map (λ g. g.channel) fs) (Memᴰ.head q))
      o)

  more_for : (c : ℕ) → For c (fs ++ (f ∷ [])) → For c fs ⊎ (c ≡ f.channel)
  more_for c i = ⊎_map
      (λ (j : For c fs). j)
      (λ (j : Memᴰ c (f.channel ∷ [])). Memᴰ.eq_of_singleton j)
      (Memᴰ.append_cases (map (λ g. g.channel) fs) (subst (Memᴰ c) (map-append (λ g. g.channel) fs (f ∷ [])) i))

  marks_more : f.channel < 1088 → is_set m f.channel ≡ false → ((d : ℕ) → (is_set n d ≡ true) ↔ ((is_set m d ≡ true) ⊎ (d ≡ f.channel)))
      → Marks n (fs ++ (f ∷ []))
  unfolding set_bits
  marks_more low clear is = record {
    number =
        let k = M.number in
        let l = length-append fs (f ∷ []) in
        many_more (is_set m) (is_set n) f.channel clear ((is f.channel).1 (inr refl)) same channels low ∙ omega arith;
    channels = λ c. (
      λ e. for_more c (⊎_map (M.channels c).0 (λ (q : c ≡ f.channel). q) ((is c).0 e)),
      λ i. (is c).1 (⊎_map (M.channels c).1 (λ (q : c ≡ f.channel). q) (more_for c i)),
    );
  }
    where
      same : (d : ℕ) → (d ≡ f.channel → ⊥) → is_set m d ≡ is_set n d
      same d other = same_test (is_set m d) (is_set n d)
          (λ e. (is d).1 (inl e))
          (λ e. ⊎_elim (λ (o : is_set m d ≡ true). o) (λ (q : d ≡ f.channel). absurd (other q)) ((is d).0 e))

  marks_same : ((d : ℕ) → is_set n d ≡ is_set m d) → Marks n fs
  unfolding set_bits
  marks_same same = record {
    number = many_same (is_set n) (is_set m) channels (λ d l. same d) ∙ M.number;
    channels = λ c. (λ e. (M.channels c).0 (sym (same c) ∙ e), λ i. same c ∙ (M.channels c).1 i);
  }

-- ---- the record and the accepted filings

record Shows (s : Sweep) (accepted : List Filing) : Type 0 where
  typed : Typed s
  formed : WellFormed s
  visits : Marks s.visited accepted
  hears : Marks s.heard (heard_of accepted)
  levels : (f : Filing) (r : Reading Float) → Memᴰ f accepted → f.burst ≡ Heard r → level_of r.level ≡ gives (level_at s f.channel)

-- one accepted filing more
module _ (s : Sweep) (fs : List Filing) (S : Shows s fs) (f : Filing) (A : Accepts s f.channel f.burst) where
  abbrev t : Sweep
  t = leaves s (filing s f.channel f.burst)

  F : Filed s f.channel f.burst t
  F = (filing_rule s f.channel f.burst).files A S.typed

  P : Passed s f.channel
  P = passed s f.channel f.burst A

  low : f.channel < 1088
  low = omega (arith, P.inside.1)

  silent : heard s f.channel ≡ false
  silent = not_heard s ((well_formed_rule s).1 S.formed) f.channel low P.clear

  hears_after : (b : Burst Float) → f.burst ≡ b → Marks t.heard (heard_of (fs ++ (f ∷ [])))
  hears_after (Heard r) is =
      subst (Marks t.heard) (sym (sequence_rule.one_heard fs f r is)) (marks_more s.heard t.heard (heard_of fs) f S.hears low silent (F.hears r is))
  hears_after Missed is =
      subst (Marks t.heard) (sym (sequence_rule.one_missed fs f is)) (marks_same s.heard t.heard (heard_of fs) f S.hears (F.misses is))

  -- a channel filed before is another one
  filed_before : (g : Filing) → Memᴰ g fs → ¬ (g.channel ≡ f.channel)
  filed_before g i q = clash ((S.visits.channels g.channel).1 (mem-map fs i)) (ap (visited s) q ∙ P.clear)
    where
      mem-map : (l : List Filing) → Memᴰ g l → For g.channel l
      mem-map [] j = absurd (Memᴰ.not-nil j)
      mem-map (h ∷ l) j = ⊎_elim
          (λ (e : g ≡ h). Memᴰ.head (ap (λ (x : Filing). x.channel) e))
          (λ (k : Memᴰ g l). Memᴰ.tail (mem-map l k))
          (Memᴰ.cases_cons j)

  levels_after : (g : Filing) (r : Reading Float) → Memᴰ g (fs ++ (f ∷ [])) → g.burst ≡ Heard r → level_of r.level ≡ gives (level_at t g.channel)
  levels_after g r i is = ⊎_elim
      (λ (j : Memᴰ g fs).
      S.levels g r j is ∙ ap gives (sym (other_level s f.channel f.burst t P F f.burst refl g.channel (filed_before g j))))
      (λ (j : Memᴰ g (f ∷ [])). let q : g ≡ f = Memᴰ.eq_of_singleton j in
      F.level_stored r (sym (ap (λ (x : Filing). x.burst) q) ∙ is) ∙ ap (λ (x : Filing). gives (level_at t x.channel)) (sym q))
      (Memᴰ.append_cases fs i)

  shows_more : Shows t (fs ++ (f ∷ []))
  shows_more = record {
    typed = F.typed;
    formed = formed_after s f.channel f.burst t P F;
    visits = marks_more s.visited t.visited fs f S.visits low P.clear F.visits;
    hears = hears_after f.burst refl;
    levels = levels_after;
  }

-- ---- from a fresh record

get_d_zeros : {A : Type 0} (n i : ℕ) (a : A) → get_or (replicate n a) i a ≡ a
get_d_zeros zero i a = refl
get_d_zeros (suc n) zero a = refl
get_d_zeros (suc n) (suc i) a = get_d_zeros n i a

clear_map : (m : List ℕ) → m ≡ replicate 17 0 → (c : ℕ) → is_set m c ≡ false
unfolding is_set
clear_map m e c = ap (λ (x : List ℕ). bit_at (get_or x (c / 64) 0) (c % 64)) e ∙ ap (λ (w : ℕ). bit_at w (c % 64)) (get_d_zeros 17 (c / 64) 0) ∙ no_bit (c % 64)

none_visited : (c : ℕ) → visited fresh_sweep c ≡ false
none_visited = clear_map fresh_sweep.visited fresh_rule.visited

none_heard : (c : ℕ) → heard fresh_sweep c ≡ false
none_heard = clear_map fresh_sweep.heard fresh_rule.heard

fresh_level : (c : ℕ) → level_at fresh_sweep c ≡ pos 0
fresh_level c = ap (λ (l : List ℤ). get_or l c (pos 0)) fresh_rule.levels ∙ get_d_zeros 1088 c (pos 0)

fresh_shows : Shows fresh_sweep []
unfolding heard_of
fresh_shows = record {
  typed = record {
    levels = ap length fresh_rule.levels ∙ length-replicate 1088 (pos 0);
    visited = ap length fresh_rule.visited ∙ length-replicate {A = ℕ} 17 0;
    heard = ap length fresh_rule.heard ∙ length-replicate {A = ℕ} 17 0;
  };
  formed = record {
    heard_visited = λ c l h. absurd (clash h (none_heard c));
    visited_inside = λ c l v. absurd (clash v (none_visited c));
    heard_inside = λ c l h. absurd (clash h (none_heard c));
    level_zero = λ c l n. fresh_level c;
    level_in_range = λ c l. subst LevelInRange (sym (fresh_level c)) zero_in;
  };
  visits = marks_none fresh_sweep.visited none_visited;
  hears = marks_none fresh_sweep.heard none_heard;
  levels = λ f r i is. absurd (Memᴰ.not-nil i);
}

-- the record after a list, and its accepted filings
abbrev ShowsAfter : List Filing → Type 0
ShowsAfter fs = Shows (after fresh_sweep fs) (accepted_of fresh_sweep fs)

one_after : (fs : List Filing) (f : Filing) → ShowsAfter fs → ShowsAfter (fs ++ (f ∷ []))
one_after fs f S = by (filing s f.channel f.burst) refl
  where
    s : Sweep
    s = after fresh_sweep fs

    by : (a : Told Sweep) → filing s f.channel f.burst ≡ a → ShowsAfter (fs ++ (f ∷ []))
    by (gives u) e =
        let A : Accepts s f.channel f.burst = λ n row. gives_refused (sym e ∙ from_row s f.channel f.burst row) in
        subst (λ (x : Sweep). Shows x (accepted_of fresh_sweep (fs ++ (f ∷ [])))) (sym (sequence_rule.one_more fresh_sweep fs f))
        (subst (Shows (leaves s (filing s f.channel f.burst))) (sym (sequence_rule.one_accepted fresh_sweep fs f A))
        (shows_more s (accepted_of fresh_sweep fs) S f A))
    by (refused n) e =
        let row = to_row s f.channel f.burst n e in
        subst (λ (x : Sweep). Shows x (accepted_of fresh_sweep (fs ++ (f ∷ []))))
        (sym (sequence_rule.one_more fresh_sweep fs f ∙ ((filing_rule s f.channel f.burst).refuses n row).1))
        (subst (Shows s) (sym (sequence_rule.one_refused fresh_sweep fs f n row)) S)

-- these filings and then those
all_after : (fs gs : List Filing) → ShowsAfter fs → ShowsAfter (fs ++ gs)
all_after fs [] S = subst ShowsAfter (sym (append-nil fs)) S
all_after fs (g ∷ gs) S = subst ShowsAfter (append_assoc fs (g ∷ []) gs) (all_after (fs ++ (g ∷ [])) gs (one_after fs g S))

pub filed_from_fresh : FiledFromFresh
filed_from_fresh fs =
    let none : ShowsAfter [] = subst (λ (x : Sweep). Shows x (accepted_of fresh_sweep [])) (sym (sequence_rule.none_yet fresh_sweep))
    (subst (Shows fresh_sweep) (sym (sequence_rule.none_accepted fresh_sweep)) fresh_shows) in
    let S = all_after [] fs none in
    record {
      formed = S.formed;
      number_visited = S.visits.number;
      number_heard = S.hears.number;
      channels_visited = S.visits.channels;
      channels_heard = S.hears.channels;
      level_filed = S.levels;
    }
