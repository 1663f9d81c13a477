-- The claims on the choice, under their names: the laws of `Ranked` for the order, those of `Answers` for the answer. What no near channel is open
-- means is said of the near part first, and by its law of the channels within the margin.
use Prim.Native.Nat.{ℕ, suc, ◌<◌}
use mathlib.Core.Path.{◌≡◌, refl, sym, ap, ap₂, ◌∙◌, subst}
use mathlib.Core.Bool.{Bool, true, false, cond}
use mathlib.Core.List.Memᴰ
use mathlib.Core.List.{List, [], ◌∷◌, Memᴰ}
use mathlib.Core.Logic.{◌↔◌, ◌⊎◌, ⊎_elim}
use native.Mathlib.Nat.{not-suc-le-zero, le_antisymm, le_of_suc-le-suc, lt_of_not-le}
use native.Mathlib.Omega.{arith}
use lib.ListN.{length, get_or}
use lib.IntN.{ℤ}
use lib.Dec.{eqb}
use borrow.Author.Tests.{eqb-true, eqb-false}
use Rattle.refusal.specs.Told.{Told, gives, refused}
use Rattle.refusal.proofs.OneToOne.{told_as_differs, gives_refused}
use Rattle.sweep_rules.specs.Record.{heard}
use Rattle.sweep_rules.specs.declared.Sweep.{Sweep}
use Rattle.sweep_rules.proofs.Tests.{clash}
use Rattle.choice_rules.specs.declared.Choice.{Choice}
use Rattle.choice_rules.specs.declared.Choice.TheVariants as choice
use Rattle.choice_rules.specs.Order.{search_order, near_part}
use Rattle.choice_rules.specs.Choose.{not_read, suitable, outcome_at, outcomes_fine, Chosen, camp, read, no_beam}
use Rattle.choice_rules.specs.Choose.{chosen_among, chosen, choosing}
use Rattle.choice_rules.specs.Code.{All}
use Rattle.choice_rules.specs.Told.{chosen_of}
use Rattle.choice_rules.specs.Claims.{Accepts, Passes, SearchOrderRule, NearPartRule, WithinMargin, Unsuitable, Named, TriedIsPlace}
use Rattle.choice_rules.specs.Claims.{NoBeamExactly, UnheardBytes, AnswersDiffer, AnswersTold}
use Rattle.choice_rules.proofs.Lists.{all_mem, mem_all, mem_at, all-at}
use Rattle.choice_rules.proofs.Ranked.{ordered, order_rule, near_rule}
use Rattle.choice_rules.proofs.Answers.{is_open, open_cases, closed_above, above_closed, FirstAt, named_as, AnswerAt, chosen_at}
use Rattle.choice_rules.proofs.SameBytes.{answer_same}
use Rattle.choice_rules.proofs.Refusals.{fine_at, in_fine, to_row, from_row, Accepted, accepted_is, accepts}
pub use Rattle.choice_rules.proofs.Refusals.{refusal_rule}

pub search_order_rule : SearchOrderRule
search_order_rule s = order_rule (heard s) s

pub near_part_rule : NearPartRule
near_part_rule s m = near_rule (heard s) s m

-- ---- bytes of channels not heard

-- outcomes that agree on the channels that pass a test give the same choice among these
chosen_same : (test : ℕ → Bool) (s : Sweep) (m : ℤ) (o p : List ℕ) → ((c : ℕ) → Passes test c → outcome_at o c ≡ outcome_at p c)
    → chosen_among test s m o ≡ chosen_among test s m p
unfolding chosen_among
chosen_same test s m o p same =
    let near = near_part test s m in
    answer_same (outcome_at o) (outcome_at p) (search_order test s) near near
    (mem_all (λ c. outcome_at o c ≡ outcome_at p c) near (λ c i. same c (((near_rule test s m).exactly c).0 i).0))

pub unheard_bytes : UnheardBytes
unfolding choosing chosen
unheard_bytes s m o p in_o in_p same =
    let e : chosen s m o ≡ chosen s m p = chosen_same (heard s) s m o p same in
    rw (in_fine o in_o, in_fine p in_p, e)

-- ---- the cases of an answer

camp_not : (c n k : ℕ) → camp c n ≡ no_beam k → ⊥
camp_not c n k e = let z : ◌≡◌ {A = ℕ} 0 1 = cc in omega arith

read_not : (c n k : ℕ) → read c n ≡ no_beam k → ⊥
read_not c n k e = let z : ◌≡◌ {A = ℕ} 0 1 = cc in omega arith

-- a channel that is named is no case of no beam
named_not : (o : ℕ → ℕ) (c n k : ℕ) → named_as o c n ≡ no_beam k → ⊥
named_not o c n k = by (eqb (o c) suitable)
  where
    by : (b : Bool) → cond b (camp c n) (read c n) ≡ no_beam k → ⊥
    by true e = camp_not c n k e
    by false e = read_not c n k e

-- and where it is named to camp on, or to read, it is that channel with that number, and its outcome is 1, or 0
module _ (o : ℕ → ℕ) (c n : ℕ) (opens : is_open (o c) ≡ true) (d k : ℕ) where
  named_camp : named_as o c n ≡ camp d k → (c ≡ d) × (n ≡ k) × (o c ≡ suitable)
  named_camp = by (eqb (o c) suitable) refl
    where
      by : (b : Bool) → eqb (o c) suitable ≡ b → cond b (camp c n) (read c n) ≡ camp d k → (c ≡ d) × (n ≡ k) × (o c ≡ suitable)
      by true t e = (cc, cc, eqb-true (o c) suitable t)
      by false t e = let z : ◌≡◌ {A = ℕ} 0 1 = cc in absurd (not-suc-le-zero {n = 0} (omega arith))

  named_read : named_as o c n ≡ read d k → (c ≡ d) × (n ≡ k) × (o c ≡ not_read)
  named_read = by (eqb (o c) suitable) refl
    where
      by : (b : Bool) → eqb (o c) suitable ≡ b → cond b (camp c n) (read c n) ≡ read d k → (c ≡ d) × (n ≡ k) × (o c ≡ not_read)
      by true t e = let z : ◌≡◌ {A = ℕ} 0 1 = cc in absurd (not-suc-le-zero {n = 0} (omega arith))
      by false t e = (cc, cc, ⊎_elim (λ (q : o c ≡ not_read). q) (λ (q : o c ≡ suitable). absurd (eqb-false (o c) suitable t q)) (open_cases (o c) opens))

-- ---- the answer of an accepted choice

-- an outcome that is not open is one of 2 to 5
unsuitable : (o : List ℕ) → outcomes_fine o ≡ true → (c : ℕ) → c < 1088 → is_open (outcome_at o c) ≡ false → Unsuitable o c
unsuitable o e c h q = (closed_above (outcome_at o c) q, fine_at o e c h)

module _ (s : Sweep) (m : ℤ) (o : List ℕ) (a : Chosen) (A : Accepted s m o a) where
  abbrev order : List ℕ
  order = search_order (heard s) s

  abbrev near : List ℕ
  near = near_part (heard s) s m

  -- its cases: no near channel is open, or the first open one is named
  abbrev Closed : Type 0
  Closed = (a ≡ no_beam (length near)) × All (λ d. is_open (outcome_at o d) ≡ false) near

  abbrev Open : Type 0
  Open = (c : ℕ) × (j : ℕ) × (a ≡ named_as (outcome_at o) c (suc j)) × FirstAt (outcome_at o) near c j × FirstAt (outcome_at o) order c j

  answer_is : Closed ⊎ Open
  unfolding chosen
  answer_is = subst (AnswerAt (outcome_at o) order near) A.is (chosen_at (heard s) s m o)

  in_near : (c j : ℕ) → FirstAt (outcome_at o) near c j → Memᴰ c near
  in_near c j f = Memᴰ.cast (sym f.is) (mem_at near j f.inside)

  -- a near channel is heard and within the margin
  within : (c : ℕ) → Memᴰ c near → Passes (heard s) c × WithinMargin (heard s) s m c
  within c i = ((near_rule (heard s) s m).exactly c).0 i

  named : (c j : ℕ) → FirstAt (outcome_at o) near c j → FirstAt (outcome_at o) order c j → Named s m o c (suc j)
  named c j f g = record {
    near = in_near c j f;
    place = (j, refl, f.inside, g.is);
    first = λ i h.
        let l = g.inside in
        let c = get_or order i 0 in
        unsuitable o A.fine c (all-at (Passes (heard s)) order (ordered (heard s) s) i (omega arith)).0 (g.closed i (omega arith));
  }

  -- an answer that names a channel names the first open one, with its place
  names : (c n b : ℕ) → ((d j : ℕ) → is_open (outcome_at o d) ≡ true → a ≡ named_as (outcome_at o) d j → (d ≡ c) × (j ≡ n) × (outcome_at o d ≡ b))
      → ((k : ℕ) → a ≡ no_beam k → ⊥) → Named s m o c n × (get_or o c 0 ≡ b)
  names c n b is not = ⊎_elim
      (λ (r : Closed). absurd (not (length near) r.0))
      (λ (r : Open).
      let q = is r.0 (suc r.1) r.3.opens r.2 in
      let first = named r.0 r.1 r.3 r.4 in
      (subst (λ (x : ℕ). Named s m o x n) q.0 (subst (Named s m o r.0) q.1 first), ap (outcome_at o) (sym q.0) ∙ q.2))
      answer_is

  -- and the first open channel is named
  is_named : (c n : ℕ) → Named s m o c n → is_open (outcome_at o c) ≡ true → a ≡ named_as (outcome_at o) c n
  is_named c n N opens = ⊎_elim
      (λ (r : Closed). absurd (clash opens (all_mem (λ d. is_open (outcome_at o d) ≡ false) near r.1 c N.near)))
      (λ (r : Open).
      let j = r.1 in
      let k = N.place.0 in
      let before : j < k → ⊥ = λ h. clash (ap (λ (d : ℕ). is_open (outcome_at o d)) r.4.is ∙ r.4.opens)
      (above_closed (outcome_at o (get_or order j 0)) (N.first j (omega (arith, N.place.1))).0) in
      let after : k < j → ⊥ = λ h. clash (ap (λ (d : ℕ). is_open (outcome_at o d)) N.place.3 ∙ opens) (r.4.closed k h) in
      let same : j ≡ k = le_antisymm (le_of_suc-le-suc (lt_of_not-le after)) (le_of_suc-le-suc (lt_of_not-le before)) in
      let here : r.0 ≡ c = sym r.4.is ∙ ap (λ (i : ℕ). get_or order i 0) same ∙ N.place.3 in
      r.2 ∙ ap₂ (named_as (outcome_at o)) here (ap suc same ∙ sym N.place.1))
      answer_is

  -- no beam
  all_closed : (n : ℕ) → a ≡ no_beam n → ((c : ℕ) → Memᴰ c near → Unsuitable o c) × (n ≡ length near)
  all_closed n e = ⊎_elim
      (λ (r : Closed). (λ c i. unsuitable o A.fine c (within c i).0.0 (all_mem (λ d. is_open (outcome_at o d) ≡ false) near r.1 c i), cc))
      (λ (r : Open). absurd (named_not (outcome_at o) r.0 (suc r.1) n (sym r.2 ∙ e)))
      answer_is

  closed_all : ((c : ℕ) → Memᴰ c near → Unsuitable o c) → a ≡ no_beam (length near)
  closed_all h = ⊎_elim
      (λ (r : Closed). r.0)
      (λ (r : Open). absurd (clash r.3.opens (above_closed (outcome_at o r.0) (h r.0 (in_near r.0 r.1 r.3)).0)))
      answer_is

  silent : ((c : ℕ) → ¬ (Passes (heard s) c)) → a ≡ no_beam 0
  silent none = closed_all (λ c i. absurd (none c (within c i).0)) ∙ ap no_beam (empty near (λ c i. none c (within c i).0))
    where
      empty : (cs : List ℕ) → ((c : ℕ) → Memᴰ c cs → ⊥) → length cs ≡ 0
      empty [] h = refl
      empty (c ∷ cs) h = absurd (h c (Memᴰ.head refl))

-- where the table has no number there is an answer, and where there is one the table has none
module _ (s : Sweep) (m : ℤ) (o : List ℕ) where
  accepted : Accepts s m o → (a : Chosen) × Accepted s m o a
  accepted N = by (choosing s m o) refl
    where
      by : (t : Told Chosen) → choosing s m o ≡ t → (a : Chosen) × Accepted s m o a
      by (gives a) e = (a, accepted_is s m o a e)
      by (refused n) e = absurd (N n (to_row s m o n e))

  no_row : (a : Chosen) → choosing s m o ≡ gives a → Accepts s m o
  no_row a e n row = gives_refused (sym e ∙ from_row s m o row)

  -- what every accepted answer is, the call tells
  tells : (a : Chosen) → ((b : Chosen) → Accepted s m o b → b ≡ a) → Accepts s m o → choosing s m o ≡ gives a
  tells a is N = let x = accepted N in accepts s m o x.0 x.1 ∙ ap gives (is x.0 x.1)

-- an answer that names a channel of outcome b, for camp and read alike
module _
    (say : ℕ → ℕ → Chosen)
    (b : ℕ)
    (opens : is_open b ≡ true)
    (says : (c n : ℕ) → cond (eqb b suitable) (camp c n) (read c n) ≡ say c n)
    (only : (o : ℕ → ℕ) (c n : ℕ) → is_open (o c) ≡ true → (d k : ℕ) → named_as o c n ≡ say d k → (c ≡ d) × (n ≡ k) × (o c ≡ b))
    (other : (c n k : ℕ) → say c n ≡ no_beam k → ⊥)
  where
    named_exactly : (s : Sweep) (m : ℤ) (o : List ℕ) (c n : ℕ) → (choosing s m o ≡ gives (say c n)) ↔ (Accepts s m o × Named s m o c n × (get_or o c 0 ≡ b))
    named_exactly s m o c n = (
      λ e.
          let A = accepted_is s m o (say c n) e in
          let q = names s m o (say c n) A c n b (λ d j t f. only (outcome_at o) d j t c n (sym f)) (other c n) in
          (no_row s m o (say c n) e, q.0, q.1),
      λ h.
          let named : named_as (outcome_at o) c n ≡ say c n = ap (λ (x : ℕ). cond (eqb x suitable) (camp c n) (read c n)) h.2 ∙ says c n in
          tells s m o (say c n) (λ a A. is_named s m o a A c n h.1 (ap is_open h.2 ∙ opens) ∙ named) h.0,
    )

pub tried_is_place : TriedIsPlace
tried_is_place s m o = record {
  camps = named_exactly camp 1 refl (λ c n. refl) named_camp camp_not s m o;
  reads = named_exactly read 0 refl (λ c n. refl) named_read read_not s m o;
  none = λ n. (
    λ e. let q = all_closed s m o (no_beam n) (accepted_is s m o (no_beam n) e) n refl in (no_row s m o (no_beam n) e, q.0, q.1),
    λ h. tells s m o (no_beam n) (λ a A. closed_all s m o a A h.1 ∙ ap no_beam (sym h.2)) h.0,
  );
  silent = λ N none. tells s m o (no_beam 0) (λ a A. silent s m o a A none) N;
}

pub no_beam_exactly : NoBeamExactly
no_beam_exactly s m o a e =
    let A = accepted_is s m o a e in (
      λ b c p w. (all_closed s m o a A b.0 b.1).0 c (((near_rule (heard s) s m).exactly c).1 (p, w)),
      λ h. (length (near_part (heard s) s m), closed_all s m o a A (λ c i. let w = within s m o a A c i in h c w.0 w.1)),
    )

-- ---- each way back from what is told

choice_from : Chosen → Choice
choice_from (camp c n) = choice.Camp c n
choice_from (read c n) = choice.Read c n
choice_from (no_beam n) = choice.NoBeam n

choice_back : (a : Choice) → choice_from (chosen_of a) ≡ a
unfolding choice_from
choice_back (choice.Camp c n) = refl
choice_back (choice.Read c n) = refl
choice_back (choice.NoBeam n) = refl

pub answers_differ : AnswersDiffer
answers_differ = told_as_differs chosen_of choice_from choice_back

-- ---- each case is told as what it says

pub answers_told : AnswersTold
answers_told = record { camps = λ c n. refl; reads = λ c n. refl; none = λ n. refl; refuses = λ r. refl }
