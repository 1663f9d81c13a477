-- What is chosen. The first open channel of the near part stands at some place j, and all before it are closed, so none of them is it: its place in
-- the search order, of which the near part is a beginning, is j + 1.
use Prim.Native.Nat.{ℕ, zero, suc, ◌≤◌, ◌<◌}
use mathlib.Core.Path.{◌≡◌, refl, sym, ap, ◌∙◌}
use mathlib.Core.Bool.{Bool, true, false, cond, ◌||◌, false≢true}
use mathlib.Core.List.{List, [], ◌∷◌, ◌++◌}
use mathlib.Core.Logic.{◌⊎◌, inl, inr, ⊎_elim}
use mathlib.Core.Option.{none, some}
use native.Mathlib.Nat.{not-suc-le-zero}
use native.Mathlib.Omega.{arith}
use lib.ListN.{length, get_or, length-append, get_or-append}
use lib.IntN.{ℤ}
use lib.Dec.{eqb}
use borrow.Author.Tests.{eqb-true, eq-eqb, ne_eqb}
use Rattle.sweep_rules.specs.Record.{level_at}
use Rattle.sweep_rules.specs.declared.Sweep.{Sweep}
use Rattle.sweep_rules.proofs.Tests.{which, clash}
use Rattle.choice_rules.specs.Order.{search_order, near_part}
use Rattle.choice_rules.specs.Choose.{not_read, suitable, outcome_at, Chosen, camp, read, no_beam, first_open, place_in, answer_of, chosen_among}
use Rattle.choice_rules.specs.Code.{All}
use Rattle.choice_rules.proofs.Ranked.{near_begins}

-- not read yet, or suitable
abbrev pub is_open : ℕ → Bool
is_open b = eqb b not_read || eqb b suitable

pub open_cases : (b : ℕ) → is_open b ≡ true → (b ≡ not_read) ⊎ (b ≡ suitable)
open_cases b e = ⊎_elim
    (λ (t : eqb b not_read ≡ true). inl (eqb-true b not_read t))
    (λ (t : eqb b not_read ≡ false). inr (eqb-true b suitable (sym (ap (λ (x : Bool). x || eqb b suitable) t) ∙ e)))
    (which (eqb b not_read))

pub closed_above : (b : ℕ) → is_open b ≡ false → 2 ≤ b
closed_above zero e = absurd (false≢true (sym e))
closed_above (suc zero) e = absurd (false≢true (sym e))
closed_above (suc (suc b)) e = omega arith

pub above_closed : (b : ℕ) → 2 ≤ b → is_open b ≡ false
above_closed b h = rw (ne_eqb b not_read (λ e. not-suc-le-zero {n = 0} (omega arith)), ne_eqb b suitable (λ e. not-suc-le-zero {n = 0} (omega arith)))

-- ---- the first open one of a list

module _ (o : ℕ → ℕ) where
  -- c stands at place j, from 0, is open, and none before it is
  pub record FirstAt (cs : List ℕ) (c j : ℕ) : Type 0 where
    pub inside : j < length cs
    pub is : get_or cs j 0 ≡ c
    pub opens : is_open (o c) ≡ true
    pub closed : (i : ℕ) → i < j → is_open (o (get_or cs i 0)) ≡ false

  abbrev pub FirstOf : List ℕ → Type 0
  FirstOf cs = ((first_open o cs ≡ none) × All (λ c. is_open (o c) ≡ false) cs) ⊎ ((c : ℕ) × (j : ℕ) × (first_open o cs ≡ some c) × FirstAt cs c j)

  pub first_yes : (c : ℕ) (cs : List ℕ) → is_open (o c) ≡ true → first_open o (c ∷ cs) ≡ some c
  unfolding first_open
  first_yes c cs e = rw e

  pub first_no : (c : ℕ) (cs : List ℕ) → is_open (o c) ≡ false → first_open o (c ∷ cs) ≡ first_open o cs
  unfolding first_open
  first_no c cs e = rw e

  later : (c : ℕ) (cs : List ℕ) (d j : ℕ) → is_open (o c) ≡ false → FirstAt cs d j → FirstAt (c ∷ cs) d (suc j)
  later c cs d j e f = record {
    inside = let h = f.inside in omega arith;
    is = f.is;
    opens = f.opens;
    closed = λ i h. by i h;
  }
    where
      by : (i : ℕ) → i < suc j → is_open (o (get_or (c ∷ cs) i 0)) ≡ false
      by zero h = e
      by (suc i) h = f.closed i (omega arith)

  pub first_of : (cs : List ℕ) → FirstOf cs
  unfolding first_open
  first_of [] = inl (refl, tt)
  first_of (c ∷ cs) = ⊎_elim
      (λ (e : is_open (o c) ≡ true). inr (c, 0, first_yes c cs e, record { inside = omega arith; is = refl; opens = e; closed = λ i h. absurd (not-suc-le-zero h) }))
      (λ (e : is_open (o c) ≡ false). ⊎_elim
      (λ (r : (first_open o cs ≡ none) × All (λ d. is_open (o d) ≡ false) cs). inl (first_no c cs e ∙ r.0, (e, r.1)))
      (λ (r : (d : ℕ) × (j : ℕ) × (first_open o cs ≡ some d) × FirstAt cs d j). inr (r.0, suc r.1, first_no c cs e ∙ r.2, later c cs r.0 r.1 e r.3))
      (first_of cs))
      (which (is_open (o c)))

  -- in a list that goes on from this one
  pub first_longer : (cs rest ds : List ℕ) → cs ++ rest ≡ ds → (c j : ℕ) → FirstAt cs c j → FirstAt ds c j
  first_longer cs rest ds q c j f =
      let n = length-append cs rest in
      let l = ap length q in
      let at : (i : ℕ) → i < length cs → get_or ds i 0 ≡ get_or cs i 0 = λ i h. ap (λ (x : List ℕ). get_or x i 0) (sym q) ∙ get_or-append cs rest 0 i h in
      let h = f.inside in
      record {
        inside = omega arith;
        is = at j h ∙ f.is;
        opens = f.opens;
        closed = λ i g. ap (λ (x : ℕ). is_open (o x)) (at i (omega arith)) ∙ f.closed i g;
      }

  place_yes : (d : ℕ) (ds : List ℕ) (c : ℕ) → d ≡ c → place_in (d ∷ ds) c ≡ 1
  unfolding place_in
  place_yes d ds c e = rw (eq-eqb d c e)

  place_no : (d : ℕ) (ds : List ℕ) (c : ℕ) → (d ≡ c → ⊥) → place_in (d ∷ ds) c ≡ suc (place_in ds c)
  unfolding place_in
  place_no d ds c n = rw (ne_eqb d c n)

  pub place_of : (ds : List ℕ) (c j : ℕ) → FirstAt ds c j → place_in ds c ≡ suc j
  place_of [] c j f = absurd (not-suc-le-zero f.inside)
  place_of (d ∷ ds) c zero f = place_yes d ds c f.is
  place_of (d ∷ ds) c (suc j) f =
      let h = f.inside in
      place_no d ds c (λ e. clash (ap (λ (x : ℕ). is_open (o x)) e ∙ f.opens) (f.closed 0 (omega arith)))
      ∙ ap suc (place_of ds c j (record { inside = omega arith; is = f.is; opens = f.opens; closed = λ i g. f.closed (suc i) (omega arith) }))

  -- ---- the answer, given the search order and its near part

  -- an open channel with its number tried
  abbrev pub named_as : ℕ → ℕ → Chosen
  named_as c n = cond (eqb (o c) suitable) (camp c n) (read c n)

  abbrev pub AnswerAt : List ℕ → List ℕ → Chosen → Type 0
  AnswerAt order near a = ((a ≡ no_beam (length near)) × All (λ c. is_open (o c) ≡ false) near) ⊎ ((c : ℕ) × (j : ℕ) × (a ≡ named_as c (suc j)) × FirstAt near c j × FirstAt order c j)

  pub answer_at : (order near rest : List ℕ) → near ++ rest ≡ order → AnswerAt order near (answer_of o order near (first_open o near))
  unfolding answer_of
  answer_at order near rest q = ⊎_elim
      (λ (r : (first_open o near ≡ none) × All (λ c. is_open (o c) ≡ false) near). inl (ap (answer_of o order near) r.0, r.1))
      (λ (r : (c : ℕ) × (j : ℕ) × (first_open o near ≡ some c) × FirstAt near c j).
      let f = first_longer near rest order q r.0 r.1 r.3 in
      inr (r.0, r.1, ap (answer_of o order near) r.2 ∙ ap (named_as r.0) (place_of order r.0 r.1 f), r.3, f))
      (first_of near)

-- the choice among the channels that pass a test
pub chosen_at : (test : ℕ → Bool) (s : Sweep) (m : ℤ) (o : List ℕ) → AnswerAt (outcome_at o) (search_order test s) (near_part test s m) (chosen_among test s m o)
unfolding chosen_among near_part
chosen_at test s m o =
    let p = near_begins (level_at s) m (search_order test s) in
    answer_at (outcome_at o) (search_order test s) (near_part test s m) p.0 p.1
