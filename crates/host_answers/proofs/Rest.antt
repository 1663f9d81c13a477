-- The answers of a watch that are no refusal, no levels, no verdict: by the numbers of the cases, as a `match` leaves them over.
use Prim.Native.Nat.{ℕ}
use mathlib.Core.Path.{◌≡◌, refl, subst}
use mathlib.Core.Bool.{Bool, true, false, ◌||◌}
use mathlib.Core.List.{List, [], ◌∷◌}
use mathlib.Core.Logic.{⊎_elim}
use lib.Dec.{T, eqb, eqb_refl}
use types.Run.{OneOf}
use denote.Enum.Declared.{tag_of}
use Rattle.std.specs.Prelude.{Result, Ok, Err}
use Rattle.refusal.specs.declared.Refusal.{Refusal}
use Rattle.watch_rules.specs.declared.Answer.{Answer}
use Rattle.watch_rules.specs.declared.Answer.TheVariants.{Accepted, Levels, Wait, Stay, MoveTo}
use Rattle.watch_rules.specs.Told.{told_answer}
use Rattle.watch_rules.specs.contracts.Answer.{the_type}
use Rattle.host_rules.specs.Answers.{accepted_number, refusal_number, no_place, refusal_place, no_levels, levels_answer, no_verdict, verdict_answer}

-- a key is among the keys, which computes
abbrev among : List ℕ → ℕ → Bool
among [] x = false
among (k ∷ ks) x = eqb x k || among ks x

first : (a b : Bool) → T a → T (a || b)
first true b t = tt
first false b t = absurd t

later : (a b : Bool) → T b → T (a || b)
later true b t = tt
later false b t = t

is_key : (x k : ℕ) → x ≡ k → T (eqb x k)
is_key x k e = subst (λ (y : ℕ). T (eqb x y)) e (eqb_refl x)

one_among : (ks : List ℕ) (x : ℕ) → OneOf ks x → T (among ks x)
one_among [] x t = t
one_among (k ∷ []) x e = first (eqb x k) false (is_key x k e)
one_among (k ∷ j ∷ ks) x t =
    ⊎_elim (λ (e : x ≡ k). first (eqb x k) _ (is_key x k e)) (λ (u : OneOf (j ∷ ks) x). later (eqb x k) _ (one_among (j ∷ ks) x u)) t

-- a refusal, or an answer of one of these cases
abbrev pub LeftOver : List ℕ → Result Answer Refusal → Type 0
LeftOver ks (Ok a) = OneOf ks (tag_of the_type a)
LeftOver ks (Err why) = Unit {0}

pub not_refused : (a : Answer) → (accepted_number ≡ refusal_number (told_answer (Ok a))) × (no_place ≡ refusal_place (told_answer (Ok a)))
not_refused a = (refl, refl)

pub not_levels : (a : Result Answer Refusal) → LeftOver (0 ∷ 2 ∷ 3 ∷ 4 ∷ []) a → no_levels (refusal_number (told_answer a)) ≡ levels_answer (told_answer a)
not_levels (Err r) t = refl
not_levels (Ok Accepted) t = refl
not_levels (Ok (Levels n m)) t = absurd (one_among (0 ∷ 2 ∷ 3 ∷ 4 ∷ []) 1 t)
not_levels (Ok Wait) t = refl
not_levels (Ok Stay) t = refl
not_levels (Ok (MoveTo c)) t = refl

pub not_verdict : (a : Result Answer Refusal) → LeftOver (0 ∷ 1 ∷ []) a → no_verdict (refusal_number (told_answer a)) ≡ verdict_answer (told_answer a)
not_verdict (Err r) t = refl
not_verdict (Ok Accepted) t = refl
not_verdict (Ok (Levels n m)) t = refl
not_verdict (Ok Wait) t = absurd (one_among (0 ∷ 1 ∷ []) 2 t)
not_verdict (Ok Stay) t = absurd (one_among (0 ∷ 1 ∷ []) 3 t)
not_verdict (Ok (MoveTo c)) t = absurd (one_among (0 ∷ 1 ∷ []) 4 t)
