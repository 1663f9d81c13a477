-- What is told fixes the case: a definition with a way back is one-to-one.
use Prim.Native.Nat.{ℕ, ◌-◌}
use mathlib.Core.Path.{◌≡◌, refl, sym, ap, subst, ◌∙◌}
use mathlib.Core.List.{List, [], ◌∷◌}
use lib.ListN.{get_or}
use Rattle.refusal.specs.declared.Refusal.{Refusal}
use Rattle.refusal.specs.declared.Refusal.TheVariants.{ReadingOutOfRange, ChannelOutOfRange, ChannelVisited, SweepUnfinished, NotWatched, ParameterOutOfRange, OutcomesFaulty, RecordNotWellFormed, ListTooLong, ListedOutOfRange, ListedAgain, ListedServing}
use Rattle.refusal.specs.declared.Reason.{Reason}
use Rattle.refusal.specs.declared.Reason.TheVariants.{Alone, At}
use Rattle.std.specs.Prelude.{Result, Ok, Err}
use Rattle.refusal.specs.Number.{reason_of}
use Rattle.refusal.specs.Told.{Told, refused, gives, told, told_as}
use Rattle.refusal.specs.Claims.{OneToOne, ReasonsDiffer, OutcomesDiffer}

pub by_way_back : {A B : Type 0} (f : A → B) (back : B → A) → ((a : A) → back (f a) ≡ a) → OneToOne f
by_way_back f back h a b e = sym (h a) ∙ ap back e ∙ h b

-- the refusals by their numbers; a number that none has stands for the last
without_place : List Refusal
without_place =
    RecordNotWellFormed
    ∷ ReadingOutOfRange
    ∷ ChannelOutOfRange
    ∷ ChannelVisited
    ∷ SweepUnfinished
    ∷ RecordNotWellFormed
    ∷ NotWatched
    ∷ ParameterOutOfRange
    ∷ OutcomesFaulty
    ∷ RecordNotWellFormed
    ∷ RecordNotWellFormed
    ∷ ListTooLong
    ∷ []

at_place : List (ℕ → Refusal)
at_place = ListedOutOfRange ∷ ListedAgain ∷ ListedServing ∷ []

unfoldable pub refusal_of : Reason → Refusal
unfolding without_place at_place
refusal_of (Alone n) = get_or without_place n RecordNotWellFormed
refusal_of (At n p) = get_or at_place (n - 12) ListedServing p

pub refusal_back : (r : Refusal) → refusal_of (reason_of r) ≡ r
unfolding refusal_of without_place at_place
refusal_back ReadingOutOfRange = refl
refusal_back ChannelOutOfRange = refl
refusal_back ChannelVisited = refl
refusal_back SweepUnfinished = refl
refusal_back NotWatched = refl
refusal_back ParameterOutOfRange = refl
refusal_back OutcomesFaulty = refl
refusal_back RecordNotWellFormed = refl
refusal_back ListTooLong = refl
refusal_back (ListedOutOfRange p) = refl
refusal_back (ListedAgain p) = refl
refusal_back (ListedServing p) = refl

pub reasons_differ : ReasonsDiffer
reasons_differ = by_way_back reason_of refusal_of refusal_back

-- the answer of which this is told, by the value in the library's words
unfoldable pub answer_of : {A B : Type 0} → (B → A) → Told B → Result A Refusal
answer_of value (refused n) = Err (refusal_of n)
answer_of value (gives b) = Ok (value b)

pub answer_back : {A B : Type 0} (words : A → B) (value : B → A) → ((a : A) → value (words a) ≡ a) → (r : Result A Refusal)
    → answer_of value (told_as words r) ≡ r
unfolding answer_of
answer_back words value h (Ok a) = ap Ok (h a)
answer_back words value h (Err r) = ap Err (refusal_back r)

-- what is told of an answer fixes it where document 01's words fix its values
pub told_as_differs : {A B : Type 0} (words : A → B) (value : B → A) → ((a : A) → value (words a) ≡ a) → OneToOne (told_as words)
told_as_differs words value h = by_way_back (told_as words) (answer_of value) (answer_back words value h)

same_told : {A : Type 0} (r : Result A Refusal) → told r ≡ told_as (λ (a : A). a) r
same_told (Ok a) = refl
same_told (Err r) = refl

pub told_differs : {A : Type 0} → OneToOne (told {A = A})
told_differs {A} a b e = told_as_differs (λ (x : A). x) (λ (x : A). x) (λ x. refl) a b (sym (same_told a) ∙ e ∙ same_told b)

pub outcomes_differ : OutcomesDiffer
outcomes_differ = told_differs

-- an accepted answer is no refusal
Given : {A : Type 0} → Told A → Type 0
Given (gives a) = Unit
Given (refused n) = ⊥

pub gives_refused : {A : Type 0} {a : A} {n : Reason} → gives a ≡ refused n → ⊥
unfolding Given
gives_refused e = subst Given e tt
