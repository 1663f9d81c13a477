-- What is claimed of the refusals beyond the contracts; proved in `proofs/`, `ToldRule` in `Provided.antt` and the others in `OneToOne.antt`.
use Rattle.std.specs.Prelude.{ℕ, ◌≡◌, ◌↔◌, true, false}
use Rattle.refusal.specs.declared.Refusal.{Refusal}
use Rattle.refusal.specs.declared.Reason.{Reason}
use Rattle.refusal.specs.Number.{reason_of, number_of}
use Rattle.refusal.specs.Told.{Told, refused, gives, accepted, told, provided, acceptance, giving, unless_refused, hands_back, leaves}

-- a definition that gives two cases the same value does so only for a case and itself: what is told fixes the case
abbrev pub OneToOne : {A B : Type 0} → (A → B) → Type 0
OneToOne {A} f = (a b : A) → f a ≡ f b → a ≡ b

-- what is told of a refusal fixes it, and its place
abbrev pub ReasonsDiffer : Type 0
ReasonsDiffer = OneToOne reason_of

-- what is told of a call that gives no value fixes its answer
abbrev pub OutcomesDiffer : Type 0
OutcomesDiffer = OneToOne (told {A = Unit})

-- no number is 0, so that hosts can tell an accepted call by it; "5 is no longer given"
pub record NumbersRule : Type 0 where
  pub none_is_zero : (r : Refusal) → ¬ (number_of r ≡ 0)
  pub none_is_five : (r : Refusal) → ¬ (number_of r ≡ 5)

-- what the words of `Told` come to, in which all parts state their refusals; here of numbers, as none of them looks at a value
pub record ToldRule : Type 0 where
  -- "this answer where a test holds, else this refusal"
  pub holds : (r : Refusal) (a : Told ℕ) → provided true r a ≡ a
  pub fails : (r : Refusal) (a : Told ℕ) → provided false r a ≡ refused (reason_of r)
  -- accepted exactly where a value is given, and refused exactly with what is told
  pub accepts : (a : Told ℕ) → (acceptance a ≡ accepted) ↔ ((x : ℕ) × (a ≡ gives x))
  pub refuses : (a : Told ℕ) (n : Reason) → (acceptance a ≡ refused n) ↔ (a ≡ refused n)
  -- an accepted call gives its value and is followed by what it changes; a refused one gives none, and all is as it was
  pub given : (x : ℕ) → giving accepted x ≡ gives x
  pub not_given : (n : Reason) (x : ℕ) → giving (refused n) x ≡ refused n
  pub changed : (before after : ℕ) → unless_refused accepted before after ≡ after
  pub unchanged : (n : Reason) (before after : ℕ) → unless_refused (refused n) before after ≡ before

-- what the words come to that state a record beside what is answered: the record that an accepted call makes, or the one that it was given
pub record HandedRule : Type 0 where
  pub leaves_made : (given made : ℕ) → leaves given (gives made) ≡ made
  pub leaves_given : (n : Reason) (given : ℕ) → leaves given (refused n) ≡ given
  pub hands_made : (given made x : ℕ) → hands_back accepted given made x ≡ record { state = made; answer = gives x }
  pub hands_given : (n : Reason) (given made x : ℕ) → hands_back (refused n) given made x ≡ record { state = given; answer = refused n }
