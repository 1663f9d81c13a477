-- What a call answers, in document 01's terms: what is told of a refusal, or the values of an accepted call.
-- Contracts speak of an answer through these: by `told`, or by a definition `told..` where document 01 has other words for the values.
use Rattle.std.specs.Prelude.{Bool, true, false, Result, Ok, Err}
use Rattle.refusal.specs.declared.Refusal.{Refusal}
use Rattle.refusal.specs.declared.Reason.{Reason}
use Rattle.refusal.specs.Number.{reason_of}

-- what is told of a refusal, or values of the type A
pub data Told (A : Type 0) : Type 0 where
  refused : Reason → Told A
  gives : A → Told A

-- refused for this reason
abbrev pub refused_for : {A : Type 0} → Refusal → Told A
refused_for r = refused (reason_of r)

-- the answer of a call that gives no value: its acceptance alone
abbrev pub accepted : Told Unit
accepted = gives tt

-- what is told of an answer: the values that an accepted call gives, or what is told of its refusal
abbrev pub told : {A : Type 0} → Result A Refusal → Told A
told (Ok value) = gives value
told (Err r) = refused_for r

-- the same, with the values in document 01's words
abbrev pub told_as : {A B : Type 0} → (A → B) → Result A Refusal → Told B
told_as words (Ok value) = gives (words value)
told_as words (Err r) = refused_for r

-- ---- this answer, or this refusal

-- this answer where a test holds, else this refusal
abbrev pub provided : {A : Type 0} → Bool → Refusal → Told A → Told A
provided true r answer = answer
provided false r answer = refused_for r

-- whether a call is accepted, without the values that it gives
abbrev pub acceptance : {A : Type 0} → Told A → Told Unit
acceptance (gives a) = accepted
acceptance (refused n) = refused n

-- an accepted call gives this
abbrev pub giving : {A : Type 0} → Told Unit → A → Told A
giving (gives u) a = gives a
giving (refused n) a = refused n

-- what follows a call: as it was before where the call is refused
abbrev pub unless_refused {ℓ} : {A : Type ℓ} → Told Unit → A → A → A
unless_refused (gives u) before after = after
unless_refused (refused n) before after = before

-- ---- a record beside what is answered

-- what a call hands back: a record, and what is told of its answer
pub record HandedBack (R A : Type 0) : Type 0 where
  pub state : R
  pub answer : Told A

-- an accepted call hands back the record that it makes and gives its value; a refused one hands back the very record it was given
abbrev pub hands_back : {R A : Type 0} → Told Unit → R → R → A → HandedBack R A
hands_back t given made value = record { state = unless_refused t given made; answer = giving t value }

-- the same of a call that tells the record that it makes, or why it is refused, and gives no value
abbrev pub leaves : {R : Type 0} → R → Told R → R
leaves given (gives made) = made
leaves given (refused n) = given
