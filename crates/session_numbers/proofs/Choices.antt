-- A case of a definition by tests, where the code's test says so; and what is told of a word.
use Rattle.std.proofs.Common.{◌≡◌, Bool, true, false, cond, Option, sym, ap, ◌∙◌}
use Rattle.session_words.proofs.Lists.{cond-true, cond-false}

-- this case: the code's test says so
pub here : {A : Type 0} {b t : Bool} {x z : A} (y : A) → t ≡ b → t ≡ true → z ≡ x → z ≡ cond b x y
here {x = x} y is e p = p ∙ sym (cond-true x y (sym is ∙ e))

-- a later case
pub later : {A : Type 0} {b t : Bool} {y z : A} (x : A) → t ≡ b → t ≡ false → z ≡ y → z ≡ cond b x y
later {y = y} x is e p = p ∙ sym (cond-false x y (sym is ∙ e))

-- what the code read of a word, r, turned out to be v: a function of the word's value
pub told_as : {W A B : Type 0} {o : Option A} {r v : W} (told : W → Option A) (f : Option A → B) → told r ≡ o → r ≡ v → f (told v) ≡ f o
told_as told f e is = ap f (ap told (sym is) ∙ e)
