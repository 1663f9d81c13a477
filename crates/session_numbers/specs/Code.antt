-- What the private functions return, and what a whole number is told as.
use Rattle.std.specs.Prelude.{◌≡◌, ℕ, ◌+◌, ◌*◌, cond, List, [], ◌∷◌, ℤ, Option, None, Some, Result, nat_lt, option_and_then}
use Rattle.std.specs.Char.{is_ascii_uppercase, digit_value}
use Rattle.std.specs.Result.{result_ok}

-- the value of a digit below a radix; a letter is one in lower case alone
abbrev pub digit_in : ℕ → ℕ → Option ℕ
digit_in radix b = cond (is_ascii_uppercase b) None (cond (nat_lt (digit_value b) radix) (Some (digit_value b)) None)

-- the number that digits write when they follow those of v
unfoldable pub run_after : ℕ → ℕ → List ℕ → Option ℕ
run_after radix v [] = Some v
run_after radix v (b ∷ s) = option_and_then (λ d. run_after radix (v * radix + d) s) (digit_in radix b)

abbrev pub run_in : ℕ → List ℕ → Option ℕ
run_in radix s = run_after radix 0 s

-- a whole number as a type's own `try_from` tells it, where the word is one and the type holds it
abbrev pub Told : {A E : Type 0} → (ℤ → Result A E → Type 0) → Option ℤ → Option A → Type 0
Told gives None r = r ≡ None
Told {A} {E} gives (Some z) r = (o : Result A E) × gives z o × (r ≡ result_ok o)

-- of each number a type's own `try_from` makes this value alone; which error it gives where it makes none is left free
abbrev pub OnlyValue : {A E : Type 0} → (ℤ → Result A E → Type 0) → (ℤ → Option A) → Type 0
OnlyValue {A} {E} gives value = (z : ℤ) (o : Result A E) → gives z o → result_ok o ≡ value z
