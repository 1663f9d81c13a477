-- Words for lists that the rules are written in.
use Rattle.std.specs.Prelude.{ℕ, zero, suc, ◌-◌, Bool, true, false, not, cond, ◌&&◌, ◌||◌, List, [], ◌∷◌, eqb, ℤ, pos, ◌+ℤ◌, length, drop}
use Rattle.std.proofs.Math.Option.{Option, none, some}

-- whether a number is in a list
abbrev pub mem : ℕ → List ℕ → Bool
mem c [] = false
mem c (d ∷ ds) = eqb d c || mem c ds

-- how often a number is in a list
abbrev pub times_in : ℕ → List ℕ → ℕ
times_in c [] = 0
times_in c (d ∷ ds) = cond (eqb d c) (suc (times_in c ds)) (times_in c ds)

-- whether no number is in a list twice
abbrev pub distinct : List ℕ → Bool
distinct [] = true
distinct (c ∷ cs) = not (mem c cs) && distinct cs

-- whether each one of a list passes a test
abbrev pub every : {A : Type 0} → (A → Bool) → List A → Bool
every f [] = true
every f (a ∷ more) = f a && every f more

-- whether a number is the one that is there
abbrev pub is : Option ℕ → ℕ → Bool
is none c = false
is (some s) c = eqb s c

-- the last n of a list, or all if fewer
abbrev pub last_n : {A : Type 0} → ℕ → List A → List A
last_n n l = drop (length l - n) l

-- a list followed by as many d as make it n long
abbrev pub pad_to : {A : Type 0} → ℕ → A → List A → List A
pad_to zero d [] = []
pad_to zero d (a ∷ more) = a ∷ more
pad_to (suc n) d [] = d ∷ pad_to n d []
pad_to (suc n) d (a ∷ more) = a ∷ pad_to n d more

-- the sum of a list
abbrev pub sum : List ℤ → ℤ
sum [] = pos 0
sum (x ∷ xs) = x +ℤ sum xs
