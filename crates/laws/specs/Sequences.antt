-- A sequence of calls: each is given the state that the one before left.
use Rattle.std.specs.Prelude.{List, [], ◌∷◌}

-- the state after the last of them, where `next` is the state that a call leaves
abbrev pub after_all : {S C : Type 0} → (S → C → S) → S → List C → S
after_all next s [] = s
after_all next s (k ∷ ks) = after_all next (next s k) ks

-- the answers to them, where `answer` is what a call answers in a state
abbrev pub answers_to : {S C A : Type 0} → (S → C → S) → (S → C → A) → S → List C → List A
answers_to next answer s [] = []
answers_to next answer s (k ∷ ks) = answer s k ∷ answers_to next answer (next s k) ks
