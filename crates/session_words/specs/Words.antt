-- Session files, section Lines: the words of a line.
use Rattle.std.specs.Prelude.{ℕ, ◌-◌, cond, List, [], ◌∷◌, get_or, take, drop, eqb}

-- the byte between two words
abbrev pub space : ℕ
space = 32

-- a byte put before the first word
abbrev pub before : ℕ → List (List ℕ) → List (List ℕ)
before b [] = (b ∷ []) ∷ []
before b (w ∷ ws) = (b ∷ w) ∷ ws

-- a line cut at each space: two spaces together have an empty word between them, which no call has
unfoldable pub words_of : List ℕ → List (List ℕ)
words_of [] = [] ∷ []
words_of (b ∷ s) = cond (eqb b space) ([] ∷ words_of s) (before b (words_of s))

-- a word by its place, counted from 0; beyond the last, the empty word
abbrev pub word_at : List (List ℕ) → ℕ → List ℕ
word_at ws k = get_or ws k []

-- the bytes of a line from one place up to another
abbrev pub between : List ℕ → ℕ → ℕ → List ℕ
between s a e = take (e - a) (drop a s)
