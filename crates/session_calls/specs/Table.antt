-- A table of calls: each row's text beside what a line that has it asks for.
use Rattle.std.specs.Prelude.{ℕ, zero, suc, cond, List, [], ◌∷◌}
use Prim.Native.String.{String}
use Rattle.session_words.specs.Bytes.{bytes_of}
use Rattle.session_words.specs.Words.{words_of}
use Rattle.session_calls.specs.Grammar.{fits}

-- a row: its text, and what is asked for with the words of the line
infix 2 ◌asks◌
pub data Row (A : Type 0) : Type 0 where
  ◌asks◌ : String → (List (List ℕ) → A) → Row A

-- the same row, and what is made of what it asks for
abbrev pub turned : {A B : Type 0} → (A → B) → Row A → Row B
turned f (text asks call) = text asks (λ ws. f (call ws))

module _ {A : Type 0} where
  -- the text of a row, as bytes
  abbrev pub text_of : Row A → List ℕ
  text_of (text asks call) = bytes_of text

  -- what the first row asks for that a line has, by its words; where it has none, what is asked for otherwise
  unfoldable pub first_of : List (Row A) → A → List (List ℕ) → A
  first_of [] otherwise ws = otherwise
  first_of ((text asks call) ∷ rows) otherwise ws = cond (fits (words_of (bytes_of text)) ws) (call ws) (first_of rows otherwise ws)

  -- what the row of a number asks for, counted from 0; beyond the last, what is asked for otherwise
  abbrev pub row_at : List (Row A) → A → ℕ → List (List ℕ) → A
  row_at [] otherwise k ws = otherwise
  row_at ((text asks call) ∷ rows) otherwise zero ws = call ws
  row_at ((text asks call) ∷ rows) otherwise (suc k) ws = row_at rows otherwise k ws
