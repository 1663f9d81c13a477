-- What is claimed of the table of calls.
use Rattle.std.specs.Prelude.{ℕ, ◌<◌, ◌≡◌, true, List, [], map, get_or}
use Rattle.session_words.specs.Words.{words_of}
use Rattle.session_calls.specs.Grammar.{fits}
use Rattle.session_calls.specs.Table.{text_of}
use Rattle.session_rows.specs.Table.{table, rows}

-- no line has two of the rows, so that their order does not matter
abbrev pub OneRow : Type 0
OneRow =
    (line : List ℕ) (i j : ℕ) → i < rows → j < rows
    → fits (words_of (get_or (map text_of table) i [])) (words_of line) ≡ true → fits (words_of (get_or (map text_of table) j [])) (words_of line) ≡ true → i ≡ j
