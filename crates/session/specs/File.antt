-- Session files: what a file writes, line after line.
use Rattle.std.specs.Prelude.{ℕ, suc, ◌-◌, ◌^◌, min, cond, List, [], ◌∷◌, ◌++◌}
use Rattle.session_lines.specs.Lines.{passed_over, too_long, lines_of}
use Rattle.session_state.specs.declared.State.{State}
use Rattle.session_state.specs.State.{begins}
use Rattle.session_rows.specs.Calls.{Written, only, malformed}
use Rattle.session_rows.specs.Table.{line_asked}

-- the n-th line of a file: an empty line and a comment write nothing, which is looked at first; one that is too long is none of the calls
unfoldable pub line_written : ℕ → State → List ℕ → Written
line_written n s l =
    cond (passed_over l) (only s [])
    (cond (too_long l) (malformed n s)
    (line_asked n s l))

-- the number of the next line: "N counts every line of the file from 1". It has 64 bits, and the greatest stays
unfoldable pub following : ℕ → ℕ
following n = min (suc n) (2 ^ 64 - 1)

-- the lines from the n-th on, each in the state that the one before left
unfoldable pub answers_from : ℕ → State → List (List ℕ) → List ℕ
answers_from n s [] = []
answers_from n s (l ∷ ls) = (line_written n s l).text ++ answers_from (following n) (line_written n s l).state ls

-- a whole file
unfoldable pub answers_of : List ℕ → List ℕ
answers_of bs = answers_from 1 begins (lines_of bs)
