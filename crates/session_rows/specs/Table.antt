-- Session files, section Calls and what they write: the table. Each row has its text, and what a line that has it does and writes: ws are the
-- line's words, by their places from 0 on, n is its number in the file, and s the state before it.
use Rattle.std.specs.Prelude.{ℕ, cond, List, [], ◌∷◌, ◌++◌, map, length}
use Rattle.readings_rules.specs.Channels.{channel_in_range}
use Rattle.readings_rules.specs.Hundredths.{level_of, quality_of}
use Rattle.readings_rules.specs.Float.{level_shown, quality_shown}
use Rattle.power_rules.specs.declared.Decoded.TheVariants.{Failed, Codes}
use Rattle.session_words.specs.Words.{words_of}
use Rattle.session_calls.specs.Grammar.{first_fit}
use Rattle.session_values.specs.Values.{CH, BYTE, INT, NUM}
use Rattle.session_calls.specs.Table.{Row, ◌asks◌, turned, text_of, first_of, row_at}
use Rattle.session_answers.specs.Lines.{hundredths_line, float_line}
use Rattle.session_state.specs.declared.State.{State}
use Rattle.session_watch.specs.Rows.{watch_rows}
use Rattle.session_sweep.specs.Rows.{sweep_rows}
use Rattle.session_rows.specs.Calls.{Written, only, accepts, with_parameters, outcome_set, chosen, watching, sweeping}
use Rattle.session_rows.specs.Calls.{power_started, power_stepped, malformed}

abbrev pub Rows : Type 0
Rows = List (Row (ℕ → State → Written))

-- an outcome byte is set for a channel 0 to 1,087: another is an error
unfoldable pub choice_rows : Rows
choice_rows =
    ("outcome CH BYTE" asks λ ws n s. cond (channel_in_range (CH ws 1)) (outcome_set (CH ws 1) (BYTE ws 2) s) (malformed n s))
    ∷ ("choose INT" asks λ ws n s. chosen (INT ws 1) s)
    ∷ []

-- SQT, INIT, MIN, MAX, UP, DN and STEP, in this order
unfoldable pub parameters_set : List (List ℕ) → State → Written
parameters_set ws s =
    accepts (with_parameters s (record {
      sqt = BYTE ws 1;
      paninit = BYTE ws 2;
      panmin = BYTE ws 3;
      panmax = BYTE ws 4;
      gainup = BYTE ws 5;
      gaindn = BYTE ws 6;
      mestep = BYTE ws 7;
    }))

-- the codes of a step are PAN and PAR
unfoldable pub power_rows : Rows
power_rows =
    ("step BYTE BYTE INT" asks λ ws n s. power_stepped (Codes (BYTE ws 1) (BYTE ws 2)) (INT ws 3) s)
    ∷ ("step failed INT" asks λ ws n s. power_stepped Failed (INT ws 2) s)
    ∷ ("power start" asks λ ws n s. power_started s)
    ∷ ("params BYTE BYTE BYTE BYTE BYTE BYTE BYTE" asks λ ws n s. parameters_set ws s)
    ∷ []

unfoldable pub reading_rows : Rows
reading_rows =
    ("level NUM" asks λ ws n s. only s (hundredths_line (level_of (NUM ws 1))))
    ∷ ("quality NUM" asks λ ws n s. only s (hundredths_line (quality_of (NUM ws 1))))
    ∷ ("show level INT" asks λ ws n s. only s (float_line (level_shown (INT ws 2))))
    ∷ ("show quality INT" asks λ ws n s. only s (float_line (quality_shown (INT ws 2))))
    ∷ []

-- the rows on more than the watch and the sweep
abbrev pub other_rows : Rows
other_rows = choice_rows ++ (power_rows ++ reading_rows)

-- the rows in the order in which they are tried
unfoldable pub table : Rows
table = map (turned (λ call n. watching call)) watch_rows ++ (map (turned (λ call n. sweeping call)) sweep_rows ++ other_rows)

-- what the n-th line of a file does and writes, in the state before it
unfoldable pub line_asked : ℕ → State → List ℕ → Written
line_asked n s line = first_of table malformed (words_of line) n s

unfoldable pub rows : ℕ
rows = length table

-- the number of the row that a line has, by its words; where it has none, the number of rows
unfoldable pub row_of : List (List ℕ) → ℕ
row_of ws = first_fit (map text_of table) ws

-- what the row of a number does and writes
unfoldable pub row_written : ℕ → ℕ → State → List (List ℕ) → Written
row_written k n s ws = row_at table malformed k ws n s
