-- Session files, section Calls and what they write: the rows on the watch, each with its text and the call that it asks for with the words of a
-- line, by their places from 0 on.
use Rattle.std.specs.Prelude.{ℕ, List, [], ◌∷◌}
use Rattle.readings_rules.specs.declared.Burst.TheVariants.{Missed}
use Rattle.watch_rules.specs.Told.{Call, start, new_beam, file, ask, verdict}
use Rattle.session_values.specs.Values.{CH, BYTE, INT, heard, channels_of}
use Rattle.session_calls.specs.Table.{Row, ◌asks◌}

-- "`start CH` alone is a start with depth 15, so that recorded sessions stay good"
abbrev pub recorded_depth : ℕ
recorded_depth = 15

unfoldable pub watch_rows : List (Row Call)
watch_rows =
    ("file CH heard NUM NUM" asks λ ws. file (CH ws 1) (heard ws 3))
    ∷ ("file CH missed" asks λ ws. file (CH ws 1) Missed)
    ∷ ("ask CH" asks λ ws. ask (CH ws 1))
    ∷ ("verdict INT" asks λ ws. verdict (INT ws 1))
    ∷ ("start CH" asks λ ws. start (CH ws 1) recorded_depth)
    ∷ ("start CH BYTE" asks λ ws. start (CH ws 1) (BYTE ws 2))
    ∷ ("beam CH CH.." asks λ ws. new_beam (CH ws 1) (channels_of ws 2))
    ∷ []
