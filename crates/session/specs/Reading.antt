-- A session file that is read in blocks: what a block writes, and what is still to be written.
use Rattle.std.specs.Prelude.{ℕ, ◌≤◌, ◌<◌, ◌≡◌, cond, List, [], ◌∷◌, ◌++◌, length, leb, ltb}
use Rattle.session_words.specs.Words.{words_of}
use Rattle.session_words.specs.Held.{held}
use Rattle.session_lines.specs.Lines.{longest, passed_over, lines_after}
use Rattle.session_texts.specs.Text.{room}
use Rattle.session_lines.specs.declared.Line.{Line}
use Rattle.session_state.specs.declared.State.{State}
use Rattle.session_rows.specs.Calls.{Written, only, malformed}
use Rattle.session_rows.specs.Table.{row_written, line_asked}
use Rattle.session.specs.declared.lines.Kind.{Kind}
use Rattle.session.specs.declared.lines.Kind.TheVariants.{PassedOver, NoCall, Call}
use Rattle.session.specs.declared.blocks.Session.{Session}
use Rattle.session.specs.File.{answers_from, answers_of}

-- the bytes of the line that has begun. Of one that is too long to be a call its first bytes are kept, and one byte stands for all others
unfoldable pub so_far : Line → List ℕ
so_far l = cond (leb l.bytes.length longest) (held l.bytes) (l.bytes.bytes ++ (0 ∷ []))

-- what a line does and writes, by its length and its first bytes
unfoldable pub kept_written : ℕ → List ℕ → ℕ → State → Written
kept_written size held n s = cond (passed_over held) (only s []) (cond (ltb longest size) (malformed n s) (line_asked n s held))

-- what it does and writes by its kind
abbrev pub kind_written : Kind → ℕ → State → List ℕ → Written
kind_written PassedOver n s held = only s []
kind_written NoCall n s held = malformed n s
kind_written (Call k) n s held = row_written k n s (words_of held)

-- what is still to be written, where these bytes follow up to the end of the file
unfoldable pub to_write : Session → List ℕ → List ℕ
to_write s bs = answers_from s.number s.state (lines_after (so_far s.line) bs)

-- nothing was read yet: whatever follows is a whole file
abbrev pub Unread : Session → Type 0
Unread s = (bs : List ℕ) → to_write s bs ≡ answers_of bs

-- whatever follows the bytes bs: once the text is written, the session t with the bytes that are left has the rest to write
abbrev pub GoesOn : Session → List ℕ → List ℕ → Session → List ℕ → Type 0
GoesOn s bs text t left = (more : List ℕ) → to_write s (bs ++ more) ≡ text ++ to_write t (left ++ more)

-- some bytes of a block are taken, where there are any and the buffer has room for an answer
abbrev pub Moves : List ℕ → List ℕ → ℕ → Type 0
Moves block out taken = 0 < length block → room ≤ length out → 0 < taken
