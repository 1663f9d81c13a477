-- Session files, section Lines: how the bytes of a file are cut into lines, and what is kept of a line that is being read.
use Rattle.std.specs.Prelude.{ℕ, suc, ◌+◌, min, Bool, true, cond, List, [], ◌∷◌, ◌++◌, length, take, eqb, leb, ltb}
use Rattle.session_words.specs.Bytes.{newline}
use Rattle.session_words.specs.Held.{held}
use Rattle.session_lines.specs.declared.Line.{Line}

-- the byte that begins a comment
abbrev pub hash : ℕ
hash = 35

-- the longest line that may be a call, without its newline
abbrev pub longest : ℕ
longest = 200

-- the lines of a file: a last line may lack its newline, and after a last newline no line begins. s is the line before these bytes
unfoldable pub lines_after : List ℕ → List ℕ → List (List ℕ)
lines_after [] [] = []
lines_after (a ∷ s) [] = (a ∷ s) ∷ []
lines_after s (b ∷ bs) = cond (eqb b newline) (s ∷ lines_after [] bs) (lines_after (s ++ (b ∷ [])) bs)

abbrev pub lines_of : List ℕ → List (List ℕ)
lines_of bs = lines_after [] bs

-- an empty line, and one that begins with `#`, is passed over
abbrev pub passed_over : List ℕ → Bool
passed_over [] = true
passed_over (b ∷ s) = eqb b hash

-- too long to be a call
abbrev pub too_long : List ℕ → Bool
too_long s = ltb longest (length s)

-- what is kept of a line: its length, where one above the longest stands for all greater ones, and its first bytes, at most the longest
pub record Kept : Type 0 where
  pub size : ℕ
  pub first : List ℕ

abbrev pub kept_of : List ℕ → Kept
kept_of s = record { size = min (length s) (suc longest); first = take longest s }

-- what a line of the code keeps: of one that is too long to be a call its first bytes, and one byte that stands for all others
abbrev pub kept : Line → Kept
kept l = kept_of (cond (leb l.bytes.length longest) (held l.bytes) (l.bytes.bytes ++ (0 ∷ [])))

-- what is kept once more bytes have come
unfoldable pub with_more : Kept → List ℕ → Kept
with_more k s = record { size = min (k.size + length s) (suc longest); first = take longest (k.first ++ s) }
