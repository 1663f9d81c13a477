-- A line that has ended: what is found by its length and first bytes does what the line does.
use Prim.Native.Nat.{ℕ, ◌≤◌, ◌<◌}
use mathlib.Core.Path.{◌≡◌, refl, sym, ap, ap₂, ◌∙◌}
use mathlib.Core.Bool.{Bool, true, false, cond}
use mathlib.Core.List.{List, [], ◌∷◌}
use native.Mathlib.Omega.{arith}
use lib.ListN.{length, get_or, take}
use lib.Seq.{take_all}
use lib.Dec.{eqb, leb, ltb}
use borrow.Author.Tests.{leb-true, leb-false, lt-ltb, le-ltb}
use Rattle.session_words.specs.Words.{words_of}
use Rattle.session_words.proofs.Lists.{cond-true, cond-false}
use Rattle.session_lines.specs.Lines.{hash, longest, passed_over, kept, kept_of}
use Rattle.session_state.specs.declared.State.{State}
use Rattle.session_rows.specs.Calls.{only, malformed}
use Rattle.session_rows.specs.Table.{rows, row_of, row_written, line_asked}
use Rattle.session_rows.proofs.Parts.{no_call, of_line}
use Rattle.session.specs.File.{line_written}
use Rattle.session.specs.Reading.{so_far, kept_written, kind_written}
use Rattle.session.specs.declared.lines.Kind.{Kind}
use Rattle.session_lines.specs.declared.Line.{Line}

-- ---- which row a line has

-- an empty line and a comment are passed over
pub passed_empty : (held : List ℕ) → length held ≡ 0 → passed_over held ≡ true
passed_empty [] e = refl
passed_empty (b ∷ s) e = let z : ⊥ = omega arith in absurd z

pub first_byte : (held : List ℕ) → (length held ≡ 0 → ⊥) → passed_over held ≡ eqb (get_or held 0 0) hash
first_byte [] e = absurd (e refl)
first_byte (b ∷ s) e = refl

module _ (size : ℕ) (held : List ℕ) (n : ℕ) (st : State) where
  pub passed : passed_over held ≡ true → only st [] ≡ kept_written size held n st
  unfolding kept_written
  passed e = sym (cond-true _ _ e)

  module _ (e : passed_over held ≡ false) where
    pub long : longest < size → malformed n st ≡ kept_written size held n st
    unfolding kept_written
    long h = sym (cond-false _ _ e ∙ cond-true _ _ (lt-ltb longest size h))

    -- a call, by its row, and none
    pub of_row : {k : ℕ} → size ≤ longest → k ≡ row_of (words_of held) → row_written k n st (words_of held) ≡ kept_written size held n st
    unfolding kept_written
    of_row h f =
        ap (λ k. row_written k n st (words_of held)) f
        ∙ of_line n st held
        ∙ sym (cond-false _ _ e ∙ cond-false _ _ (le-ltb longest size h))

    pub of_none : size ≤ longest → rows ≡ row_of (words_of held) → malformed n st ≡ kept_written size held n st
    of_none h f = sym (no_call n st (words_of held)) ∙ of_row h f

-- ---- what it does as far as it is kept

-- the first byte tells a comment
first_tells : (s : List ℕ) → passed_over (take longest s) ≡ passed_over s
first_tells [] = refl
first_tells (b ∷ s) = refl

pub by_kept : (n : ℕ) (st : State) (s : List ℕ) → kept_written (kept_of s).size (kept_of s).first n st ≡ line_written n st s
unfolding kept_written line_written
by_kept n st s =
    ap (λ b. cond b (only st []) (cond (ltb longest (kept_of s).size) (malformed n st) (line_asked n st (kept_of s).first))) (first_tells s)
    ∙ ap (cond (passed_over s) (only st [])) (go (leb (length s) longest) refl)
  where
    go : (t : Bool) → leb (length s) longest ≡ t
        → cond (ltb longest (kept_of s).size) (malformed n st) (line_asked n st (kept_of s).first)
        ≡ cond (ltb longest (length s)) (malformed n st) (line_asked n st s)
    go true e =
        let k : length s ≤ longest = leb-true _ _ e in
        ap₂ (λ b l. cond b (malformed n st) (line_asked n st l)) (le-ltb longest (kept_of s).size (omega arith) ∙ sym (le-ltb longest (length s) k)) (take_all longest s k)
    go false e =
        let k : longest < length s = leb-false _ _ e in
        cond-true _ _ (lt-ltb longest (kept_of s).size (omega arith)) ∙ sym (cond-true _ _ (lt-ltb longest (length s) k))

-- the line that the code holds, by its kind as the code finds it
pub line_done : (n : ℕ) (st : State) (l : Line) (k : Kind) {size : ℕ} {first : List ℕ} → size ≡ (kept l).size → first ≡ (kept l).first
    → ((m : ℕ) (s : State) → kind_written k m s first ≡ kept_written size first m s) → kind_written k n st first ≡ line_written n st (so_far l)
unfolding so_far
line_done n st l k {size} {first} e f by_kind =
    by_kind n st ∙ ap₂ (λ i h. kept_written i h n st) e f ∙ by_kept n st (so_far l)
