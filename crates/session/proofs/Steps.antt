-- One step of reading: bytes without a newline only go to the line that has begun; with a newline they end it, and it is answered.
use Prim.Native.Nat.{ℕ, suc, ◌+◌, ◌-◌, ◌≤◌, ◌<◌, ◌^◌}
use mathlib.Core.Path.{◌≡◌, refl, sym, ap, ap₂, ◌∙◌}
use mathlib.Core.List.{List, [], ◌∷◌, ◌++◌, append-nil}
use native.Mathlib.Omega.{arith}
use lib.ListN.{length, take, drop, drop_of_length-le}
use mir.Syntax.{w64}
use mir.Val.{Fits}
use Rattle.byte_scan.specs.Bytes.{index_of}
use Rattle.session_words.specs.Bytes.{newline}
use Rattle.session_lines.specs.Lines.{lines_after, kept_of, kept, with_more}
use Rattle.session_lines.specs.declared.Line.{Line}
use Rattle.session_state.specs.declared.State.{State}
use Rattle.session.specs.declared.blocks.Session.{Session}
use Rattle.session_state.specs.State.{begins}
use Rattle.session.specs.File.{line_written, following, answers_from, answers_of}
use Rattle.session.specs.Reading.{so_far, to_write, Unread, GoesOn}
use Rattle.session.proofs.Cutting.{lines_on, lines_end}
use Rattle.session.proofs.Kept.{kept_so_far, kept_more, line_kept, answers_kept}

-- the greatest number of a line
pub number_stays : (n : ℕ) → n ≡ 2 ^ 64 - 1 → n ≡ following n
unfolding following
number_stays n e = omega arith

pub number_grows : (n : ℕ) → Fits w64 n → (n ≡ 2 ^ 64 - 1 → ⊥) → n + 1 ≡ following n
unfolding following
number_grows n f e = omega (arith, f, e)

-- a line with more bytes, in the code and as bytes
more_kept : (l m : Line) (bs : List ℕ) → kept m ≡ with_more (kept l) bs
    → kept_of (so_far m) ≡ kept_of (so_far l ++ bs)
more_kept l m bs e =
    kept_so_far m ∙ e ∙ ap (λ x. with_more x bs) (sym (kept_so_far l)) ∙ sym (kept_more (so_far l) bs)

-- a session with a blank line has what follows to write
pub blank_writes : (s : Session) (bs : List ℕ) → kept s.line ≡ kept_of []
    → to_write s bs ≡ answers_from s.number s.state (lines_after [] bs)
unfolding to_write
blank_writes s bs e = answers_kept s.number s.state (so_far s.line) [] bs (kept_so_far s.line ∙ e)

pub unread : (s : Session) → kept s.line ≡ kept_of [] → s.number ≡ 1 → s.state ≡ begins → Unread s
unfolding answers_of
unread s e n b bs = blank_writes s bs e ∙ ap₂ (λ x y. answers_from x y (lines_after [] bs)) n b

-- no newline
pub goes_on : (s t : Session) (bs text : List ℕ) (k : ℕ) → text ≡ []
    → kept t.line ≡ with_more (kept s.line) bs → t.state ≡ s.state → t.number ≡ s.number
    → length bs ≤ index_of newline bs → length bs ≤ k → GoesOn s bs text t (drop k bs)
unfolding to_write
goes_on s t bs text k w e a n p q more =
    ap (answers_from s.number s.state) (lines_on (so_far s.line) bs more p)
    ∙ answers_kept s.number s.state (so_far s.line ++ bs) (so_far t.line) more (sym (more_kept s.line t.line bs e))
    ∙ ap₂ (λ x y. answers_from x y (lines_after (so_far t.line) more)) (sym n) (sym a)
    ∙ ap (λ x. answers_from t.number t.state (lines_after (so_far t.line) (x ++ more))) (sym (drop_of_length-le bs q))
    ∙ ap (λ x. x ++ answers_from t.number t.state (lines_after (so_far t.line) (drop k bs ++ more))) (sym w)

-- a newline: the line m is answered
pub ends : (s t : Session) (m : Line) (bs text : List ℕ) (k : ℕ) → text ≡ (line_written s.number s.state (so_far m)).text → k ≡ suc (index_of newline bs)
    → kept m ≡ with_more (kept s.line) (take (index_of newline bs) bs) → kept t.line ≡ kept_of []
    → t.state ≡ (line_written s.number s.state (so_far m)).state → t.number ≡ following s.number
    → index_of newline bs < length bs → GoesOn s bs text t (drop k bs)
unfolding answers_from to_write
ends s t m bs text k w q e b a n p more =
    ap (answers_from s.number s.state) (lines_end (so_far s.line) bs more p)
    ∙ ap (λ w. w.text ++ answers_from (following s.number) w.state (lines_after [] left))
    (line_kept s.number s.state (so_far s.line ++ take (index_of newline bs) bs) (so_far m) (sym (more_kept s.line m _ e)))
    ∙ ap (λ x. (line_written s.number s.state (so_far m)).text ++ x)
    (ap₂ (λ x y. answers_from x y (lines_after [] left)) (sym n) (sym a) ∙ sym (blank_writes t left b))
    ∙ ap₂ (λ x y. x ++ to_write t (drop y bs ++ more)) (sym w) (sym q)
  where
    left : List ℕ
    left = drop (suc (index_of newline bs)) bs ++ more

-- the end of the file ends the line that has begun, if there is one; an empty line writes nothing
last_line : (n : ℕ) (st : State) (l : List ℕ) → (line_written n st l).text ≡ answers_from n st (lines_after l [])
unfolding answers_from lines_after line_written
last_line n st [] = refl
last_line n st (a ∷ l) = sym (append-nil (line_written n st (a ∷ l)).text)

pub finishes : (s : Session) → (line_written s.number s.state (so_far s.line)).text ≡ to_write s []
unfolding to_write
finishes s = last_line s.number s.state (so_far s.line)
