-- What is kept of a line that has begun is all that its answer depends on: whatever bytes follow, two lines of which the same is kept write
-- the same.
use Prim.Native.Nat.{ℕ, suc, ◌+◌, ◌≤◌, ◌<◌, min}
use mathlib.Core.Path.{◌≡◌, refl, sym, ap, ◌∙◌}
use mathlib.Core.Bool.{Bool, true, false, cond}
use mathlib.Core.List.{List, [], ◌∷◌, ◌++◌}
use native.Mathlib.Omega.{arith}
use lib.ListN.{length, take, length-append}
use lib.Seq.{take_all}
use lib.Dec.{eqb, leb}
use borrow.Author.Tests.{leb-true, leb-false, lt-ltb}
use Rattle.session_words.proofs.Lists.{take_again, cond-true}
use Rattle.session_words.specs.Bytes.{newline}
use Rattle.session_lines.specs.Lines.{longest, passed_over, lines_after, Kept, kept_of, kept, with_more}
use Rattle.session_lines.specs.declared.Line.{Line}
use Rattle.session_state.specs.declared.State.{State}
use Rattle.session_answers.specs.Lines.{error_line}
use Rattle.session_rows.specs.Calls.{only}
use Rattle.session.specs.File.{line_written, following, answers_from}
use Rattle.session.specs.Reading.{so_far}
use Rattle.session.proofs.Cutting.{lines_byte}

same_kept : {m n : ℕ} {s t : List ℕ} → m ≡ n → s ≡ t → ◌≡◌ {A = Kept} (record { size = m; first = s }) (record { size = n; first = t })
same_kept p q i = record { size = p i; first = q i }

-- of the line that the code holds
pub kept_so_far : (l : Line) → kept_of (so_far l) ≡ kept l
unfolding so_far
kept_so_far l = refl

-- of a line with more bytes
pub kept_more : (s bs : List ℕ) → kept_of (s ++ bs) ≡ with_more (kept_of s) bs
unfolding with_more
kept_more s bs =
    let n : length (s ++ bs) ≡ length s + length bs = length-append s bs in
    same_kept (omega arith) (sym (take_again longest s bs))

-- a line that is too long is a comment or none of the calls, by its first byte
first_byte : (s : List ℕ) → passed_over s ≡ passed_over (take longest s)
first_byte [] = refl
first_byte (b ∷ s) = refl

too_long : (n : ℕ) (st : State) (s : List ℕ) → longest < length s
    → line_written n st s ≡ cond (passed_over (take longest s)) (only st []) (only st (error_line n))
unfolding line_written
too_long n st s h =
    ap (cond (passed_over s) (only st [])) (cond-true _ _ (lt-ltb longest (length s) h))
    ∙ ap (λ x. cond x (only st []) (only st (error_line n))) (first_byte s)

-- of one line
pub line_kept : (n : ℕ) (st : State) (s t : List ℕ) → kept_of s ≡ kept_of t → line_written n st s ≡ line_written n st t
line_kept n st s t h = short (leb (length s) longest) refl
  where
    sizes : min (length s) (suc longest) ≡ min (length t) (suc longest)
    sizes = ap (λ k. k.size) h

    firsts : take longest s ≡ take longest t
    firsts = ap (λ k. k.first) h

    short : (x : Bool) → leb (length s) longest ≡ x → line_written n st s ≡ line_written n st t
    short true e =
        let k : length s ≤ longest = leb-true _ _ e in
        ap (line_written n st) (sym (take_all longest s k) ∙ firsts ∙ take_all longest t (omega (arith, sizes, k)))
    short false e =
        let k : longest < length s = leb-false _ _ e in
        too_long n st s k
        ∙ ap (λ x. cond (passed_over x) (only st []) (only st (error_line n))) firsts
        ∙ sym (too_long n st t (omega (arith, sizes, k)))

-- of the lines that follow
pub answers_kept : (n : ℕ) (st : State) (s t bs : List ℕ) → kept_of s ≡ kept_of t
    → answers_from n st (lines_after s bs) ≡ answers_from n st (lines_after t bs)
unfolding answers_from lines_after
answers_kept n st [] [] [] h = refl
answers_kept n st [] (b ∷ t) [] h = let z : 0 ≡ min (suc (length t)) (suc longest) = ap (λ k. k.size) h in let y : ⊥ = omega arith in absurd y
answers_kept n st (a ∷ s) [] [] h = let z : min (suc (length s)) (suc longest) ≡ 0 = ap (λ k. k.size) h in let y : ⊥ = omega arith in absurd y
answers_kept n st (a ∷ s) (b ∷ t) [] h = ap (λ w. w.text ++ []) (line_kept n st (a ∷ s) (b ∷ t) h)
answers_kept n st s t (b ∷ bs) h =
    ap (answers_from n st) (lines_byte s b bs)
    ∙ byte (eqb b newline) (answers_kept n st (s ++ (b ∷ [])) (t ++ (b ∷ [])) bs (kept_more s (b ∷ []) ∙ ap (λ k. with_more k (b ∷ [])) h
    ∙ sym (kept_more t (b ∷ []))))
    ∙ sym (ap (answers_from n st) (lines_byte t b bs))
  where
    byte : (x : Bool) → answers_from n st (lines_after (s ++ (b ∷ [])) bs) ≡ answers_from n st (lines_after (t ++ (b ∷ [])) bs)
        → answers_from n st (cond x (s ∷ lines_after [] bs) (lines_after (s ++ (b ∷ [])) bs))
        ≡ answers_from n st (cond x (t ∷ lines_after [] bs) (lines_after (t ++ (b ∷ [])) bs))
    byte true e = ap (λ w. w.text ++ answers_from (following n) w.state (lines_after [] bs)) (line_kept n st s t h)
    byte false e = e
