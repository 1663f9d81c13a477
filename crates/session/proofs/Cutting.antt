-- How a file's bytes are cut into lines, some bytes at a time: bytes without a newline go to the line that has begun, and the first newline
-- ends it.
use Prim.Native.Nat.{ℕ, suc, ◌≤◌, ◌<◌}
use mathlib.Core.Path.{◌≡◌, refl, sym, ap, ◌∙◌}
use mathlib.Core.Bool.{Bool, true, false, cond}
use mathlib.Core.List.{List, [], ◌∷◌, ◌++◌, append_assoc, append-nil}
use native.Mathlib.Omega.{arith}
use lib.ListN.{length, take, drop}
use lib.Dec.{eqb}
use Rattle.byte_scan.specs.Bytes.{index_of, index_after}
use Rattle.session_words.specs.Bytes.{newline}
use Rattle.session_lines.specs.Lines.{lines_after}

-- one byte more
pub lines_byte : (s : List ℕ) (b : ℕ) (bs : List ℕ)
    → lines_after s (b ∷ bs) ≡ cond (eqb b newline) (s ∷ lines_after [] bs) (lines_after (s ++ (b ∷ [])) bs)
unfolding lines_after
lines_byte [] b bs = refl
lines_byte (a ∷ s) b bs = refl

-- bytes without a newline
pub lines_on : (s bs more : List ℕ) → length bs ≤ index_of newline bs → lines_after s (bs ++ more) ≡ lines_after (s ++ bs) more
unfolding index_of index_after
lines_on s [] more h = ap (λ x. lines_after x more) (sym (append-nil s))
lines_on s (b ∷ bs) more h = lines_byte s b (bs ++ more) ∙ byte (eqb b newline) h (lines_on (s ++ (b ∷ [])) bs more)
  where
    byte : (x : Bool) → suc (length bs) ≤ index_after x (index_of newline bs)
        → (length bs ≤ index_of newline bs → lines_after (s ++ (b ∷ [])) (bs ++ more) ≡ lines_after ((s ++ (b ∷ [])) ++ bs) more)
        → cond x (s ∷ lines_after [] (bs ++ more)) (lines_after (s ++ (b ∷ [])) (bs ++ more)) ≡ lines_after (s ++ (b ∷ bs)) more
    byte true k on = let z : ⊥ = omega arith in absurd z
    byte false k on = on (omega arith) ∙ ap (λ x. lines_after x more) (append_assoc s (b ∷ []) bs)

-- a newline among them
pub lines_end : (s bs more : List ℕ) → index_of newline bs < length bs
    → lines_after s (bs ++ more) ≡ (s ++ take (index_of newline bs) bs) ∷ lines_after [] (drop (suc (index_of newline bs)) bs ++ more)
unfolding index_of index_after
lines_end s [] more h = let z : ⊥ = omega arith in absurd z
lines_end s (b ∷ bs) more h = lines_byte s b (bs ++ more) ∙ byte (eqb b newline) h (lines_end (s ++ (b ∷ [])) bs more)
  where
    left : List ℕ
    left = drop (suc (index_of newline bs)) bs ++ more

    byte : (x : Bool) → index_after x (index_of newline bs) < suc (length bs)
        → (index_of newline bs < length bs
        → lines_after (s ++ (b ∷ [])) (bs ++ more) ≡ ((s ++ (b ∷ [])) ++ take (index_of newline bs) bs) ∷ lines_after [] left)
        → cond x (s ∷ lines_after [] (bs ++ more)) (lines_after (s ++ (b ∷ [])) (bs ++ more))
        ≡ (s ++ take (index_after x (index_of newline bs)) (b ∷ bs)) ∷ lines_after [] (drop (index_after x (index_of newline bs)) bs ++ more)
    byte true k on = ap (λ x. x ∷ lines_after [] (bs ++ more)) (sym (append-nil s))
    byte false k on =
        on (omega arith)
        ∙ ap (λ x. x ∷ lines_after [] left) (append_assoc s (b ∷ []) (take (index_of newline bs) bs))
