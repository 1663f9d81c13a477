-- A line's words and a table's rows are the parts that the library splits their texts into.
use Rattle.std.proofs.Common.{◌≡◌, ℕ, Bool, false, cond, List, [], ◌∷◌, ◌==◌, eqb, refl, ap}
use mathlib.Core.Path.{subst}
use denote.Param.Members.{Mut}
use Rattle.std.specs.Borrow.{Bor}
use Rattle.std.specs.Fn.{CalledAt}
use Rattle.std.specs.Slice.Iter as slice
use Rattle.std.specs.declared.slice.Split.{Split}
use Rattle.std.specs.List.{slice_split, onto_first}
use Rattle.std.proofs.lemmas.Iterator.Splits.{YieldsList-from_slice_split}
use Rattle.std.proofs.lemmas.List.Recursion.{same_from_clauses}
use Rattle.session_words.specs.Bytes.{newline}
use Rattle.session_words.specs.Words.{space, before, words_of}
use Rattle.session_words.proofs.Cuts.{words_are}
use Rattle.session_calls.specs.Grammar.{rows_of}
use Rattle.session_calls.specs.Code.{WordsOf}

pub words_split : {F : Type 0} (g : Mut F (Bor ℕ × Unit {0}) Bool) (s : Split ℕ F) (f : F) (text : List ℕ)
    → slice.split_rest s ≡ text → slice.split_done s ≡ false → slice.split_callee s ≡ f
    → ((x : ℕ) (b : Bool) (q : F) → CalledAt g f x b q → (q ≡ f) × (b ≡ (x == space))) → WordsOf (slice.split_steps g) s (words_of text)
words_split g s f text rest done callee k =
    subst (λ ws. WordsOf (slice.split_steps g) s ws) (words_are text) (YieldsList-from_slice_split g (λ b. b == space) text rest done callee k).runs

pub rows_are : (s : List ℕ) → slice_split (λ b. eqb b newline) s ≡ rows_of s
unfolding rows_of
rows_are = same_from_clauses (slice_split (λ b. eqb b newline)) rows_of (λ b rows. cond (eqb b newline) ([] ∷ rows) (before b rows)) refl step (λ _ _. refl)
  where
    onto : (b : ℕ) (rows : List (List ℕ)) → onto_first b rows ≡ before b rows
    onto b [] = refl
    onto b (row ∷ rows) = refl

    step : (b : ℕ) (s : List ℕ)
        → slice_split (λ b. eqb b newline) (b ∷ s)
        ≡ cond (eqb b newline) ([] ∷ slice_split (λ b. eqb b newline) s) (before b (slice_split (λ b. eqb b newline) s))
    step b s = ap (cond (eqb b newline) ([] ∷ slice_split (λ b. eqb b newline) s)) (onto b (slice_split (λ b. eqb b newline) s))
