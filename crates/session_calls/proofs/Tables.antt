-- A table of calls by the numbers of its rows, where it stands in parts.
use Prim.Native.Nat.{ℕ, zero, suc, ◌+◌, ◌-◌, ◌≤◌, ◌<◌}
use Rattle.std.specs.Prelude.{Some, None, unwrap_or, position}
use Rattle.std.specs.List.{position_or_len}
use Rattle.std.proofs.lemmas.List.Recursion.{is_position_or_len}
use Rattle.std.proofs.lemmas.List.Sums.{prefix_len-le-length}
use lib.Dec.{ltb}
use borrow.Author.Tests.{ltb-false}
use mathlib.Core.Path.{◌≡◌, refl, sym, ap, ◌∙◌}
use mathlib.Core.Bool.{Bool, true, false, cond, not}
use mathlib.Core.List.{List, [], ◌∷◌, ◌++◌, map}
use native.Mathlib.Omega.{arith}
use lib.ListN.{length}
use Rattle.session_words.specs.Words.{words_of}
use Rattle.session_calls.specs.Grammar.{fits, first_fit}
use Rattle.session_calls.specs.Table.{Row, ◌asks◌, turned, text_of, first_of, row_at}

-- a line has one of the rows, or none
pub first_most : {A : Type 0} (ws : List (List ℕ)) (rows : List (Row A)) → first_fit (map text_of rows) ws ≤ length rows
unfolding first_fit
first_most ws [] = omega arith
first_most ws ((text asks call) ∷ rows) = go (fits (words_of (text_of (text asks call))) ws) (first_most ws rows)
  where
    go : (t : Bool) → first_fit (map text_of rows) ws ≤ length rows → cond t 0 (suc (first_fit (map text_of rows) ws)) ≤ suc (length rows)
    go true h = omega arith
    go false h = omega arith

-- the number of the first row that a line has, as the library looks for it; where it has none, the number of rows
pub first_is : (ws : List (List ℕ)) (rows : List (List ℕ)) → unwrap_or (position (λ row. fits (words_of row) ws) rows) (length rows) ≡ first_fit rows ws
unfolding first_fit
first_is ws rows = go (ltb at (length rows)) refl ∙ sym (is_position_or_len (λ r. first_fit r ws) has refl (λ row r. after (has row) (first_fit r ws)) rows)
  where
    has : List ℕ → Bool
    has row = fits (words_of row) ws

    at : ℕ
    at = position_or_len has rows

    after : (t : Bool) (n : ℕ) → cond t 0 (suc n) ≡ cond t 0 (1 + n)
    after true n = refl
    after false n = omega arith

    go : (t : Bool) → ltb at (length rows) ≡ t → unwrap_or (cond t (Some at) None) (length rows) ≡ at
    go true h = refl
    go false h = omega (arith, ltb-false at (length rows) h, prefix_len-le-length (λ row. not (has row)) rows)

module _ {A : Type 0} (otherwise : A) (ws : List (List ℕ)) where
  -- the first row that a line has, by its number
  pub by_number : (rows : List (Row A)) → row_at rows otherwise (first_fit (map text_of rows) ws) ws ≡ first_of rows otherwise ws
  unfolding first_fit first_of
  by_number [] = refl
  by_number ((text asks call) ∷ rows) = go (fits (words_of (text_of (text asks call))) ws) (by_number rows)
    where
      go : (t : Bool) → row_at rows otherwise (first_fit (map text_of rows) ws) ws ≡ first_of rows otherwise ws
          → row_at ((text asks call) ∷ rows) otherwise (cond t 0 (suc (first_fit (map text_of rows) ws))) ws ≡ cond t (call ws) (first_of rows otherwise ws)
      go true e = refl
      go false e = e

  -- a row of the first part
  pub in_part : (part rest : List (Row A)) (k : ℕ) (any : A) → k < length part → row_at part any k ws ≡ row_at (part ++ rest) otherwise k ws
  in_part [] rest k any h = let z : ⊥ = omega arith in absurd z
  in_part ((text asks call) ∷ part) rest zero any h = refl
  in_part ((text asks call) ∷ part) rest (suc k) any h = in_part part rest k any (omega arith)

  -- a row after it
  pub past_part : (part rest : List (Row A)) (k : ℕ) → length part ≤ k → row_at rest otherwise (k - length part) ws ≡ row_at (part ++ rest) otherwise k ws
  past_part [] rest k h = let e : k - 0 ≡ k = omega arith in ap (λ j. row_at rest otherwise j ws) e
  past_part ((text asks call) ∷ part) rest zero h = let z : ⊥ = omega arith in absurd z
  past_part ((text asks call) ∷ part) rest (suc k) h =
      let e : suc k - suc (length part) ≡ k - length part = omega arith in
      ap (λ j. row_at rest otherwise j ws) e ∙ past_part part rest k (omega arith)

  -- beyond the last row
  pub beyond : (rows : List (Row A)) (k : ℕ) → length rows ≤ k → otherwise ≡ row_at rows otherwise k ws
  beyond [] k h = refl
  beyond ((text asks call) ∷ rows) zero h = let z : ⊥ = omega arith in absurd z
  beyond ((text asks call) ∷ rows) (suc k) h = beyond rows k (omega arith)

-- a row of a part that asks for something of its own
pub at_turned : {A B : Type 0} (f : A → B) (rows : List (Row A)) (some : A) (any : B) (k : ℕ) (ws : List (List ℕ)) → k < length rows
    → f (row_at rows some k ws) ≡ row_at (map (turned f) rows) any k ws
at_turned f [] some any k ws h = let z : ⊥ = omega arith in absurd z
at_turned f ((text asks call) ∷ rows) some any zero ws h = refl
at_turned f ((text asks call) ∷ rows) some any (suc k) ws h = at_turned f rows some any k ws (omega arith)

-- a number that is none of those below k, as the last arm of a match is told it
abbrev pub Past : ℕ → ℕ → Type 0
Past zero n = Unit
Past (suc k) n = Past k n × (n ≡ k → ⊥)

pub past : (k n : ℕ) → Past k n → k ≤ n
past zero n p = omega arith
past (suc k) n p = omega (arith, past k n p.0, p.1)
