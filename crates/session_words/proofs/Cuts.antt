-- A text cut at each byte of a kind, as a line is at its spaces and a table at its newlines: the part that begins at a place and ends where the
-- search for that byte does, and the parts after it.
use Prim.Native.Nat.{ℕ, zero, suc, ◌+◌, ◌-◌, ◌≤◌, ◌<◌}
use mathlib.Core.Path.{◌≡◌, refl, sym, ap, ap₂, ◌∙◌}
use mathlib.Core.Bool.{Bool, true, false, cond}
use mathlib.Core.List.{List, [], ◌∷◌}
use native.Mathlib.Omega.{arith}
use lib.ListN.{length, take, drop, length-drop}
use lib.Seq.{drop-drop, take-length}
use lib.Dec.{eqb, ltb, leb-suc-suc}
use borrow.Author.Tests.{lt-ltb, le-ltb, ltb-true, ltb-false}
use Rattle.std.specs.Borrow.{Bor}
use Rattle.std.specs.List.{slice_split, onto_first, slice_get}
use Rattle.std.specs.Option.{unwrap_or, option_map}
use Rattle.std.specs.Prelude.{Option, Some, None}
use Rattle.std.proofs.lemmas.Option.{unwrap_or-slice_get}
use Rattle.std.proofs.lemmas.List.Recursion.{same_from_clauses}
use Rattle.byte_scan.specs.Bytes.{index_of, index_after, slice}
use Rattle.session_words.specs.Words.{space, before, between, words_of, word_at}
use Rattle.session_words.proofs.Lists.{cond-true, cond-false}

-- what a search goes through that goes to the end
pub to_end : (i : ℕ) (s : List ℕ) → slice i (length s) s ≡ drop i s
unfolding slice
to_end i s = ap (drop i) (take-length s)

-- the parts after the one that ends at a place
abbrev pub after : (List ℕ → List (List ℕ)) → List ℕ → ℕ → List (List ℕ)
after parts s p = cond (ltb p (length s)) (parts (drop (p + 1) s)) []

module _ (parts : List ℕ → List (List ℕ)) (s : List ℕ) (p : ℕ) where
  pub some_after : p < length s → after parts s p ≡ parts (drop (p + 1) s)
  some_after h = cond-true _ _ (lt-ltb p (length s) h)

  pub none_after : p ≡ length s → after parts s p ≡ []
  none_after h = cond-false _ _ (le-ltb p (length s) (omega arith))

-- cutting at each `sep`, by its two rules
module _ (sep : ℕ) (parts : List ℕ → List (List ℕ)) (of_none : parts [] ≡ [] ∷ [])
    (of_one : (b : ℕ) (s : List ℕ) → parts (b ∷ s) ≡ cond (eqb b sep) ([] ∷ parts s) (before b (parts s))) where
  -- the first part, and the others
  abbrev cut_at : List ℕ → ℕ → List (List ℕ)
  cut_at s k = take k s ∷ cond (ltb k (length s)) (parts (drop (suc k) s)) []

  cut : (s : List ℕ) → parts s ≡ cut_at s (index_of sep s)
  unfolding index_of index_after
  cut [] = of_none
  cut (b ∷ s) = of_one b s ∙ go (eqb b sep) (cut s)
    where
      go : (t : Bool) → parts s ≡ cut_at s (index_of sep s) → cond t ([] ∷ parts s) (before b (parts s)) ≡ cut_at (b ∷ s) (index_after t (index_of sep s))
      go true e = sym (ap (λ t. [] ∷ cond t (parts s) []) (lt-ltb 0 (suc (length s)) (omega arith)))
      go false e =
          ap (before b) e
          ∙ ap (λ t. (b ∷ take (index_of sep s) s) ∷ cond t (parts (drop (suc (index_of sep s)) s)) []) (sym (leb-suc-suc (suc (index_of sep s)) (length s)))

  -- the part from i on, where the search ends at p
  pub part_at : (s : List ℕ) (i p : ℕ) → i ≤ length s → p ≡ i + index_of sep (slice i (length s) s) → parts (drop i s) ≡ between s i p ∷ after parts s p
  part_at s i p within ends =
      let found : p ≡ i + index_of sep (drop i s) = ends ∙ ap (λ r. i + index_of sep r) (to_end i s) in
      let size : index_of sep (drop i s) ≡ p - i = omega arith in
      let on : i + suc (index_of sep (drop i s)) ≡ p + 1 = omega arith in
      cut (drop i s)
      ∙ ap₂ (λ k t. take k (drop i s) ∷ t) size
      (ap₂ (λ t r. cond t (parts r) []) (test found) (drop-drop (suc (index_of sep (drop i s))) i s ∙ ap (λ k. drop k s) on))
    where
      test : p ≡ i + index_of sep (drop i s) → ltb (index_of sep (drop i s)) (length (drop i s)) ≡ ltb p (length s)
      test found = go (ltb p (length s)) refl
        where
          go : (t : Bool) → ltb p (length s) ≡ t → ltb (index_of sep (drop i s)) (length (drop i s)) ≡ t
          go true e = lt-ltb (index_of sep (drop i s)) (length (drop i s)) (rw length-drop (omega (arith, ltb-true p (length s) e)))
          go false e = le-ltb (index_of sep (drop i s)) (length (drop i s)) (rw length-drop (omega (arith, ltb-false p (length s) e)))

-- ---- the words of a line

-- they are the parts that the library splits it into
pub words_are : (s : List ℕ) → slice_split (λ b. eqb b space) s ≡ words_of s
unfolding words_of
words_are = same_from_clauses (slice_split (λ b. eqb b space)) words_of (λ b ws. cond (eqb b space) ([] ∷ ws) (before b ws)) refl step (λ _ _. refl)
  where
    onto : (b : ℕ) (ws : List (List ℕ)) → onto_first b ws ≡ before b ws
    onto b [] = refl
    onto b (w ∷ ws) = refl

    step : (b : ℕ) (s : List ℕ)
        → slice_split (λ b. eqb b space) (b ∷ s)
        ≡ cond (eqb b space) ([] ∷ slice_split (λ b. eqb b space) s) (before b (slice_split (λ b. eqb b space) s))
    step b s = ap (cond (eqb b space) ([] ∷ slice_split (λ b. eqb b space) s)) (onto b (slice_split (λ b. eqb b space) s))

-- a word that the library picks of them, or else the empty one
pub picked : (s : List ℕ) (k : ℕ) (r : Option (Bor (List ℕ))) (none : Bor (List ℕ)) → none.now ≡ []
    → option_map (λ (x : Bor (List ℕ)). x.now) r ≡ slice_get (slice_split (λ b. eqb b space) s) k → (unwrap_or r none).now ≡ word_at (words_of s) k
picked s k r none e h =
    now r
    ∙ ap₂ unwrap_or (h ∙ ap (λ ws. slice_get ws k) (words_are s)) e
    ∙ unwrap_or-slice_get (words_of s) k []
  where
    now : (r : Option (Bor (List ℕ))) → (unwrap_or r none).now ≡ unwrap_or (option_map (λ (x : Bor (List ℕ)). x.now) r) none.now
    now None = refl
    now (Some x) = refl

words_none : words_of [] ≡ [] ∷ []
unfolding words_of
words_none = refl

words_of_lem : (b : ℕ) (s : List ℕ) → words_of (b ∷ s) ≡ cond (eqb b space) ([] ∷ words_of s) (before b (words_of s))
unfolding words_of
words_of_lem b s = refl

module _ (s : List ℕ) {i p : ℕ} (within : i ≤ length s) (ends : p ≡ i + index_of space (slice i (length s) s)) where
  pub word_at_lem : words_of (drop i s) ≡ between s i p ∷ after words_of s p
  word_at_lem = part_at space words_of words_none words_of_lem s i p within ends

  pub last_word : p ≡ length s → words_of (drop i s) ≡ between s i p ∷ []
  last_word e = word_at_lem ∙ ap (λ r. between s i p ∷ r) (none_after words_of s p e)

  pub next_word : p < length s → words_of (drop i s) ≡ between s i p ∷ words_of (drop (p + 1) s)
  next_word h = word_at_lem ∙ ap (λ r. between s i p ∷ r) (some_after words_of s p h)

-- a line has a word, if only an empty one
pub some_words : (s : List ℕ) → 0 < length (words_of s)
some_words s = omega (arith, ap length (word_at_lem s {i = 0} {p = 0 + index_of space (slice 0 (length s) s)} (omega arith) refl))

-- a word after the first
pub later_word : (w : List ℕ) (ws : List (List ℕ)) (n : ℕ) → 0 < n → word_at (w ∷ ws) n ≡ word_at ws (n - 1)
later_word w ws zero h = let z : ⊥ = omega arith in absurd z
later_word w ws (suc n) h = let e : n ≡ suc n - 1 = omega arith in ap (word_at ws) e
