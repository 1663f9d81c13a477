-- What is left of a row and of a line's words: the row's next word, and the next of the line's.
use Rattle.std.proofs.Common.{◌≡◌, ℕ, Bool, true, false, not, ◌&&◌, List, [], ◌∷◌, Option, None, Some, refl, ap, sym, ◌∙◌}
use Rattle.std.specs.Prelude.{is_some, MatchOption}
use Rattle.std.specs.Borrow.{Bor}
use Rattle.session_words.specs.Bytes.{alike}
use Rattle.session_calls.specs.Grammar.{many, channels_up_to, fits_word, fits}
use Rattle.session_calls.specs.Code.{WordsOf}
use Rattle.session_calls.proofs.Going.{ended, took}

-- what a test says of a word, as another says it
pub said_as : {A : Type 0} (r : Option A) (P : Type 0) (Q R : A → Type 0) → ((x : A) → Q x → R x) → MatchOption r P Q → MatchOption r P R
said_as None P Q R f e = e
said_as (Some x) P Q R f e = f x e

module _ (asked : List ℕ) (rest : List (List ℕ)) where
  pub many_here : (ws : List (List ℕ)) → alike asked many ≡ true → channels_up_to 8 ws ≡ fits (asked ∷ rest) ws
  unfolding fits channels_up_to
  many_here [] e = sym e
  many_here (w ∷ ws) e = rw e refl

  module _ (one : alike asked many ≡ false) where
    word_here : (w : List ℕ) (ws : List (List ℕ)) → fits (asked ∷ rest) (w ∷ ws) ≡ (fits_word asked w && fits rest ws)
    unfolding fits
    word_here w ws = rw one refl

    none_here : fits (asked ∷ rest) [] ≡ false
    unfolding fits
    none_here = one

    module _ {S : Type 0} (steps : S → Option (Bor (List ℕ)) → S → Type 0) (s t : S) where
      -- no word, or one that does not fit
      pub fails : (r : Option (Bor (List ℕ))) (b : Bool) (ws : List (List ℕ)) → WordsOf steps s ws → steps s r t
          → MatchOption r (b ≡ false) (λ x. b ≡ fits_word asked x.now) → b ≡ false → false ≡ fits (asked ∷ rest) ws
      fails None b ws w g e f = sym (ap (fits (asked ∷ rest)) (ended steps s t ws w g) ∙ none_here)
      fails (Some x) b ws w g e f =
          let n = took steps s t ws x w g in
          sym (ap (fits (asked ∷ rest)) n.is ∙ word_here x.now n.rest ∙ ap (λ b. b && fits rest n.rest) (sym e ∙ f))

      -- a word that fits, and those after it
      pub goes_on : (r : Option (Bor (List ℕ))) (b : Bool) (ws : List (List ℕ)) → WordsOf steps s ws → steps s r t
          → MatchOption r (b ≡ false) (λ x. b ≡ fits_word asked x.now) → b ≡ true
          → (vs : List (List ℕ)) × WordsOf steps t vs × (fits (asked ∷ rest) ws ≡ fits rest vs)
      goes_on None b ws w g e f = let z : ◌≡◌ {A = Bool} true false = sym f ∙ e in cc
      goes_on (Some x) b ws w g e f =
          let n = took steps s t ws x w g in
          (n.rest, n.left, ap (fits (asked ∷ rest)) n.is ∙ word_here x.now n.rest ∙ ap (λ b. b && fits rest n.rest) (sym e ∙ f))

-- after the row's last word
pub at_end : {S : Type 0} (steps : S → Option (Bor (List ℕ)) → S → Type 0) (s t : S) (r : Option (Bor (List ℕ))) (b : Bool) (ws : List (List ℕ))
    → WordsOf steps s ws → steps s r t → is_some r ≡ not b → b ≡ fits [] ws
unfolding fits
at_end steps s t None b ws w g e = go b e ∙ ap (fits []) (sym (ended steps s t ws w g))
  where
    go : (b : Bool) → false ≡ not b → b ≡ true
    go true e = refl
    go false e = e
at_end steps s t (Some x) b ws w g e =
    let n = took steps s t ws x w g in
    go b e ∙ ap (fits []) (sym n.is)
  where
    go : (b : Bool) → true ≡ not b → b ≡ false
    go true e = cc
    go false e = refl
