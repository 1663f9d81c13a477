-- Going along the words that an iterator has left: the next one and those after it, or none.
use Rattle.std.proofs.Common.{◌≡◌, ℕ, List, [], ◌∷◌, Option, None, Some, refl, ap, sym}
use Rattle.std.specs.Borrow.{Bor}
use Rattle.session_calls.specs.Code.{WordsOf}

module _ {S : Type 0} (steps : S → Option (Bor (List ℕ)) → S → Type 0) where
  -- a word comes first, and the iterator is left with the others
  pub record Next (t : S) (w : List ℕ) (ws : List (List ℕ)) : Type 0 where
    pub rest : List (List ℕ)
    pub is : ws ≡ w ∷ rest
    pub left : WordsOf steps t rest

  pub ended : (s t : S) (ws : List (List ℕ)) → WordsOf steps s ws → steps s None t → ws ≡ []
  ended s t [] h g = refl
  ended s t (w ∷ ws) h g = absurd (h.0 t g)

  pub took : (s t : S) (ws : List (List ℕ)) (x : Bor (List ℕ)) → WordsOf steps s ws → steps s (Some x) t → Next t x.now ws
  took s t [] x h g = absurd (h x t g)
  took s t (w ∷ ws) x h g =
      let k = h.1 x t g in
      record { rest = ws; is = ap (λ y. y ∷ ws) (sym k.0); left = k.1 }
