-- Whether two words are the same: as the library compares them, from their first bytes on, and by their lengths.
use Prim.Native.Nat.{ℕ, suc, ◌+◌, ◌<◌, ◌≤◌}
use mathlib.Core.Path.{◌≡◌, refl, ap, ◌∙◌}
use mathlib.Core.Bool.{Bool, true, false, ◌&&◌}
use mathlib.Core.List.{List, [], ◌∷◌}
use lib.ListN.{length, get_or, drop}
use lib.Dec.{eqb}
use borrow.Author.Tests.{eq-eqb, ne_eqb}
use Rattle.std.specs.Cmp.Lexicographic.{pointwise}
use Rattle.session_words.specs.Bytes.{alike}
use Rattle.session_words.proofs.Lists.{drop_at, drop_end}

pub alike_is : (s t : List ℕ) → pointwise eqb s t ≡ alike s t
unfolding alike
alike_is [] [] = refl
alike_is [] (b ∷ t) = refl
alike_is (a ∷ s) [] = refl
alike_is (a ∷ s) (b ∷ t) = ap (λ r. eqb a b && r) (alike_is s t)

pub alike_on : (s t : List ℕ) (i : ℕ) → i < length s → i < length t → get_or s i 0 ≡ get_or t i 0
    → alike (drop i s) (drop i t) ≡ alike (drop (i + 1) s) (drop (i + 1) t)
unfolding alike
alike_on s t i h k e =
    ap (λ r. alike r (drop i t)) (drop_at s i 0 h)
    ∙ ap (alike (get_or s i 0 ∷ drop (i + 1) s)) (drop_at t i 0 k)
    ∙ ap (λ x. x && alike (drop (i + 1) s) (drop (i + 1) t)) (eq-eqb _ _ e)

pub alike_off : (s t : List ℕ) (i : ℕ) → i < length s → i < length t → (get_or s i 0 ≡ get_or t i 0 → ⊥) → alike (drop i s) (drop i t) ≡ false
unfolding alike
alike_off s t i h k e =
    ap (λ r. alike r (drop i t)) (drop_at s i 0 h)
    ∙ ap (alike (get_or s i 0 ∷ drop (i + 1) s)) (drop_at t i 0 k)
    ∙ ap (λ x. x && alike (drop (i + 1) s) (drop (i + 1) t)) (ne_eqb _ _ e)

pub alike_end : (s t : List ℕ) (i : ℕ) → length s ≤ i → length t ≤ i → alike (drop i s) (drop i t) ≡ true
unfolding alike
alike_end s t i h k = ap (λ r. alike r (drop i t)) (drop_end s i h) ∙ ap (alike []) (drop_end t i k)

pub alike_lengths : (s t : List ℕ) → (length s ≡ length t → ⊥) → alike s t ≡ false
unfolding alike
alike_lengths [] [] h = absurd (h refl)
alike_lengths [] (b ∷ t) h = refl
alike_lengths (a ∷ s) [] h = refl
alike_lengths (a ∷ s) (b ∷ t) h = heads (eqb a b) (alike_lengths s t (λ e. h (ap suc e)))
  where
    heads : (x : Bool) {y : Bool} → y ≡ false → (x && y) ≡ false
    heads true e = e
    heads false e = refl
