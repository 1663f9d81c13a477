-- An optional minus sign, as the code strips it from a word.
use Rattle.std.proofs.Common.{◌≡◌, ℕ, Bool, true, false, cond, ◌&&◌, List, [], ◌∷◌, take, drop, eqb, Option, None, refl, ap, sym, ◌∙◌}
use Rattle.std.specs.Prelude.{option_map, nat_eq}
use Rattle.std.specs.Cmp.Lexicographic.{pointwise}
use Rattle.session_words.specs.Bytes.{minus}
use Rattle.session_numbers.specs.Numbers.{with_sign}

-- whether a word begins with the sign
abbrev pub signed : List ℕ → Bool
signed s = pointwise nat_eq (take 1 s) (minus ∷ [])

module _ {A B : Type 0} (below plain : A → B) (read : List ℕ → Option A) where
  pub sign_minus : (s t : List ℕ) (o : Option A) → signed s ≡ true → t ≡ drop 1 s → o ≡ read t → option_map below o ≡ with_sign below plain read s
  unfolding with_sign
  sign_minus [] t o e f g = cc
  sign_minus (b ∷ s) t o e f g = ap (option_map below) (g ∙ ap read f) ∙ go (eqb b minus) e
    where
      go : (t : Bool) → (t && true) ≡ true → option_map below (read s) ≡ cond t (option_map below (read s)) (option_map plain (read (b ∷ s)))
      go true e = refl
      go false e = cc

  pub sign_plain : (s : List ℕ) (o : Option A) → signed s ≡ false → None ≡ read [] → o ≡ read s → option_map plain o ≡ with_sign below plain read s
  unfolding with_sign
  sign_plain [] o e f g = ap (option_map plain) (g ∙ sym f)
  sign_plain (b ∷ s) o e f g = ap (option_map plain) g ∙ go (eqb b minus) e
    where
      go : (t : Bool) → (t && true) ≡ false → option_map plain (read (b ∷ s)) ≡ cond t (option_map below (read s)) (option_map plain (read (b ∷ s)))
      go true e = cc
      go false e = refl
