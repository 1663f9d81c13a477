-- Single floats by their words: each case of the tests, as what the definition gives there.
use Rattle.std.proofs.Common.{◌≡◌, ℕ, ◌<◌, Bool, cond, true, false, List, length, take, drop, eqb, Some, refl, sym, ◌∙◌, arith}
use Rattle.std.specs.Float.{nan, inf}
use Rattle.std.specs.Cmp.Lexicographic.{pointwise}
use Rattle.std.proofs.lemmas.List.{length-take}
use Rattle.std.proofs.lemmas.Slice.Eq.{slice_eq-Decides}
use Rattle.std.proofs.lemmas.Bool.Decides.{Decides-eqb}
use Rattle.session_words.specs.Bytes.{bytes_of, alike}
use Rattle.session_numbers.specs.Numbers.{bits_of, decimal_of, num_of}
use Rattle.session_words.proofs.Lists.{cond-true, cond-false}
use Rattle.session_words.proofs.Runs.{alike_is, alike_lengths}

apart : (s t : List ℕ) → (s ≡ t → ⊥) → alike s t ≡ false
apart s t h = go (alike s t) (slice_eq-Decides Decides-eqb s t (alike s t) (sym (alike_is s t))).0
  where
    go : (r : Bool) → (r ≡ true → s ≡ t) → r ≡ false
    go true f = absurd (h (f refl))
    go false f = refl

-- none of the three words
module _ (s : List ℕ) (no_nan : s ≡ bytes_of "nan" → ⊥) (no_inf : s ≡ bytes_of "inf" → ⊥) (no_minus_inf : s ≡ bytes_of "-inf" → ⊥) where
  later : num_of s ≡ cond (alike (take 2 s) (bytes_of "0x")) (bits_of (drop 2 s)) (decimal_of s)
  unfolding num_of
  later = cond-false _ _ (apart s _ no_nan) ∙ cond-false _ _ (apart s _ no_inf) ∙ cond-false _ _ (apart s _ no_minus_inf)

  pub num_bits : pointwise eqb (take 2 s) (bytes_of "0x") ≡ true → bits_of (drop 2 s) ≡ num_of s
  num_bits e = sym (later ∙ cond-true _ _ (sym (alike_is _ _) ∙ e))

  pub num_decimal : pointwise eqb (take 2 s) (bytes_of "0x") ≡ false → decimal_of s ≡ num_of s
  num_decimal e = sym (later ∙ cond-false _ _ (sym (alike_is _ _) ∙ e))

-- one of the three, and a word too short for bits, by the definition's own tests
module _ (s : List ℕ) where
  pub num_nan : alike s (bytes_of "nan") ≡ true → Some nan ≡ num_of s
  unfolding num_of
  num_nan e = sym (cond-true _ _ e)

  module _ (no_nan : alike s (bytes_of "nan") ≡ false) where
    pub num_inf : alike s (bytes_of "inf") ≡ true → Some (inf false) ≡ num_of s
    unfolding num_of
    num_inf e = sym (cond-false _ _ no_nan ∙ cond-true _ _ e)

    module _ (no_inf : alike s (bytes_of "inf") ≡ false) where
      pub num_minus_inf : alike s (bytes_of "-inf") ≡ true → Some (inf true) ≡ num_of s
      unfolding num_of
      num_minus_inf e = sym (cond-false _ _ no_nan ∙ cond-false _ _ no_inf ∙ cond-true _ _ e)

      module _ (no_minus_inf : alike s (bytes_of "-inf") ≡ false) where
        pub num_short : length s < 2 → decimal_of s ≡ num_of s
        unfolding num_of
        num_short h =
            sym (cond-false _ _ no_nan ∙ cond-false _ _ no_inf ∙ cond-false _ _ no_minus_inf
            ∙ cond-false _ _ (alike_lengths (take 2 s) (bytes_of "0x") (λ e. short e)))
          where
            short : length (take 2 s) ≡ 2 → ⊥
            short e = omega (arith, length-take 2 s)
