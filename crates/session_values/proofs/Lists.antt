-- The channels of a list: the words from a place on, as far as the line has them.
use Rattle.std.proofs.Common.{◌≡◌, ℕ, zero, suc, ◌+◌, ◌-◌, ◌<◌, ◌≤◌, List, [], ◌∷◌}
use Rattle.std.proofs.Common.{map, length, get_or, take, drop, refl, sym, ap, ◌∙◌, drop-cons, add-suc, arith}
use Rattle.std.proofs.lemmas.List.{drop_all}
use native.Mathlib.Nat.{lt_of_not-le, add-zero}
use native.Mathlib.Decide.{dec_le}
use Rattle.session_values.specs.Values.{channel, CH, channels_of}

module _ (ws : List (List ℕ)) (k : ℕ) where
  -- n channels from the place k + i on
  abbrev places : ℕ → ℕ → List ℕ
  places i zero = []
  places i (suc n) = channel (get_or ws (k + i) []) ∷ places (suc i) n

  have : (n i : ℕ) → map channel (take n (drop (k + i) ws)) ≡ take (length ws - (k + i)) (places i n)
  have zero i = nothing (length ws - (k + i))
    where
      nothing : (m : ℕ) → ◌≡◌ {A = List ℕ} [] (take m [])
      nothing zero = refl
      nothing (suc m) = refl
  have (suc n) i = go (dec_le (length ws) (k + i)) (have n (suc i))
    where
      go : Dec (length ws ≤ k + i) → map channel (take n (drop (k + suc i) ws)) ≡ take (length ws - (k + suc i)) (places (suc i) n)
          → map channel (take (suc n) (drop (k + i) ws)) ≡ take (length ws - (k + i)) (places i (suc n))
      go (yes h) e =
          let none : length ws - (k + i) ≡ 0 = omega arith in
          rw (drop_all (k + i) ws h, none) refl
      go (no h) e =
          let l : k + i < length ws = lt_of_not-le h in
          let next : k + suc i ≡ suc (k + i) = add-suc k i in
          let one : length ws - (k + i) ≡ suc (length ws - suc (k + i)) = omega arith in
          rw (drop-cons ws (k + i) [] l, one) (ap (λ r. channel (get_or ws (k + i) []) ∷ r) (rw next at e))

  pub channels_are : map channel (take 8 (drop k ws)) ≡ channels_of ws k
  unfolding channels_of CH
  channels_are = ap (λ j. map channel (take 8 (drop j ws))) (sym (add-zero k)) ∙ have 8 0 ∙ rw (add-zero k) refl
