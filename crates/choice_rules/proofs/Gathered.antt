-- The keys as `heard_keys` gathers them: after the channels below n it has the keys of those of them that pass the test.
use Prim.Native.Nat.{ℕ, zero, suc, ◌+◌}
use mathlib.Core.Path.{◌≡◌, refl, ap, ◌∙◌}
use mathlib.Core.Bool.{Bool, true, false, cond}
use mathlib.Core.List.{List, [], ◌∷◌, ◌++◌, map-append, append-nil}
use native.Mathlib.Numerals.{add-one}
use native.Mathlib.Omega.{arith}
use lib.IntN.{ℤ}
use Rattle.choice_rules.specs.Order.{from, keep}
use Rattle.choice_rules.specs.Code.{key_of, keys_of}

-- one number more
from_more : (n c : ℕ) → from (suc n) c ≡ from n c ++ ((c + n) ∷ [])
unfolding from
from_more zero c = ap (λ (d : ℕ). d ∷ []) (omega arith)
from_more (suc n) c = ap (λ (l : List ℕ). c ∷ l) (from_more n (suc c) ∙ ap (λ (d : ℕ). from n (suc c) ++ (d ∷ [])) (omega arith))

keep_append : (p : ℕ → Bool) (cs ds : List ℕ) → keep p (cs ++ ds) ≡ keep p cs ++ keep p ds
unfolding keep
keep_append p [] ds = refl
keep_append p (c ∷ cs) ds = by (p c) (keep_append p cs ds)
  where
    by : (b : Bool) → keep p (cs ++ ds) ≡ keep p cs ++ keep p ds → cond b (c ∷ keep p (cs ++ ds)) (keep p (cs ++ ds)) ≡ cond b (c ∷ keep p cs) (keep p cs) ++ keep p ds
    by true e = ap (λ (l : List ℕ). c ∷ l) e
    by false e = e

module _ (test : ℕ → Bool) (level : ℕ → ℤ) where
  -- the keys of the channels below n
  abbrev pub keys_to : ℕ → List ℕ
  keys_to n = keys_of level (keep test (from n 0))

  more : (n : ℕ) → keys_to (n + 1) ≡ keys_to n ++ keys_of level (keep test (n ∷ []))
  unfolding keys_of
  more n =
      ap (λ (k : ℕ). keys_to k) (add-one n)
      ∙ ap (λ (l : List ℕ). keys_of level (keep test l)) (from_more n 0 ∙ ap (λ (d : ℕ). from n 0 ++ (d ∷ [])) (omega arith))
      ∙ ap (keys_of level) (keep_append test (from n 0) (n ∷ []))
      ∙ map-append (λ d. key_of (level d) d) (keep test (from n 0)) (keep test (n ∷ []))

  -- before the first channel there is none, and a channel more adds its key where it passes
  pub keys_start : keys_to 0 ≡ []
  unfolding keys_of keep from
  keys_start = refl

  pub keys_same : (n : ℕ) → test n ≡ false → keys_to (n + 1) ≡ keys_to n
  unfolding keys_of keep
  keys_same n e = more n ∙ ap (λ (b : Bool). keys_to n ++ keys_of level (cond b (n ∷ []) [])) e ∙ append-nil (keys_to n)

  pub keys_new : (n : ℕ) → test n ≡ true → keys_to (n + 1) ≡ keys_to n ++ (key_of (level n) n ∷ [])
  unfolding keys_of keep
  keys_new n e = more n ∙ ap (λ (t : Bool). keys_to n ++ keys_of level (cond t (n ∷ []) [])) e
