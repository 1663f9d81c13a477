-- Laws of lists: going along one by its index, parts of one, and what finds room.
use Prim.Native.Nat.{ℕ, zero, suc, ◌+◌, ◌-◌, ◌≤◌, ◌<◌, min}
use mathlib.Core.Path.{◌≡◌, refl, sym, ap, ◌∙◌}
use mathlib.Core.Bool.{Bool, true, false, cond}
use mathlib.Core.List.{List, [], ◌∷◌, ◌++◌}
use native.Mathlib.Numerals.{add-one}
use native.Mathlib.Nat.{min-zero, zero-min, suc-min-suc}
use native.Mathlib.Omega.{arith}
use lib.ListN.{length, get_or, take, drop, length-drop, drop_of_length-le}
use lib.Seq.{drop-cons, take-suc, take_all, take-append-add, get_or-drop}
use Rattle.session_words.specs.Words.{between}

pub cond-true : {A : Type 0} {b : Bool} (x y : A) → b ≡ true → cond b x y ≡ x
cond-true x y e = ap (λ t. cond t x y) e

pub cond-false : {A : Type 0} {b : Bool} (x y : A) → b ≡ false → cond b x y ≡ y
cond-false x y e = ap (λ t. cond t x y) e

module _ {A : Type 0} where
  -- what is left of a list at an index below its length: the element there, and what is left after it
  pub drop_at : (s : List A) (i : ℕ) (d : A) → i < length s → drop i s ≡ get_or s i d ∷ drop (i + 1) s
  drop_at s i d h = rw (add-one, drop-cons s i d)

  pub drop_end : (s : List A) (i : ℕ) → length s ≤ i → drop i s ≡ []
  drop_end s i h = drop_of_length-le s h

  -- what finds room is not changed by what was cut off before
  pub take_again : (n : ℕ) (a b : List A) → take n (take n a ++ b) ≡ take n (a ++ b)
  take_again zero a b = refl
  take_again (suc n) [] b = refl
  take_again (suc n) (x ∷ a) b = ap {B = List A} (λ r. x ∷ r) (take_again n a b)

  -- no more is taken than there is
  pub take_least : (n : ℕ) (s : List A) → take (min (length s) n) s ≡ take n s
  take_least n [] = rw zero-min (none n)
    where
      none : (n : ℕ) → ◌≡◌ {A = List A} [] (take n [])
      none zero = refl
      none (suc n) = refl
  take_least zero (x ∷ s) = rw min-zero
  take_least (suc n) (x ∷ s) = rw suc-min-suc (ap {B = List A} (λ r. x ∷ r) (take_least n s))

  -- what finds room of two lists: all of the first, if that does, and so much of the second
  pub take_two : (n : ℕ) (a b : List A) → length a ≤ n → take n (a ++ b) ≡ a ++ take (min (length b) (n - length a)) b
  take_two n a b h =
      let e : n ≡ length a + (n - length a) = omega arith in
      ap (λ (k : ℕ). take k (a ++ b)) e
      ∙ take-append-add a b (n - length a)
      ∙ ap (λ (r : List A). a ++ r) (sym (take_least (n - length a) b))

  -- the rest of a list from an index on, as a part that goes to the end
  pub rest-is : (s : List A) (a : ℕ) → take (length s - a) (drop a s) ≡ drop a s
  rest-is s a = take_all (length s - a) (drop a s) (rw length-drop (omega arith))

-- a part of a line with one byte more
pub between_more : (s : List ℕ) (a i : ℕ) → a ≤ i → i < length s → between s a (i + 1) ≡ between s a i ++ (get_or s i 0 ∷ [])
between_more s a i h k =
    let e : i + 1 - a ≡ suc (i - a) = omega arith in
    let l : i - a < length (drop a s) = rw length-drop (omega arith) in
    let f : a + (i - a) ≡ i = omega arith in
    ap (λ n. take n (drop a s)) e
    ∙ take-suc (drop a s) (i - a) 0 l
    ∙ ap (λ x. between s a i ++ (x ∷ [])) (get_or-drop a s (i - a) 0 ∙ ap (λ n. get_or s n 0) f)
