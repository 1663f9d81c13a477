-- The place of a byte in a part: by the library's word for a first place, the part as the code takes it, and by the part's first byte.
use Rattle.std.proofs.Common.{◌≡◌, ℕ, suc, ◌+◌, ◌-◌, ◌<◌, ◌≤◌, ◌==◌, Bool, true, false, cond, List, [], length, get_or, take, drop, min}
use Rattle.std.proofs.Common.{Option, Some, None, refl, sym, ap, ◌∙◌, ltb, ltb-false, not, add-one, arith, inl, inr}
use Rattle.std.specs.List.{position_or_len}
use Rattle.std.specs.Option.{unwrap_or}
use Rattle.std.specs.Slice.{IsGetRangeResult}
use Rattle.std.specs.Borrow.{Bor}
use Rattle.std.proofs.Math.Seq.{slice-cons, slice_empty}
use Rattle.std.proofs.lemmas.List.{length-take, take_min, drop_all, drop-take}
use Rattle.std.proofs.lemmas.List.Recursion.{is_position_or_len}
use Rattle.std.proofs.lemmas.List.Sums.{prefix_len-le-length}
use borrow.Author.Tests.{eq-eqb, ne_eqb}
use Rattle.byte_scan.specs.Bytes.{index_of, index_after, slice}

-- the place of a byte is that of the first one that is equal
pub index_is : (b : ℕ) (xs : List ℕ) → index_of b xs ≡ position_or_len (λ x. x == b) xs
unfolding index_of index_after
index_is b = is_position_or_len (index_of b) (λ x. x == b) refl (λ x xs. after (x == b) (index_of b xs))
  where
    after : (t : Bool) (n : ℕ) → index_after t n ≡ cond t 0 (1 + n)
    after true n = refl
    after false n = omega arith

-- what the search of the library finds, or else the length
pub found : (b : ℕ) (xs : List ℕ) (r : Option ℕ)
    → r ≡ cond (ltb (position_or_len (λ x. x == b) xs) (length xs)) (Some (position_or_len (λ x. x == b) xs)) None
    → unwrap_or r (length xs) ≡ index_of b xs
found b xs r e = ap (λ o. unwrap_or o (length xs)) e ∙ go (ltb at (length xs)) refl ∙ sym (index_is b xs)
  where
    at : ℕ
    at = position_or_len (λ x. x == b) xs

    go : (t : Bool) → ltb at (length xs) ≡ t → unwrap_or (cond t (Some at) None) (length xs) ≡ at
    go true h = refl
    go false h = omega (arith, ltb-false at (length xs) h, prefix_len-le-length (λ x. not (x == b)) xs)

-- a part ends where the slice does, and one that is none is empty
pub part_is : (s : List ℕ) (from to end : ℕ) (r : Option (Bor (List ℕ))) (none : Bor (List ℕ)) → end ≡ min to (length s) → IsGetRangeResult s from end r
    → none.now ≡ [] → (unwrap_or r none).now ≡ slice from to s
unfolding slice
part_is s from to end None none is gets e =
    let past : length (take to s) ≤ from = elim gets.0 [ inl h ↦ simp length-take (omega arith) | inr h ↦ simp length-take (omega arith) ] in
    e ∙ sym (drop_all from (take to s) past)
part_is s from to end (Some x) none is gets e =
    let cut : take end s ≡ take to s = ap (λ n. take n s) is ∙ take_min to s in
    let whole : from + (end - from) ≡ end = omega arith in
    gets.0.2
    ∙ sym (drop-take from (end - from) s)
    ∙ ap (λ n. drop from (take n s)) whole
    ∙ ap (drop from) cut

-- ---- by the part's first byte

-- the part of no bytes
pub index_none : (s : List ℕ) (b to : ℕ) → index_of b (slice to to s) ≡ 0
unfolding index_of slice
index_none s b to = ap (index_of b) (slice_empty to s)

-- a part ends where the slice does
module _ (s : List ℕ) (b i to end : ℕ) (is : end ≡ min to (length s)) where
  pub index_cut : index_of b (slice i to s) ≡ index_of b (slice i end s)
  unfolding slice
  index_cut = ap (λ t. index_of b (drop i t)) (sym (ap (λ n. take n s) is ∙ take_min to s))

  -- and has no bytes from there on
  pub index_past : end ≤ i → index_of b (slice i to s) ≡ 0
  unfolding index_of slice
  index_past h = ap (index_of b) (drop_all i (take to s) (simp length-take (omega arith)))

module _ (s : List ℕ) (b i to : ℕ) (h : i < to) (k : to ≤ length s) where
  first : index_of b (slice i to s) ≡ index_after (get_or s i 0 == b) (index_of b (slice (i + 1) to s))
  unfolding index_of slice
  first = ap (index_of b) (slice-cons i to s 0 h k) ∙ ap (λ j. index_after (get_or s i 0 == b) (index_of b (drop j (take to s)))) (sym (add-one i))

  -- the first byte is the one
  pub index_here : get_or s i 0 ≡ b → index_of b (slice i to s) ≡ 0
  unfolding index_after
  index_here e = first ∙ ap (λ t. index_after t (index_of b (slice (i + 1) to s))) (eq-eqb _ _ e)

  -- it is another: the place is one further than in the rest
  pub index_on : (get_or s i 0 ≡ b → ⊥) → index_of b (slice i to s) ≡ suc (index_of b (slice (i + 1) to s))
  unfolding index_after
  index_on e = first ∙ ap (λ t. index_after t (index_of b (slice (i + 1) to s))) (ne_eqb _ _ e)
