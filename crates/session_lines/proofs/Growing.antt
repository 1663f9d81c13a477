-- What is kept of a line that grows depends on what was kept of it alone.
use Rattle.std.proofs.Common.{◌≡◌, ℕ, suc, ◌+◌, ◌≤◌, ◌<◌, min, List, [], ◌∷◌, ◌++◌, length, take, sym, ap, ◌∙◌, arith, length-take, length-append}
use Rattle.std.proofs.lemmas.List.{take-take, take-append-le, take_all, length-take-le}
use mathlib.Core.Path.{refl}
use mathlib.Core.Bool.{Bool, true, false, cond}
use lib.Dec.{leb}
use borrow.Author.Tests.{leb-true, leb-false}
use Rattle.session_words.proofs.Lists.{take_again}
use Rattle.session_lines.specs.Lines.{longest, Kept, kept_of, with_more}

same_kept : {m n : ℕ} {s t : List ℕ} → m ≡ n → s ≡ t → ◌≡◌ {A = Kept} (record { size = m; first = s }) (record { size = n; first = t })
same_kept p q i = record { size = p i; first = q i }

-- what is kept of a line by its length and its buffer
pub kept_is : (len : ℕ) (all : List ℕ) → longest ≤ length all
    → kept_of (cond (leb len longest) (take len all) (all ++ (0 ∷ []))) ≡ record { size = min len (suc longest); first = take (min len longest) all }
kept_is len all r = go (leb len longest) refl
  where
    go : (b : Bool) → leb len longest ≡ b
        → kept_of (cond b (take len all) (all ++ (0 ∷ []))) ≡ record { size = min len (suc longest); first = take (min len longest) all }
    go true t =
        let k : len ≤ longest = leb-true _ _ t in
        let n : length (take len all) ≡ len = length-take-le len all (omega (arith, k, r)) in
        let m : len ≡ min len longest = omega (arith, k) in
        same_kept (ap (λ x. min x (suc longest)) n) (take_all longest (take len all) (omega (arith, k, n)) ∙ ap (λ x. take x all) m)
    go false t =
        let k : longest < len = leb-false _ _ t in
        let n : length (all ++ (0 ∷ [])) ≡ length all + 1 = length-append all (0 ∷ []) in
        let m : longest ≡ min len longest = omega (arith, k) in
        same_kept (omega (arith, k, n, r)) (take-append-le longest all (0 ∷ []) r ∙ ap (λ x. take x all) m)

pub first_is : (len : ℕ) (all : List ℕ) → longest ≤ length all
    → take longest (cond (leb len longest) (take len all) (all ++ (0 ∷ []))) ≡ take (min len longest) all
first_is len all r = ap (λ k. k.first) (kept_is len all r)

-- of the bytes that are added as many are kept as find room after those that are kept
added : (len : ℕ) (all more : List ℕ) → take longest (take len all ++ more) ≡ take longest (take (min len longest) all ++ more)
added len all more = go (leb len longest) refl
  where
    go : (b : Bool) → leb len longest ≡ b → take longest (take len all ++ more) ≡ take longest (take (min len longest) all ++ more)
    go true t =
        let k : len ≤ longest = leb-true _ _ t in
        let m : len ≡ min len longest = omega (arith, k) in
        ap (λ x. take longest (take x all ++ more)) m
    go false t =
        let k : longest < len = leb-false _ _ t in
        let m : longest ≡ min len longest = omega (arith, k) in
        sym (take_again longest (take len all) more)
        ∙ ap (λ x. take longest (x ++ more)) (take-take longest len all (omega (arith, k)) ∙ ap (λ x. take x all) m)

-- a line of that size and length, whose buffer begins with the bytes s, as many as find room
of_size : (n len size : ℕ) (all s : List ℕ) → take longest (take n all) ≡ s → length s ≡ min size longest
    → min len (suc longest) ≡ min size (suc longest)
    → kept_of (cond (leb len longest) (take len all) (all ++ (0 ∷ []))) ≡ record { size = min size (suc longest); first = s }
of_size n len size all s e k h = go (leb len longest) refl
  where
    begins : min longest (min n (length all)) ≡ length s
    begins = sym (length-take longest (take n all) ∙ ap (min longest) (length-take n all)) ∙ ap length e

    go : (b : Bool) → leb len longest ≡ b → kept_of (cond b (take len all) (all ++ (0 ∷ []))) ≡ record { size = min size (suc longest); first = s }
    go true t =
        let l : len ≤ longest = leb-true _ _ t in
        let same : take len all ≡ s =
        sym (take-take len n all (omega (arith, l, k, h, begins)))
        ∙ sym (take-take len longest (take n all) l)
        ∙ ap (take len) e
        ∙ take_all len s (omega (arith, l, k, h)) in
        ap kept_of same ∙ same_kept (omega (arith, l, k, h)) (take_all longest s (omega (arith, l, k, h)))
    go false t =
        let l : longest < len = leb-false _ _ t in
        let more : length (all ++ (0 ∷ [])) ≡ length all + 1 = length-append all (0 ∷ []) in
        same_kept (omega (arith, l, k, h, begins, more))
        (take-append-le longest all (0 ∷ []) (omega (arith, l, k, h, begins))
        ∙ sym (take-take longest n all (omega (arith, l, k, h, begins))) ∙ e)

-- a line with more bytes: by its length and buffer before, and after
pub grown : (len len' n : ℕ) (all all' more : List ℕ) → longest ≤ length all → take longest (take n all') ≡ take longest (take len all ++ more)
    → min len' (suc longest) ≡ min (min len (suc longest) + length more) (suc longest)
    → kept_of (cond (leb len' longest) (take len' all') (all' ++ (0 ∷ [])))
    ≡ with_more (kept_of (cond (leb len longest) (take len all) (all ++ (0 ∷ [])))) more
unfolding with_more
grown len len' n all all' more within e h =
    let count : length (take longest (take (min len longest) all ++ more)) ≡ min (min len (suc longest) + length more) longest =
    simp (length-take, length-append) (omega (arith, within)) in
    of_size n len' (min len (suc longest) + length more) all' (take longest (take (min len longest) all ++ more)) (e ∙ added len all more) count h
    ∙ sym (ap (λ k. with_more k more) (kept_is len all within))
