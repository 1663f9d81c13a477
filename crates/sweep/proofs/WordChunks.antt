-- The levels of a record by the words of its maps, as `chunks_exact` gives them.
use Rattle.std.proofs.Common.{ℕ, zero, suc, ◌+◌, ◌*◌, ◌/◌, ◌<◌, ◌≡◌, arith, refl, sym, ap, ap₂, ◌∙◌}
use Rattle.std.proofs.Common.{List, [], ◌∷◌, ◌++◌, length, get_or, take, drop, ℤ, length-append, subst}
use native.Mathlib.Nat.{not-suc-le-zero}
use mathlib.Core.Bool.{Bool, ◌&&◌}
use Rattle.std.specs.List.{zip}
use Rattle.std.proofs.lemmas.Slice.Zip.{length-zip, get_or-zip}
use Rattle.sweep_rules.specs.declared.Sweep.{Sweep}
use Rattle.sweep_rules.specs.Map.{bit_at, all_below}
use Rattle.sweep_rules.specs.Record.{implies}
use Rattle.sweep_rules.specs.Code.{word_fine}
use Rattle.sweep_rules.proofs.Formed.{word_of}
use Rattle.sweep.proofs.LevelSlices.{levels_cut}
use Rattle.std.specs.Slice.Iter.{chunks_exact_rest, chunks_exact_size, chunks_exact_steps}
use Rattle.std.proofs.lemmas.List.{drop-drop, get_or_default}
use Rattle.std.proofs.Math.Seq.{take-append_seam, drop-append_seam}
use Rattle.std.proofs.iter.Yields.{fronts}
use Rattle.std.specs.Iterator.Adapters.{zip_first, zip_second}
use Rattle.std.specs.Slice.Iter.{iter_rest}
use Rattle.std.proofs.lemmas.Iterator.{YieldsList, YieldsList-from_slice, YieldsList-from_zip, zips}
use Rattle.std.proofs.lemmas.Iterator.Splits.{YieldsList-from_shown_while}

-- the first n words of 64
unfoldable pub word_chunks : ℕ → List ℤ → List (List ℤ)
word_chunks zero xs = []
word_chunks (suc n) xs = take 64 xs ∷ word_chunks n (drop 64 xs)

length_chunks : (n : ℕ) (xs : List ℤ) → length (word_chunks n xs) ≡ n
unfolding word_chunks
length_chunks zero xs = refl
length_chunks (suc n) xs = ap suc (length_chunks n (drop 64 xs))

-- word j has the levels from 64 j on
pub chunk_at : (n j : ℕ) (xs : List ℤ) (d : List ℤ) → j < n → get_or (word_chunks n xs) j d ≡ take 64 (drop (j * 64) xs)
unfolding word_chunks
chunk_at zero j xs d h = absurd (not-suc-le-zero h)
chunk_at (suc n) zero xs d h = refl
chunk_at (suc n) (suc j) xs d h =
    let e : suc j * 64 ≡ 64 + j * 64 = omega arith in
    chunk_at n j (drop 64 xs) d (omega arith)
    ∙ ap (take 64) (drop-drop (j * 64) 64 xs ∙ ap (λ (k : ℕ). drop k xs) (sym e))

-- a word that comes off the front
chunk_first : (a b : List ℤ) → length a ≡ 64 → word_chunks (length (a ++ b) / 64) (a ++ b) ≡ a ∷ word_chunks (length b / 64) b
unfolding word_chunks
chunk_first a b l =
    let e : length (a ++ b) / 64 ≡ suc (length b / 64) = simp length-append (omega arith) in
    ap (λ (n : ℕ). word_chunks n (a ++ b)) e
    ∙ ap₂ (λ (y : List ℤ) (z : List ℤ). y ∷ word_chunks (length b / 64) z)
    (ap (λ (k : ℕ). take k (a ++ b)) (sym l) ∙ take-append_seam a b)
    (ap (λ (k : ℕ). drop k (a ++ b)) (sym l) ∙ drop-append_seam a b)

-- what `chunks_exact` gives
pub chunks_given : (s : _) (xs : List ℤ) → chunks_exact_rest s ≡ xs → chunks_exact_size s ≡ 64
    → YieldsList (chunks_exact_steps {A = ℤ}) (λ y. y.now) s (word_chunks (length xs / 64) xs)
chunks_given s xs r z = subst (λ (ys : List ℤ). YieldsList (chunks_exact_steps {A = ℤ}) (λ y. y.now) s (word_chunks (length ys / 64) ys)) r
    (YieldsList-from_shown_while (chunks_exact_steps {A = ℤ}) (λ y. y.now)
    (λ t. word_chunks (length (chunks_exact_rest t) / 64) (chunks_exact_rest t)) (λ t. chunks_exact_size t ≡ 64)
    (λ t u p h.
    let l : length (chunks_exact_rest t) < chunks_exact_size t = h.1.0 in
    let e : length (chunks_exact_rest t) / 64 ≡ 0 = omega arith in
    length_chunks (length (chunks_exact_rest t) / 64) (chunks_exact_rest t) ∙ e)
    (λ t x u p h.
    let l : length x.now ≡ 64 = h.1.1 ∙ p in
    (h.0 ∙ p, ap (λ (ys : List ℤ). word_chunks (length ys / 64) ys) h.1.0 ∙ chunk_first x.now (chunks_exact_rest u) l))
    s z)

-- a word of the maps with its levels, by the record or by a slice of its levels
word_cut : (levels : List ℤ) (at v h : ℕ) → word_fine (take 64 (drop at levels)) 0 v h ≡ word_fine levels at v h
unfolding word_fine
word_cut levels at v h = ap (λ (b : Bool). all_below 64 (λ k. implies (bit_at h k) (bit_at v k)) && b) (levels_cut levels at 64 h)

-- the words of a record
abbrev pub words_of : Sweep → List (List ℤ × (ℕ × ℕ))
words_of w = zip (word_chunks (length w.levels / 64) w.levels) (zip w.visited w.heard)

module _ (w : Sweep) (levels_long : length w.levels ≡ 1088) (visited_long : length w.visited ≡ 17) (heard_long : length w.heard ≡ 17) where
  map_words : length (zip w.visited w.heard) ≡ 17
  map_words = omega (arith, length-zip w.visited w.heard)

  pub words_length : length (words_of w) ≡ 17
  words_length =
      let a = length-zip (word_chunks (length w.levels / 64) w.levels) (zip w.visited w.heard) in
      omega (arith, a, map_words, length_chunks (length w.levels / 64) w.levels)

  -- the word at a turn
  pub word_is : (j : ℕ) (x : List ℤ × (ℕ × ℕ)) → j < 17 → x ≡ get_or (words_of w) j x → word_fine x.0 0 x.1.0 x.1.1 ≡ word_of w j
  word_is j x h e =
      let n = length_chunks (length w.levels / 64) w.levels in
      let c = get_or-zip (word_chunks (length w.levels / 64) w.levels) (zip w.visited w.heard) j x (omega arith) (omega (arith, map_words)) in
      let m = get_or-zip w.visited w.heard j x.1 (omega arith) (omega arith) in
      let k = chunk_at (length w.levels / 64) j w.levels x.0 (omega arith) in
      let q = e ∙ c in
      let a : x.0 ≡ take 64 (drop (j * 64) w.levels) = ap (λ (y : List ℤ × (ℕ × ℕ)). y.0) q ∙ k in
      let b : x.1 ≡ (get_or w.visited j x.1.0, get_or w.heard j x.1.1) = ap (λ (y : List ℤ × (ℕ × ℕ)). y.1) q ∙ m in
      let v : x.1.0 ≡ get_or w.visited j 0 = ap (λ (y : ℕ × ℕ). y.0) b ∙ get_or_default w.visited j x.1.0 0 (omega arith) in
      let d : x.1.1 ≡ get_or w.heard j 0 = ap (λ (y : ℕ × ℕ). y.1) b ∙ get_or_default w.heard j x.1.1 0 (omega arith) in
      ap (λ (l : List ℤ). word_fine l 0 x.1.0 x.1.1) a
      ∙ word_cut w.levels (j * 64) x.1.0 x.1.1
      ∙ ap₂ (word_fine w.levels (j * 64)) v d

-- what a `zip` of the words of the levels with a `zip` of the maps gives
pub words_given : (s : _) (w : Sweep) → chunks_exact_rest (zip_first s) ≡ w.levels → chunks_exact_size (zip_first s) ≡ 64
    → iter_rest (zip_first (zip_second s)) ≡ w.visited → iter_rest (zip_second (zip_second s)) ≡ w.heard
    → YieldsList (zips (chunks_exact_steps {A = ℤ}) (zips (fronts {A = ℕ}) (fronts {A = ℕ}))) (λ p. (p.0.now, (p.1.0.now, p.1.1.now))) s (words_of w)
words_given s w r z v h =
    YieldsList-from_zip (chunks_given (zip_first s) w.levels r z) (YieldsList-from_zip (YieldsList-from_slice w.visited v) (YieldsList-from_slice w.heard h))
