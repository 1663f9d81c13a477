-- A track with one more level. A track that is not full has room behind its levels; of a full one the oldest goes round to the end, where the
-- newest takes its place, and its padding stays. Both are the track of the row that the rules name, since a fine track is its levels with their padding.
use Prim.Native.Nat.{ℕ, zero, suc, ◌+◌, ◌-◌, ◌≤◌, ◌<◌}
use mathlib.Core.Path.{◌≡◌, refl, sym, ap, ap₂, ◌∙◌}
use mathlib.Core.Bool.{true}
use mathlib.Core.List.{List, [], ◌∷◌, ◌++◌, append_assoc}
use native.Mathlib.Omega.{arith}
use lib.IntN.{ℤ, pos}
use lib.ListN.{length, drop, take, get_or, set, length-append, length-drop}
use lib.Seq.{drop-append-le, set_at, drop_at, length-take-le}
use Rattle.watch_rules.specs.declared.Track.{Track}
use Rattle.watch_rules.specs.Lists.{last_n, pad_to}
use Rattle.watch_rules.specs.Limits.{depth_in_range, capacity}
use Rattle.watch_rules.specs.Rows.{push}
use Rattle.watch_rules.specs.Record.{row_of, track_of, track_fine}
use Rattle.watch_rules.proofs.Depth.{depth_low, depth_high}
use Rattle.watch_rules.proofs.Laws.{last_short}
use Rattle.watch_rules.proofs.Encode.{track_path, track_count, track_long, track_levels}
use Rattle.watch_record.proofs.Tracks.{pad_to_snoc}

-- padding stands behind the list, and is that of nothing
pad_to_behind : {A : Type 0} (n : ℕ) (d : A) (xs : List A) → length xs ≤ n → pad_to n d xs ≡ xs ++ pad_to (n - length xs) d []
pad_to_behind zero d [] h = refl
pad_to_behind zero d (x ∷ xs) h = absurd (omega arith)
pad_to_behind (suc n) d [] h = let e : suc n ≡ suc n - 0 = omega arith in ap (λ (k : ℕ). pad_to k d []) e
pad_to_behind (suc n) d (x ∷ xs) h =
    let e : n - length xs ≡ suc n - suc (length xs) = omega arith in
    ap (◌∷◌ x) (pad_to_behind n d xs (omega arith) ∙ ap (λ (k : ℕ). xs ++ pad_to k d []) e)

abbrev pub track_with : ℕ → ℕ → List ℤ → Track
track_with c n l = record { channel = c; count = n; levels = l }

module _ (depth : ℕ) (t : Track) (x : ℤ) (fine : track_fine depth t ≡ true) (deep : depth_in_range depth ≡ true) where
  kept : List ℤ
  kept = take t.count t.levels

  counted : length kept ≡ t.count
  unfolding kept
  counted = (track_levels depth t fine).counted

  -- the levels are those that are kept, padded
  padded : t.levels ≡ pad_to capacity (pos 0) kept
  unfolding kept
  padded = sym (ap (λ (n : ℕ). pad_to n (pos 0) (take t.count t.levels)) (sym (track_long depth t fine)) ∙ (track_levels depth t fine).padded)

  pub pushed_short : t.count < depth → track_with t.channel (t.count + 1) (set t.levels t.count x) ≡ track_of (push depth x (row_of t))
  unfolding kept
  pushed_short h =
      let s : last_n depth (kept ++ x ∷ []) ≡ kept ++ x ∷ [] = last_short depth (kept ++ x ∷ []) (omega (arith, length-append kept (x ∷ []), counted)) in
      let n : length (last_n depth (kept ++ x ∷ [])) ≡ t.count + 1 = ap length s ∙ length-append kept (x ∷ []) ∙ ap (λ (k : ℕ). k + 1) counted in
      track_path refl
      (sym n)
      (ap₂ (λ (l : List ℤ) (k : ℕ). set l k x) padded (sym counted)
      ∙ pad_to_snoc capacity (pos 0) kept x (omega (arith, counted, depth_high depth deep))
      ∙ sym (ap (pad_to capacity (pos 0)) s)
      )

  pub pushed_full : depth ≤ t.count
      → track_with t.channel t.count (drop 1 (take depth t.levels) ++ x ∷ drop depth t.levels) ≡ track_of (push depth x (row_of t))
  unfolding kept
  pushed_full h =
      let d : length kept ≡ depth = omega (arith, counted, track_count depth t fine) in
      let z : List ℤ = pad_to (capacity - depth) (pos 0) [] in
      let newest : List ℤ = drop 1 kept ++ x ∷ [] in
      let l : t.levels ≡ kept ++ z =
      padded ∙ pad_to_behind capacity (pos 0) kept (omega (arith, depth_high depth deep)) ∙ ap (λ (n : ℕ). kept ++ pad_to (capacity - n) (pos 0) []) d in
      let e : length (kept ++ x ∷ []) - depth ≡ 1 = omega (arith, length-append kept (x ∷ [])) in
      let s : last_n depth (kept ++ x ∷ []) ≡ newest =
      ap (λ (j : ℕ). drop j (kept ++ x ∷ [])) e ∙ drop-append-le 1 kept (x ∷ []) (omega (arith, depth_low depth deep)) in
      let n : length newest ≡ depth = omega (arith, length-append (drop 1 kept) (x ∷ []), length-drop 1 kept, depth_low depth deep) in
      let front : drop 1 (take depth t.levels) ≡ drop 1 kept = ap (λ (k : ℕ). drop 1 (take k t.levels)) (sym d ∙ counted) in
      let behind : drop depth t.levels ≡ z = ap (drop depth) l ∙ drop_at kept z depth d in
      track_path refl
      (sym (ap length s ∙ n ∙ sym d ∙ counted))
      (ap₂ (λ (a b : List ℤ). a ++ x ∷ b) front behind
      ∙ sym (append_assoc (drop 1 kept) (x ∷ []) z)
      ∙ ap (λ (k : ℕ). newest ++ pad_to (capacity - k) (pos 0) []) (sym n)
      ∙ sym (pad_to_behind capacity (pos 0) newest (omega (arith, n, depth_high depth deep)))
      ∙ sym (ap (pad_to capacity (pos 0)) s)
      )

-- the oldest, gone round to the end, gives way to the newest
first_of : (l : List ℤ) → 0 < length l → take 1 l ≡ get_or l 0 (pos 0) ∷ []
first_of [] h = absurd (omega arith)
first_of (y ∷ l) h = refl

pub gone_round : (l d : List ℤ) (x : ℤ) (n : ℕ) → 0 < n → length l ≡ n → set ((drop 1 l ++ take 1 l) ++ d) (n - 1) x ≡ drop 1 l ++ x ∷ d
gone_round l d x n h e =
    ap (λ (m : List ℤ). set ((drop 1 l ++ m) ++ d) (n - 1) x) (first_of l (omega arith))
    ∙ ap (λ (m : List ℤ). set m (n - 1) x) (append_assoc (drop 1 l) (get_or l 0 (pos 0) ∷ []) d)
    ∙ set_at (drop 1 l) (get_or l 0 (pos 0)) d x (n - 1) (omega (arith, length-drop 1 l))

-- there is room for the depth
pub long_enough : (depth : ℕ) (t : Track) → track_fine depth t ≡ true → depth_in_range depth ≡ true → length (take depth t.levels) ≡ depth
long_enough depth t fine deep = length-take-le depth t.levels (omega (arith, track_long depth t fine, depth_high depth deep))
