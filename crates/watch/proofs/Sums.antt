-- The sum of levels, one by one; and the levels of a track, each in the range, and the mean where there are none.
use Prim.Native.Nat.{ℕ, zero, suc, ◌+◌, ◌<◌}
use mathlib.Core.Path.{◌≡◌, refl, sym, ap, ◌∙◌}
use mathlib.Core.Bool.{true}
use mathlib.Core.List.{List, [], ◌∷◌, ◌++◌}
use native.Mathlib.Omega.{arith}
use native.Mathlib.Numerals.{add-one}
use lib.IntN.{ℤ, pos, ◌+ℤ◌, +ℤ_idl, +ℤ_idr, +ℤ_assoc}
use lib.ListN.{length, take, get_or}
use lib.Seq.{take-suc}
use Rattle.readings_rules.specs.Ranges.{level_in_range}
use Rattle.watch_rules.specs.declared.Track.{Track}
use Rattle.watch_rules.specs.Lists.{sum}
use Rattle.watch_rules.specs.Limits.{capacity}
use Rattle.watch_rules.specs.Rules.{mean}
use Rattle.watch_rules.specs.Record.{levels_fine, track_fine, row_of}
use Rattle.watch_rules.proofs.Laws.{clash, and_left, and_right}
use Rattle.watch_rules.proofs.Encode.{track_levels}

sum_append : (l m : List ℤ) → sum (l ++ m) ≡ sum l +ℤ sum m
sum_append [] m = sym (+ℤ_idl (sum m))
sum_append (x ∷ l) m = ap (λ (z : ℤ). x +ℤ z) (sum_append l m) ∙ sym (+ℤ_assoc x (sum l) (sum m))

pub sum_more : (l : List ℤ) (i : ℕ) → i < length l → sum (take (i + 1) l) ≡ sum (take i l) +ℤ get_or l i (pos 0)
sum_more l i h =
    ap (λ (k : ℕ). sum (take k l)) (add-one i)
    ∙ ap sum (take-suc l i (pos 0) h)
    ∙ sum_append (take i l) (get_or l i (pos 0) ∷ [])
    ∙ ap (λ (z : ℤ). sum (take i l) +ℤ z) (+ℤ_idr (get_or l i (pos 0)))

-- ---- of a track

pub range_at : (n j : ℕ) (l : List ℤ) → levels_fine n l ≡ true → j < n → level_in_range (get_or l j (pos 0)) ≡ true
range_at zero j l e h = absurd (omega arith)
range_at (suc n) j [] e h = clash e refl
range_at (suc n) zero (x ∷ l) e h = and_left (level_in_range x) (levels_fine n l) e
range_at (suc n) (suc j) (x ∷ l) e h = range_at n j l (and_right (level_in_range x) (levels_fine n l) e) (omega arith)

mean_none : (l : List ℤ) → length l ≡ 0 → mean l ≡ pos 0
mean_none [] h = refl
mean_none (x ∷ l) h = absurd (omega arith)

module _ (t : Track) (fine : track_fine capacity t ≡ true) where
  pub track_no_mean : t.count ≡ 0 → mean (row_of t).levels ≡ pos 0
  track_no_mean h = mean_none (row_of t).levels ((track_levels capacity t fine).counted ∙ h)
