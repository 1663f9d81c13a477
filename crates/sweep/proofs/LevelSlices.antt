-- The levels of a word, given as a slice of the record's levels.
use Rattle.std.proofs.Common.{ℕ, ◌+◌, ◌≡◌, ap, ◌∙◌, List, get_or, take, drop, ℤ, pos, ◌&&◌, get_or-take, get_or-drop}
use native.Mathlib.Nat.{zero-add}
use Rattle.sweep_rules.specs.Map.{bit_at}
use Rattle.sweep_rules.specs.Code.{level_fine, levels_fine}
use Rattle.sweep_rules.proofs.Tests.{all_same}
use Rattle.sweep_rules.proofs.Levels.{levels_step}

-- one level more
pub one_level_more : (levels : List ℤ) (h k : ℕ)
    → levels_fine levels 0 h (k + 1) ≡ (levels_fine levels 0 h k && level_fine (get_or levels k (pos 0)) (bit_at h k))
one_level_more levels h k =
    levels_step levels 0 h k ∙ ap (λ (n : ℕ). levels_fine levels 0 h k && level_fine (get_or levels n (pos 0)) (bit_at h k)) (zero-add k)

-- the levels of a slice are those of the record from its start on
pub levels_cut : (levels : List ℤ) (at n h : ℕ) → levels_fine (take n (drop at levels)) 0 h n ≡ levels_fine levels at h n
unfolding levels_fine
levels_cut levels at n h = all_same (λ j. level_fine (get_or (take n (drop at levels)) (0 + j) (pos 0)) (bit_at h j))
    (λ j. level_fine (get_or levels (at + j) (pos 0)) (bit_at h j)) n
    (λ j l. ap (λ (z : ℤ). level_fine z (bit_at h j))
    (ap (λ (i : ℕ). get_or (take n (drop at levels)) i (pos 0)) (zero-add j) ∙ get_or-take n (drop at levels) j (pos 0) l ∙ get_or-drop at levels j (pos 0)))

-- so the first 32 levels of a word, and those after them, are its halves
pub lower_half : (levels : List ℤ) (h : ℕ) → levels_fine (take 32 levels) 0 h 32 ≡ levels_fine levels 0 h 32
lower_half levels h = levels_cut levels 0 32 h

pub upper_half : (levels : List ℤ) (h : ℕ) → levels_fine (drop 32 levels) 0 h 32 ≡ levels_fine levels (0 + 32) h 32
unfolding levels_fine
upper_half levels h = all_same (λ j. level_fine (get_or (drop 32 levels) (0 + j) (pos 0)) (bit_at h j))
    (λ j. level_fine (get_or levels (0 + 32 + j) (pos 0)) (bit_at h j)) 32
    (λ j l. ap (λ (z : ℤ). level_fine z (bit_at h j)) (ap (λ (i : ℕ). get_or (drop 32 levels) i (pos 0)) (zero-add j) ∙ get_or-drop 32 levels j (pos 0)))
