-- `word_fine` meets its contract: where none is heard by the levels alone, else the common bits are tested at once, and the levels by the
-- halves of the word.
use Rattle.std.proofs.Common.{◌+◌, ◌/◌, ◌%◌, ◌≡◌, sym, ap, ap₂, ◌∙◌, Bool, ◌&&◌, List, ℤ}
use Rattle.sweep_rules.specs.Code.{word_fine, levels_fine}
use Rattle.sweep_rules.proofs.Words.{within_test}
use Rattle.sweep_rules.proofs.Levels.{halves, none_heard}
use Rattle.sweep.proofs.LevelSlices.{lower_half, upper_half}
use Rattle.sweep.proofs.word_fine.Goals as goal

pub returns-then-heard-eq0 : goal.returns-then-heard-eq0
returns-then-heard-eq0 c =
    let a = c.args in
    c.all_zero.ensures
    ∙ ap (levels_fine a.levels.now 0 0) c.requires
    ∙ none_heard a.levels.now 0 a.visited ∙ sym (ap (word_fine a.levels.now 0 a.visited) c.if-heard-eq0.true)

pub returns : goal.returns
unfolding word_fine
returns c =
    let a = c.args in
    let h = a.heard % 4294967296 in
    let low : c.half_fine.result ≡ levels_fine a.levels.now 0 h 32 =
    c.half_fine.ensures ∙ ap (λ (xs : List ℤ). levels_fine xs 0 h 32) c.split_at.ensures.front ∙ lower_half a.levels.now h
    in
    let k = a.heard / 4294967296 in
    let high : c.half_fine-2.result ≡ levels_fine a.levels.now (0 + 32) k 32 =
    c.half_fine-2.ensures ∙ ap (λ (xs : List ℤ). levels_fine xs 0 k 32) c.split_at.ensures.back ∙ upper_half a.levels.now k
    in
    ap₂ (λ (x y : Bool). x && y) (within_test a.heard a.visited c.ranges.heard.fits)
    (ap₂ (λ (x y : Bool). x && y) low high ∙ sym (halves a.levels.now 0 a.heard))
