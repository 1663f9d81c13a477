-- `all_zero` meets its contract: a level more stands as it may, where no bit is set, exactly when it is 0.
use Rattle.std.proofs.Common.{◌≡◌, arith, refl, sym, ap, ap₂, ◌∙◌, Bool, ◌&&◌, pos, w32, FitsSigned, rules, length}
use lib.ListN.{get_or}
use Rattle.sweep_rules.specs.Map.{all_below}
use Rattle.sweep_rules.specs.Code.{levels_fine}
use Rattle.sweep_rules.proofs.Levels.{zero_test, zero_fine}
use Rattle.sweep.proofs.LevelSlices.{one_level_more}
use Rattle.sweep.proofs.all_zero.Goals as goal

pub loop-level-init : goal.loop-level-init
unfolding levels_fine all_below
loop-level-init c = refl

pub loop-level-preserved : goal.loop-level-preserved
loop-level-preserved c =
    let a = c.args in
    let k = c.loop-level.level-index in
    let z = get_or a.levels.now k (pos 0) in
    let fits : FitsSigned w32 z = search rules in
    ap₂ (λ (x y : Bool). x && y) c.loop-level.invariant (zero_test z fits ∙ zero_fine z k) ∙ sym (one_level_more a.levels.now 0 k)

pub returns : goal.returns
returns c =
    let a = c.args in
    let e : c.loop-level.level-index ≡ length a.levels.now = omega arith in
    c.loop-level.invariant ∙ ap (levels_fine a.levels.now 0 0) e
