-- `half_fine` meets its contract: a level more stands as it may beside its bit.
use Rattle.std.proofs.Common.{◌≡◌, arith, refl, sym, ap, ap₂, ◌∙◌, Bool, ◌&&◌, ◌||◌, pos, w32, FitsSigned, rules}
use lib.ListN.{get_or}
use Rattle.readings_rules.specs.Ranges.{level_in_range}
use Rattle.sweep_rules.specs.Map.{bit_at, all_below}
use Rattle.sweep_rules.specs.Code.{level_fine, levels_fine, half_bits}
use Rattle.sweep_rules.proofs.Levels.{zero_test}
use Rattle.sweep.proofs.LevelSlices.{one_level_more}
use Rattle.sweep.proofs.half_fine.Goals as goal

pub loop-k-init : goal.loop-k-init
unfolding levels_fine all_below
loop-k-init c = refl

pub loop-k-preserved : goal.loop-k-preserved
unfolding bit_at
loop-k-preserved c =
    let a = c.args in
    let k = c.loop-k.k in
    let fine = c.loop-k.fine in
    let z = get_or a.levels.now k (pos 0) in
    let fits : FitsSigned w32 z = search rules in
    let bit = bit_at a.heard k in
    let inside : c.contains.result ≡ level_in_range z = search rules in
    ap₂ (λ (r b : Bool). fine && (r && (b || bit))) inside (zero_test z fits)
    ∙ ap (λ (b : Bool). b && level_fine z bit) c.loop-k.invariant
    ∙ sym (one_level_more a.levels.now a.heard k)

pub returns : goal.returns
returns c =
    let e : c.loop-k.k ≡ half_bits = omega arith in
    c.loop-k.invariant ∙ ap (levels_fine c.args.levels.now 0 c.args.heard) e
