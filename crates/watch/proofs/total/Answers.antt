-- One level more, which fits 16 bits.
use Rattle.std.proofs.Common.{◌≡◌, ◌+◌, take, get_or, ℤ, pos, ◌+ℤ◌, sym, ap, ◌∙◌, rules, arith}
use Rattle.std.proofs.lemmas.Int.{ints}
use mir.Facts.{to_z-of_z}
use mir.Syntax.{w16}
use mir.Val.{SFits}
use Rattle.watch_rules.specs.Lists.{sum}
use Rattle.watch.proofs.Sums.{sum_more}
use Rattle.watch.proofs.total.Goals as goal

pub loop-level-preserved : goal.loop-level-preserved
loop-level-preserved c =
    let l = c.args.levels.now in
    let i = c.loop-level.level-index in
    let x = get_or l i (pos 0) in
    let fits : SFits w16 x = search rules in
    let m = sum_more l i c.loop-level-test.true in
    let same : c.from-sum.result ≡ x = c.from-sum.ensures ∙ to_z-of_z fits in
    let small = fits.sfits in
    let next : c.loop-level.sum +ℤ x ≡ sum (take (i + 1) l) = ap (λ (z : ℤ). z +ℤ x) (sym c.loop-level.sum-is ∙ c.loop-level.invariant.0) ∙ sym m in
    (omega (arith, ints, next), omega (arith, ints, same), omega (arith, ints, same))
