-- T fits in 32 bits whichever gain is taken.
use Rattle.std.proofs.Common.{true, false, ◌≡◌, ap, ◌∙◌, ◌*◌, ◌≤◌, pos, ◌-ℤ◌, ◌*ℤ◌, arith}
use Rattle.power_rules.specs.PowerSteps.{thousandths, gain}
use Rattle.power.proofs.Numbers.{tested, product_fits, difference_fits, difference_is}
use Rattle.power.proofs.Accepted.thousandths.Goals.{then-target-self, else-target-self}
use Rattle.power.proofs.Accepted.thousandths.Goals as goal

gain_small : (c : goal.After-struct_told-2-1) → c.if-target-self.gain ≤ 31
gain_small c =
    let u = c.args.self.usable in elim c.if-target-self.branch [ then-target-self w ↦ omega (arith, u.gaindn) | else-target-self w ↦ omega (arith, u.gainup) ]

pub overflow_mul-result-2 : goal.overflow_mul-result-2
overflow_mul-result-2 c =
    let a = c.args.self in product_fits 0 c.if-target-self.gain (10 * a.p.sqt) a.sqi (omega arith) (gain_small c) (omega (arith, a.usable.sqt)) a.inside

pub overflow_sub-result-2 : goal.overflow_sub-result-2
overflow_sub-result-2 c =
    let a = c.args.self in
    difference_fits (400 * c.args.panuse) c.if-target-self.gain (10 * a.p.sqt) a.sqi (omega arith) (gain_small c) (omega (arith, a.usable.sqt)) a.inside

gain_is : (c : goal.After-struct_told-2-1) → c.if-target-self.gain ≡ gain c.args.self.p c.args.self.sqi
unfolding gain
gain_is c =
    let a = c.args.self in
    let at = tested 0 0 (10 * a.p.sqt) a.sqi (omega arith) (omega arith) (omega (arith, a.usable.sqt)) a.inside in
    elim c.if-target-self.branch [
      | then-target-self w ↦ rw (at true w.if-target-self.true) w.gain-is
      | else-target-self w ↦ rw (at false w.if-target-self.false) w.gain-is
    ]

pub returns : goal.returns
unfolding thousandths
returns c =
    let a = c.args.self in
    difference_is (400 * c.args.panuse) c.if-target-self.gain (10 * a.p.sqt) a.sqi (omega arith) (gain_small c) (omega (arith, a.usable.sqt)) a.inside
    ∙ ap (λ g. pos (400 * c.args.panuse) -ℤ pos g *ℤ (pos (10 * a.p.sqt) -ℤ a.sqi)) (gain_is c)
