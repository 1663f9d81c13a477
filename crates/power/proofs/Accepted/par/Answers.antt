-- The code nearest to T, brought into 0 to 24,000 by the library's `clamp`.
use Rattle.std.proofs.Common.{◌∙◌, ap, pos, w32, FitsSigned, nat_abs, rules}
use Rattle.std.proofs.lemmas.Int.{to_z-of_z}
use Rattle.std.specs.Int.{int_max, int_min}
use Rattle.power_rules.specs.PowerSteps.{thousandths, par_to_send}
use Rattle.power_rules.proofs.Rules.{par_law}
use Rattle.power.proofs.Numbers.{nearest_is}
use Rattle.power.proofs.Accepted.par.Goals as goal

pub returns-clause-sent : goal.returns-clause-sent
unfolding par_to_send
returns-clause-sent c =
    let a = c.args.self in
    let t : FitsSigned w32 c.thousandths-t.result = search rules in
    let held : FitsSigned w32 c.clamp-held.result = search rules in
    rw (to_z-of_z w32 c.clamp-held.result held)
    (nearest_is (thousandths a.p c.args.panuse a.sqi) c.clamp-held.result
    (c.clamp-held.ensures.value ∙ ap (λ z. int_max (pos 0) (int_min z (pos 24000))) (to_z-of_z w32 c.thousandths-t.result t ∙ c.thousandths-t.ensures))
    c.clamp-held.ensures.lower_bound)

-- a natural number is its own whole number's size
pub returns-clause-code : goal.returns-clause-code
returns-clause-code c =
    let a = c.args.self in
    ap nat_abs (returns-clause-sent c ∙ par_law a.p c.args.panuse c.requires a.sqi a.inside)
