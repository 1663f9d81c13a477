-- What passed is what was given, so the codes and the record are those of the law `accept`; what was refused is told by `new`.
use Rattle.std.proofs.Common.{◌≡◌, true, ap, refl, w32, Ok}
use Rattle.std.proofs.lemmas.Int.{to_z-of_z}
use Rattle.readings_rules.specs.Ranges.{quality_in_range}
use Rattle.power_rules.specs.PowerSteps.{pan_use, record_after}
use Rattle.power_rules.specs.Code.{above_lowest, par_at, pan_at}
use Rattle.power.proofs.Ends.{accept}
use Rattle.power.proofs.step.Goals as goal

pub returns-in-Ok : goal.returns-in-Ok
returns-in-Ok c =
    let a = c.args in
    let q = to_z-of_z w32 a.sqi c.ranges.sqi in
    let s = c.in-Ok.ensures.passed in
    let t = c.in-Ok.ensures.tests in
    let inside : quality_in_range a.sqi ≡ true = rw q at t.2 in
    let after : c.record_after-state.result ≡ record_after a.p a.r a.d = cc (s.0, s.1, s.2, c.record_after-state.ensures.after) in
    let par : c.par-par.result ≡ par_at a.p (pan_use a.r a.d) (above_lowest a.sqi) = cc (s.0, s.3, q, ap (λ r. r.panlast) after, c.par-par.ensures.code) in
    let pan : c.pan-pan.result ≡ pan_at a.p (record_after a.p a.r a.d) = cc (s.0, after, c.pan-pan.ensures.code) in
    accept a.p a.r a.d a.sqi _ (above_lowest a.sqi) (after, λ i. Ok (record { par = par i; pan = pan i })) refl t.0 t.1 inside
