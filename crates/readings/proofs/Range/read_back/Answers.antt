-- By the laws of `Back`: a float that is shown reads back, and a refusal stays.
use Rattle.std.proofs.Common.{◌≡◌, ap, ◌∙◌, w32, rules, Err}
use mir.ValLaws.{to_z-of_z}
use Rattle.refusal.specs.Told.{told}
use Rattle.readings_rules.specs.Float.{shown}
use Rattle.readings_rules.proofs.Back.{shown_back, refused_back}
use Rattle.readings.proofs.Range.read_back.Goals as goal

pub returns-in_err-to_float : goal.returns-in_err-to_float
returns-in_err-to_float c =
    let r = c.args.self in
    let passed_on : c.from_residual.result ≡ Err c.in_err-to_float.field-0.0 = search rules in
    ap told passed_on
    ∙ refused_back r.low r.high c.args.h r.near.0 r.near.1 _
    (c.in_err-to_float.ensures ∙ ap (shown r.low r.high) (to_z-of_z w32 c.args.h c.ranges.h))

pub returns : goal.returns
returns c =
    let r = c.args.self in
    c.to_hundredths.ensures
    ∙ shown_back r.low r.high c.args.h r.near.0 r.near.1 _
    (c.in_ok-to_float.ensures ∙ ap (shown r.low r.high) (to_z-of_z w32 c.args.h c.ranges.h))
