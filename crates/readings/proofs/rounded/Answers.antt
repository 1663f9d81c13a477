-- `readings::rounded` meets its contract: by `Fields`.
use Rattle.std.proofs.Common.{◌+◌, ◌-◌, ◌*◌, ◌/◌, ◌%◌, ◌^◌, Bool, sym, subst}
use Rattle.readings_rules.specs.Code.{Near, in_units}
use Rattle.readings_rules.proofs.Fields.{low_is_zero, up_code, down_code}
use Rattle.readings.proofs.rounded.Goals as goal

pub returns-then-exponent-lt119-clause-near : goal.returns-then-exponent-lt119-clause-near
returns-then-exponent-lt119-clause-near c = low_is_zero c.args.up c.args.exponent c.args.digits c.if-exponent-lt119.true c.requires.1

pub returns-then-up-clause-near : goal.returns-then-up-clause-near
returns-then-up-clause-near c =
    let a = c.args in
    let r = up_code a.exponent a.digits c.if-exponent-lt119.false c.requires.0 c.requires.1 in
    subst
    (λ (s : Bool). Near s (100 * in_units a.exponent a.digits) (2 ^ 149)
    (((8388608 + a.digits) * 100 + 1 * 2 ^ (150 - a.exponent - 1) % 4294967296) / 2 ^ (150 - a.exponent)))
    (sym c.if-up.true) r.0

pub returns-else-up-clause-near : goal.returns-else-up-clause-near
returns-else-up-clause-near c =
    let a = c.args in
    let r = down_code a.exponent a.digits c.if-exponent-lt119.false c.requires.0 c.requires.1 in
    subst
    (λ (s : Bool). Near s (100 * in_units a.exponent a.digits) (2 ^ 149)
    (((8388608 + a.digits) * 100 + 1 * 2 ^ (150 - a.exponent - 1) % 4294967296 - 1) / 2 ^ (150 - a.exponent)))
    (sym c.if-up.false) r.0
