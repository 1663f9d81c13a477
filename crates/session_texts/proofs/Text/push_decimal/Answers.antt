-- The fewest digits that hold a number are its decimal digits.
use Rattle.std.proofs.Common.{◌++◌, take, ap, ◌∙◌}
use Rattle.session_texts.specs.Text.{room, said}
use Rattle.session_texts.proofs.Writing.{decimal_is}
use Rattle.session_texts.proofs.Text.push_decimal.Goals as goal

pub returns : goal.returns
returns c =
    let d = c.decimal-k in
    c.push.ensures
    ∙ ap (λ x. take room (said c.args.self.now ++ x)) (d.ensures.digits ∙ decimal_is c.args.n d.result c.ranges.n.fits d.ensures.len)
