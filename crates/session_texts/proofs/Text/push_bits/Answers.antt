-- A number of 32 bits takes 8 hex digits.
use Rattle.std.proofs.Common.{◌≡◌, ◌++◌, take, ap, ◌∙◌, arith}
use mathlib.Core.Path.{ap₂}
use Rattle.io.specs.Digits.{last_digits}
use Rattle.session_texts.specs.Text.{room, said}
use Rattle.session_texts.proofs.Writing.{eight}
use Rattle.session_texts.proofs.Text.push_bits.Goals as goal

pub returns : goal.returns
returns c =
    let d = c.hex-k in
    let b = c.bits_of-bits in
    let k : d.result ≡ 8 = eight c.from.result d.result (omega (arith, b.type_inv, c.from.ensures)) d.ensures.len in
    c.push.ensures ∙ ap (λ x. take room (said c.args.self.now ++ x)) (d.ensures.digits ∙ ap₂ (last_digits 16) k (c.from.ensures ∙ b.ensures))
