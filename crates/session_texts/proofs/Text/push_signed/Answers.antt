-- Below 0, the size after a minus sign.
use Rattle.std.proofs.Common.{◌≡◌, true, false, [], ◌∷◌, ◌++◌, append_assoc, take, sym, ap, ◌∙◌}
use lib.IntN.{pos, nat_abs}
use lib.Signed.{lt_z}
use Rattle.session_words.specs.Bytes.{minus}
use Rattle.session_words.proofs.Lists.{take_again}
use Rattle.session_texts.specs.Text.{room, said, decimal_text}
use Rattle.session_texts.proofs.Signs.{narrow, below_text, above_text}
use Rattle.session_texts.proofs.Text.push_signed.Goals as goal
use Rattle.session_texts.proofs.Text.push_signed.Goals.{then-below, else-below}

pub returns : goal.returns
returns c =
    let n = c.args.n in
    let t = said c.args.self.now in
    let same = narrow n c.ranges.n in
    let digits = decimal_text (nat_abs n) in
    let written =
    c.push_decimal.ensures
    ∙ ap (λ k. take room (said c.if-below.self ++ decimal_text k)) (c.from.ensures ∙ c.unsigned_abs.ensures.value ∙ ap nat_abs same) in
    elim c.if-below.branch [
      | then-below w ↦
          let below : lt_z n (pos 0) ≡ true = ap (λ z. lt_z z (pos 0)) (sym same) ∙ w.if-below.true in
          written
          ∙ ap (λ x. take room (x ++ digits)) (ap said w.self-is ∙ w.push_byte.ensures)
          ∙ take_again room (t ++ (minus ∷ [])) digits
          ∙ ap (take room) (append_assoc t (minus ∷ []) digits ∙ ap (λ x. t ++ x) (below_text n below))
      | else-below w ↦
          let above : lt_z n (pos 0) ≡ false = ap (λ z. lt_z z (pos 0)) (sym same) ∙ w.if-below.false in
          written
          ∙ ap (λ x. take room (x ++ digits)) (ap said w.self-is)
          ∙ ap (λ x. take room (t ++ x)) (above_text n above)
    ]
