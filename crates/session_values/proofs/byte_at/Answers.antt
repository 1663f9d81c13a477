-- By the whole number up to the highest BYTE.
use Rattle.std.proofs.Common.{ap, ◌∙◌}
use Rattle.std.specs.Prelude.{unwrap_or}
use Rattle.session_numbers.specs.Numbers.{byte_of}
use Rattle.session_values.specs.Values.{BYTE}
use Rattle.session_values.proofs.byte_at.Goals as goal

pub returns : goal.returns
unfolding BYTE
returns c =
    c.unwrap_or.ensures ∙ ap (λ o. unwrap_or o 0) c.natural.ensures.value ∙ ap (λ w. unwrap_or (byte_of w) 0) c.word.ensures
