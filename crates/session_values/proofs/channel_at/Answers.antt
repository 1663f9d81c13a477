-- By the whole number up to the highest CH.
use Rattle.std.proofs.Common.{ap, ◌∙◌}
use Rattle.std.specs.Prelude.{unwrap_or}
use Rattle.session_numbers.specs.Numbers.{channel_of}
use Rattle.session_values.specs.Values.{CH}
use Rattle.session_values.proofs.channel_at.Goals as goal

pub returns : goal.returns
unfolding CH
returns c =
    c.unwrap_or.ensures ∙ ap (λ o. unwrap_or o 0) c.natural.ensures.value ∙ ap (λ w. unwrap_or (channel_of w) 0) c.word.ensures
