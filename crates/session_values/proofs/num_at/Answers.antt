-- By the float of the word.
use Rattle.std.proofs.Common.{ap, ◌∙◌}
use Rattle.std.specs.Prelude.{unwrap_or}
use Rattle.session_numbers.specs.Numbers.{num_of}
use Rattle.session_values.specs.Values.{NUM, zero_num}
use Rattle.session_values.proofs.num_at.Goals as goal

pub returns : goal.returns
unfolding NUM
returns c =
    c.unwrap_or.ensures ∙ ap (λ o. unwrap_or o zero_num) c.num.ensures ∙ ap (λ w. unwrap_or (num_of w) zero_num) c.word.ensures
