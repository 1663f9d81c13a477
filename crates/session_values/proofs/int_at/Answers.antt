-- By the whole number of 32 bits with a sign.
use Rattle.std.proofs.Common.{ap, ◌∙◌, pos, rules}
use Rattle.std.specs.Prelude.{unwrap_or}
use mir.Syntax.{w32}
use mir.ValLaws.{to_z-of_z}
use Rattle.session_numbers.specs.Numbers.{int_of}
use Rattle.session_values.specs.Values.{INT}
use Rattle.session_values.proofs.int_at.Goals as goal

pub returns : goal.returns
unfolding INT
returns c =
    to_z-of_z w32 c.unwrap_or.result (search rules)
    ∙ c.unwrap_or.ensures
    ∙ ap (λ o. unwrap_or o (pos 0)) c.int.ensures
    ∙ ap (λ w. unwrap_or (int_of w) (pos 0)) c.word.ensures
