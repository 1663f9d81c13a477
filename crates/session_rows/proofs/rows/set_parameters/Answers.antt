-- `session_rows::rows::set_parameters` meets its contract: each parameter is the byte at its place.
use Rattle.std.proofs.Common.{◌∙◌}
use Rattle.session_rows.specs.Calls.{with_parameters}
use Rattle.session_rows.specs.Table.{parameters_set}
use Rattle.session_rows.proofs.rows.set_parameters.Goals as goal

pub returns : goal.returns
unfolding parameters_set
returns c i =
    record {
      state =
          with_parameters c.args.state (record {
            sqt = (c.from.ensures ∙ c.byte_at.ensures) i;
            paninit = (c.from-2.ensures ∙ c.byte_at-2.ensures) i;
            panmin = (c.from-3.ensures ∙ c.byte_at-3.ensures) i;
            panmax = (c.from-4.ensures ∙ c.byte_at-4.ensures) i;
            gainup = (c.from-5.ensures ∙ c.byte_at-5.ensures) i;
            gaindn = (c.from-6.ensures ∙ c.byte_at-6.ensures) i;
            mestep = (c.from-7.ensures ∙ c.byte_at-7.ensures) i;
          });
      text = c.of_outcome.ensures i;
    }
