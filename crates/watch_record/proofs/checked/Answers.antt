-- The test decides which of the two answers the call gives.
use Rattle.std.proofs.Common.{sym, ◌∙◌}
use Rattle.watch_rules.proofs.Calls.{tested_formed, tested_unformed}
use Rattle.watch_record.proofs.checked.Goals as goal

pub returns-then-well_formed : goal.returns-then-well_formed
returns-then-well_formed c = sym (tested_formed c.args.w.now (sym c.well_formed-2.ensures ∙ c.if-well_formed.true))

pub returns-else-well_formed : goal.returns-else-well_formed
returns-else-well_formed c = sym (tested_unformed c.args.w.now (sym c.well_formed-2.ensures ∙ c.if-well_formed.false))
