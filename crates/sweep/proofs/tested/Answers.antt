-- `tested` meets its contract: it refuses where the record is not well formed.
use Rattle.std.proofs.Common.{refl, sym}
use Rattle.refusal.specs.declared.Refusal.TheVariants.{RecordNotWellFormed}
use Rattle.refusal.proofs.Provided.{refuse_now, refuse_later}
use Rattle.sweep_rules.specs.Filing.{checking}
use Rattle.sweep.proofs.tested.Goals as goal

pub returns-then-well_formed : goal.returns-then-well_formed
unfolding checking
returns-then-well_formed c = sym (refuse_later RecordNotWellFormed (sym c.if-well_formed.ensures) refl)

pub returns-else-well_formed : goal.returns-else-well_formed
unfolding checking
returns-else-well_formed c = sym (refuse_now RecordNotWellFormed _ (sym c.if-well_formed.ensures))
