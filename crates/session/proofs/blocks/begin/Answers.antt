-- `session::blocks::begin` meets its contract: a blank line, and the state at the start.
use Rattle.std.proofs.Common.{refl}
use Rattle.session.proofs.Steps.{unread}
use Rattle.session.proofs.blocks.begin.Goals as goal

pub returns : goal.returns
returns c = unread _ c.blank.ensures refl c.start.ensures
