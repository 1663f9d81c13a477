-- `session_rows::claimed` meets its contract: by the theorem of this folder.
use Rattle.session_rows.proofs.Claims.{one_row}
use Rattle.session_rows.proofs.claimed.Goals as goal

pub returns : goal.returns
returns c = one_row
