-- The claim on the answers, by its proof.
use Rattle.host_rules.proofs.Claims.{nothing_lost}
use Rattle.host_rules.proofs.claimed.Goals as goal

pub returns : goal.returns
returns c = nothing_lost
