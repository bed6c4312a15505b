use Rattle.claims.proofs.Held.{held}
use Rattle.claims.proofs.claimed.Goals as goal

pub returns : goal.returns
returns c = held
