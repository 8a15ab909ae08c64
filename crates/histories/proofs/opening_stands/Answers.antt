use Rattle.histories.proofs.Holds.{opening_holds}
use Rattle.histories.proofs.opening_stands.Goals as goal

pub returns : goal.returns
returns c = opening_holds
