use Rattle.histories.proofs.Holds.{promise_holds}
use Rattle.histories.proofs.promise_stands.Goals as goal

pub returns : goal.returns
returns c = promise_holds
