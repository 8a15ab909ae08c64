use Rattle.cases.proofs.Errands.{errands_hold}
use Rattle.cases.proofs.locks_stand.Goals as goal

pub returns : goal.returns
returns c = errands_hold
