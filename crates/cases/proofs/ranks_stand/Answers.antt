use Rattle.cases.proofs.Ranks.{ranks_hold}
use Rattle.cases.proofs.ranks_stand.Goals as goal

pub returns : goal.returns
returns c = ranks_hold
