use Rattle.plans.proofs.Ranks.{one_rank}
use Rattle.plans.proofs.ranks_stand.Goals as goal

pub returns : goal.returns
returns c = one_rank
