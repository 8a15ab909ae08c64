use Rattle.plans.proofs.Ranks.{left_serves}
use Rattle.plans.proofs.left_serves_stands.Goals as goal

pub returns : goal.returns
returns c = left_serves
