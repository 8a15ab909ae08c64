use Rattle.plans.proofs.Decide.{reached_attains}
use Rattle.plans.proofs.reached_stands.Goals as goal

pub returns : goal.returns
returns c = reached_attains
