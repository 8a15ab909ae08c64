use Rattle.plans.proofs.Ranks.{largest_simulation}
use Rattle.plans.proofs.largest_simulation_stands.Goals as goal

pub returns : goal.returns
returns c = largest_simulation
