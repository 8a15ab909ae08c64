use Rattle.cases_plans.proofs.Simulations.{simulations_say}
use Rattle.cases_plans.proofs.simulations_stand.Goals as goal

pub returns : goal.returns
returns c = simulations_say
