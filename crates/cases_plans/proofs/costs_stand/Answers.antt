use Rattle.cases_plans.proofs.Costs.{costs_say}
use Rattle.cases_plans.proofs.costs_stand.Goals as goal

pub returns : goal.returns
returns c = costs_say
