use Rattle.cases_plans.proofs.Costs.{prices_say}
use Rattle.cases_plans.proofs.prices_stand.Goals as goal

pub returns : goal.returns
returns c = prices_say
