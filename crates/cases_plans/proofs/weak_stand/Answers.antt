use Rattle.cases_plans.proofs.Costs.{weak_say}
use Rattle.cases_plans.proofs.weak_stand.Goals as goal

pub returns : goal.returns
returns c = weak_say
