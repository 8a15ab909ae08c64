use Rattle.cases_plans.proofs.Costs.{runs_say}
use Rattle.cases_plans.proofs.runs_stand.Goals as goal

pub returns : goal.returns
returns c = runs_say
