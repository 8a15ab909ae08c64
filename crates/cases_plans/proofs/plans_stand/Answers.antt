use Rattle.cases_plans.proofs.Plans.{plans_say}
use Rattle.cases_plans.proofs.plans_stand.Goals as goal

pub returns : goal.returns
returns c = plans_say
