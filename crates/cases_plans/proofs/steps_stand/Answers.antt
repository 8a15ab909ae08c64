use Rattle.cases_plans.proofs.Steps.{steps_say}
use Rattle.cases_plans.proofs.steps_stand.Goals as goal

pub returns : goal.returns
returns c = steps_say
