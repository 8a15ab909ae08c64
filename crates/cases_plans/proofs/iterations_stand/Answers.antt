use Rattle.cases_plans.proofs.Sets.{iterations_say}
use Rattle.cases_plans.proofs.iterations_stand.Goals as goal

pub returns : goal.returns
returns c = iterations_say
