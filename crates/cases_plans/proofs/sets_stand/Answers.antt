use Rattle.cases_plans.proofs.Sets.{sets_say}
use Rattle.cases_plans.proofs.sets_stand.Goals as goal

pub returns : goal.returns
returns c = sets_say
