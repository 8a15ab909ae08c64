use Rattle.cases_plans.proofs.Locks.{lookups_say}
use Rattle.cases_plans.proofs.lookups_stand.Goals as goal

pub returns : goal.returns
returns c = lookups_say
