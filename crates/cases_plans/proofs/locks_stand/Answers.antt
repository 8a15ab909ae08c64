use Rattle.cases_plans.proofs.Locks.{locks_say}
use Rattle.cases_plans.proofs.locks_stand.Goals as goal

pub returns : goal.returns
returns c = locks_say
