use Rattle.cases_plans.proofs.Models.{compare_say}
use Rattle.cases_plans.proofs.compare_stand.Goals as goal

pub returns : goal.returns
returns c = compare_say
