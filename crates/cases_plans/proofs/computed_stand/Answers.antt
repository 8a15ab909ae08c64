use Rattle.cases_plans.proofs.Sets.{computed_say}
use Rattle.cases_plans.proofs.computed_stand.Goals as goal

pub returns : goal.returns
returns c = computed_say
