use Rattle.cases_plans.proofs.Costs.{lawful_say}
use Rattle.cases_plans.proofs.lawful_stand.Goals as goal

pub returns : goal.returns
returns c = lawful_say
