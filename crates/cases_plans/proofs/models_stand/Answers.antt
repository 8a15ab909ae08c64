use Rattle.cases_plans.proofs.Models.{models_say}
use Rattle.cases_plans.proofs.models_stand.Goals as goal

pub returns : goal.returns
returns c = models_say
