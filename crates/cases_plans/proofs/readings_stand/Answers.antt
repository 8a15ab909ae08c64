use Rattle.cases_plans.proofs.Flags.{readings_say}
use Rattle.cases_plans.proofs.readings_stand.Goals as goal

pub returns : goal.returns
returns c = readings_say
