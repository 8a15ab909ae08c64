use Rattle.cases_plans.proofs.Models.{orders_say}
use Rattle.cases_plans.proofs.orders_stand.Goals as goal

pub returns : goal.returns
returns c = orders_say
