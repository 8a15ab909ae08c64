use Rattle.cases_plans.proofs.Domains.{domains_say}
use Rattle.cases_plans.proofs.domains_stand.Goals as goal

pub returns : goal.returns
returns c = domains_say
