use Rattle.cases_search.proofs.Least.{least_say}
use Rattle.cases_search.proofs.least_stand.Goals as goal

pub returns : goal.returns
returns c = least_say
