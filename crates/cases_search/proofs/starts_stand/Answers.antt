use Rattle.cases_search.proofs.Steps.{starts_say}
use Rattle.cases_search.proofs.starts_stand.Goals as goal

pub returns : goal.returns
returns c = starts_say
