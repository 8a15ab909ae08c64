use Rattle.cases_search.proofs.Steps.{steps_say}
use Rattle.cases_search.proofs.steps_stand.Goals as goal

pub returns : goal.returns
returns c = steps_say
