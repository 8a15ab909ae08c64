use Rattle.cases_search.proofs.Verdicts.{verdicts_say}
use Rattle.cases_search.proofs.verdicts_stand.Goals as goal

pub returns : goal.returns
returns c = verdicts_say
