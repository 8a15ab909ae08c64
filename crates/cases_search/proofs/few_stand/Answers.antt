use Rattle.cases_search.proofs.Few.{few_say}
use Rattle.cases_search.proofs.few_stand.Goals as goal

pub returns : goal.returns
returns c = few_say
