use Rattle.cases_search.proofs.Labels.{counts_say}
use Rattle.cases_search.proofs.counts_stand.Goals as goal

pub returns : goal.returns
returns c = counts_say
