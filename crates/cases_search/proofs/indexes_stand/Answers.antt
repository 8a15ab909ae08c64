use Rattle.cases_search.proofs.Indexes.{indexes_say}
use Rattle.cases_search.proofs.indexes_stand.Goals as goal

pub returns : goal.returns
returns c = indexes_say
