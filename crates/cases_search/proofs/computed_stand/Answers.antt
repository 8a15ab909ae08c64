use Rattle.cases_search.proofs.Indexes.{computed_say}
use Rattle.cases_search.proofs.computed_stand.Goals as goal

pub returns : goal.returns
returns c = computed_say
