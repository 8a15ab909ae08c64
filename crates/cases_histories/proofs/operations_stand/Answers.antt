use Rattle.cases_histories.proofs.Handlings.{operations_say}
use Rattle.cases_histories.proofs.operations_stand.Goals as goal

pub returns : goal.returns
returns c = operations_say
