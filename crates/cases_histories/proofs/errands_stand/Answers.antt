use Rattle.cases_histories.proofs.Errands.{errands_say}
use Rattle.cases_histories.proofs.errands_stand.Goals as goal

pub returns : goal.returns
returns c = errands_say
