use Rattle.cases_histories.proofs.Outings.{errors_say}
use Rattle.cases_histories.proofs.errors_stand.Goals as goal

pub returns : goal.returns
returns c = errors_say
