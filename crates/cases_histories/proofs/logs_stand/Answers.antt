use Rattle.cases_histories.proofs.Outings.{logs_say}
use Rattle.cases_histories.proofs.logs_stand.Goals as goal

pub returns : goal.returns
returns c = logs_say
