use Rattle.cases_histories.proofs.Promises.{promises_say}
use Rattle.cases_histories.proofs.promises_stand.Goals as goal

pub returns : goal.returns
returns c = promises_say
