use Rattle.cases_histories.proofs.Promises.{beginnings_say}
use Rattle.cases_histories.proofs.beginnings_stand.Goals as goal

pub returns : goal.returns
returns c = beginnings_say
