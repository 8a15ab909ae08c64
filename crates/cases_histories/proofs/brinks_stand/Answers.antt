use Rattle.cases_histories.proofs.Promises.{brinks_say}
use Rattle.cases_histories.proofs.brinks_stand.Goals as goal

pub returns : goal.returns
returns c = brinks_say
