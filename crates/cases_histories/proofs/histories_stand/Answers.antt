use Rattle.cases_histories.proofs.Histories.{histories_say}
use Rattle.cases_histories.proofs.histories_stand.Goals as goal

pub returns : goal.returns
returns c = histories_say
