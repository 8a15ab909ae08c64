use Rattle.cases_histories.proofs.Calls.{calls_say}
use Rattle.cases_histories.proofs.calls_stand.Goals as goal

pub returns : goal.returns
returns c = calls_say
