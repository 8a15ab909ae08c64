use Rattle.cases_histories.proofs.Handlings.{handlings_say}
use Rattle.cases_histories.proofs.handlings_stand.Goals as goal

pub returns : goal.returns
returns c = handlings_say
