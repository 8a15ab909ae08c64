use Rattle.cases_histories.proofs.Outings.{courses_say}
use Rattle.cases_histories.proofs.courses_stand.Goals as goal

pub returns : goal.returns
returns c = courses_say
