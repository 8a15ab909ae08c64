use Rattle.cases_histories.proofs.Promises.{lives_say}
use Rattle.cases_histories.proofs.lives_stand.Goals as goal

pub returns : goal.returns
returns c = lives_say
