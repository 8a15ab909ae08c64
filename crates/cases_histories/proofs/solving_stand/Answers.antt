use Rattle.cases_histories.proofs.Solving.{solving_say}
use Rattle.cases_histories.proofs.solving_stand.Goals as goal

pub returns : goal.returns
returns c = solving_say
