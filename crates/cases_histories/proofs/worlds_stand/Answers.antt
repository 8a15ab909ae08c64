use Rattle.cases_histories.proofs.Worlds.{worlds_say}
use Rattle.cases_histories.proofs.worlds_stand.Goals as goal

pub returns : goal.returns
returns c = worlds_say
