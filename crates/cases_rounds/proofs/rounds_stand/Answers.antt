use Rattle.cases_rounds.proofs.Rounds.{rounds_say}
use Rattle.cases_rounds.proofs.rounds_stand.Goals as goal

pub returns : goal.returns
returns c = rounds_say
