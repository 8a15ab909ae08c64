use Rattle.cases_rounds.proofs.Stages.{stages_say}
use Rattle.cases_rounds.proofs.stages_stand.Goals as goal

pub returns : goal.returns
returns c = stages_say
