use Rattle.cases_rounds.proofs.Stages.{stages_computed_say}
use Rattle.cases_rounds.proofs.stages_computed_stand.Goals as goal

pub returns : goal.returns
returns c = stages_computed_say
