use Rattle.cases_sheets.proofs.Readers.{steps_shown}
use Rattle.cases_sheets.proofs.steps_stand.Goals as goal

pub returns : goal.returns
returns c = steps_shown
