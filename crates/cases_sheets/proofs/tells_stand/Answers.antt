use Rattle.cases_sheets.proofs.Loads.{tells_hold}
use Rattle.cases_sheets.proofs.tells_stand.Goals as goal

pub returns : goal.returns
returns c = tells_hold
