use Rattle.cases.proofs.Sheets.{sheets_valid}
use Rattle.cases.proofs.ports_stand.Goals as goal

pub returns : goal.returns
returns c = sheets_valid
