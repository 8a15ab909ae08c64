use Rattle.cases.proofs.Sheets.{sheets_hold}
use Rattle.cases.proofs.sheets_stand.Goals as goal

pub returns : goal.returns
returns c = sheets_hold
