use Rattle.cases_sheets.proofs.Records.{kinds_shown}
use Rattle.cases_sheets.proofs.kinds_stand.Goals as goal

pub returns : goal.returns
returns c = kinds_shown
