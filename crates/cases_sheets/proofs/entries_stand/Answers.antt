use Rattle.cases_sheets.proofs.Records.{entries_shown}
use Rattle.cases_sheets.proofs.entries_stand.Goals as goal

pub returns : goal.returns
returns c = entries_shown
