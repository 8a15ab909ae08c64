use Rattle.cases_sheets.proofs.Records.{heads_shown}
use Rattle.cases_sheets.proofs.heads_stand.Goals as goal

pub returns : goal.returns
returns c = heads_shown
