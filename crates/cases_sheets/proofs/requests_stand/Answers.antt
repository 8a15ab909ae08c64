use Rattle.cases_sheets.proofs.Records.{requests_shown}
use Rattle.cases_sheets.proofs.requests_stand.Goals as goal

pub returns : goal.returns
returns c = requests_shown
