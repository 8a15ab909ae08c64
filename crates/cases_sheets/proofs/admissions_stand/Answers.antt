use Rattle.cases_sheets.proofs.Records.{admissions_shown}
use Rattle.cases_sheets.proofs.admissions_stand.Goals as goal

pub returns : goal.returns
returns c = admissions_shown
