use Rattle.cases_words.proofs.Sheets.{needed}
use Rattle.cases_words.proofs.sheet_rows.premises_stand.Goals as goal

pub returns : goal.returns
returns c = needed
