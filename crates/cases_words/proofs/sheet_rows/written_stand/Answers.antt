use Rattle.cases_words.proofs.Sheets.{written_shown}
use Rattle.cases_words.proofs.sheet_rows.written_stand.Goals as goal

pub returns : goal.returns
returns c = written_shown
