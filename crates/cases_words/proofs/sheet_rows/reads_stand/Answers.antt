use Rattle.cases_words.proofs.Sheets.{reads_shown}
use Rattle.cases_words.proofs.sheet_rows.reads_stand.Goals as goal

pub returns : goal.returns
returns c = reads_shown
