use Rattle.cases_words.proofs.Sheets.{bytes_hold}
use Rattle.cases_words.proofs.sheet_rows.bytes_stand.Goals as goal

pub returns : goal.returns
returns c = bytes_hold
