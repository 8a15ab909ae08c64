use Rattle.cases_words.proofs.Sheets.{onlies_hold}
use Rattle.cases_words.proofs.sheet_rows.onlies_stand.Goals as goal

pub returns : goal.returns
returns c = onlies_hold
