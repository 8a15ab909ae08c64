use Rattle.cases_words.proofs.Sheets.{judgements_hold}
use Rattle.cases_words.proofs.sheet_rows.judgements_stand.Goals as goal

pub returns : goal.returns
returns c = judgements_hold
