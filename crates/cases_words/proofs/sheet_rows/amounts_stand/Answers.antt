use Rattle.cases_words.proofs.Fields.{amounts_shown}
use Rattle.cases_words.proofs.sheet_rows.amounts_stand.Goals as goal

pub returns : goal.returns
returns c = amounts_shown
