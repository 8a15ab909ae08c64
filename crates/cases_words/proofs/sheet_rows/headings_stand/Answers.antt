use Rattle.cases_words.proofs.Fields.{headings_shown}
use Rattle.cases_words.proofs.sheet_rows.headings_stand.Goals as goal

pub returns : goal.returns
returns c = headings_shown
