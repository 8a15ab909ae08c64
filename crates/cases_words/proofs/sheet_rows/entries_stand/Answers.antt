use Rattle.cases_words.proofs.Records.{entries_shown}
use Rattle.cases_words.proofs.sheet_rows.entries_stand.Goals as goal

pub returns : goal.returns
returns c = entries_shown
