use Rattle.cases_words.proofs.Records.{begins_shown}
use Rattle.cases_words.proofs.sheet_rows.begins_stand.Goals as goal

pub returns : goal.returns
returns c = begins_shown
