use Rattle.cases_words.proofs.Records.{grown_shown}
use Rattle.cases_words.proofs.sheet_rows.grown_stand.Goals as goal

pub returns : goal.returns
returns c = grown_shown
