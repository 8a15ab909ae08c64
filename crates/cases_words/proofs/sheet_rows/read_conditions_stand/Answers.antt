use Rattle.cases_words.proofs.Records.{conditions_shown}
use Rattle.cases_words.proofs.sheet_rows.read_conditions_stand.Goals as goal

pub returns : goal.returns
returns c = conditions_shown
