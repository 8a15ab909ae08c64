use Rattle.cases_words.proofs.Fields.{constants_shown}
use Rattle.cases_words.proofs.sheet_rows.constants_stand.Goals as goal

pub returns : goal.returns
returns c = constants_shown
