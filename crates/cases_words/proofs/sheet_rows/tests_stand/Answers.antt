use Rattle.cases_words.proofs.Fields.{tests_shown}
use Rattle.cases_words.proofs.sheet_rows.tests_stand.Goals as goal

pub returns : goal.returns
returns c = tests_shown
