use Rattle.cases_words.proofs.Records.{tests_shown}
use Rattle.cases_words.proofs.sheet_rows.record_tests_stand.Goals as goal

pub returns : goal.returns
returns c = tests_shown
