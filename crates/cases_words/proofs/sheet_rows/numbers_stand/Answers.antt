use Rattle.cases_words.proofs.Fields.{numbers_shown}
use Rattle.cases_words.proofs.sheet_rows.numbers_stand.Goals as goal

pub returns : goal.returns
returns c = numbers_shown
