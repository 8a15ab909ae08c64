use Rattle.cases_words.proofs.Fields.{texts_shown}
use Rattle.cases_words.proofs.sheet_rows.field_texts_stand.Goals as goal

pub returns : goal.returns
returns c = texts_shown
