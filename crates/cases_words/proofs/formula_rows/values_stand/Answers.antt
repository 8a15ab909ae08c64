use Rattle.cases_words.proofs.Truths.{values_shown}
use Rattle.cases_words.proofs.formula_rows.values_stand.Goals as goal

pub returns : goal.returns
returns c = values_shown
