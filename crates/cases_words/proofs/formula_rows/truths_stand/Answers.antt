use Rattle.cases_words.proofs.Truths.{truths_shown}
use Rattle.cases_words.proofs.formula_rows.truths_stand.Goals as goal

pub returns : goal.returns
returns c = truths_shown
