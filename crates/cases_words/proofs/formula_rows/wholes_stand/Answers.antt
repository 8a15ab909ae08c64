use Rattle.cases_words.proofs.Formulas.{wholes_hold}
use Rattle.cases_words.proofs.formula_rows.wholes_stand.Goals as goal

pub returns : goal.returns
returns c = wholes_hold
