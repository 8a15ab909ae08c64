use Rattle.cases_words.proofs.Formulas.{parts_hold}
use Rattle.cases_words.proofs.formula_rows.parts_stand.Goals as goal

pub returns : goal.returns
returns c = parts_hold
