use Rattle.cases_words.proofs.Formulas.{unambiguous}
use Rattle.cases_words.proofs.formula_rows.one_value_stands.Goals as goal

pub returns : goal.returns
returns c = unambiguous
