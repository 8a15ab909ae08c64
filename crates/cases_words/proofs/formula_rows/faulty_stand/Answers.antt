use Rattle.cases_words.proofs.Formulas.{faulty_hold}
use Rattle.cases_words.proofs.formula_rows.faulty_stand.Goals as goal

pub returns : goal.returns
returns c = faulty_hold
