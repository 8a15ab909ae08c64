use Rattle.cases_words.proofs.Formulas.{read_parts_hold}
use Rattle.cases_words.proofs.formula_rows.read_parts_stand.Goals as goal

pub returns : goal.returns
returns c = read_parts_hold
