use Rattle.cases_words.proofs.Formulas.{refusals_hold}
use Rattle.cases_words.proofs.formula_rows.refusals_stand.Goals as goal

pub returns : goal.returns
returns c = refusals_hold
