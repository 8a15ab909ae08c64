use Rattle.cases.proofs.Formulas.{formulas_hold}
use Rattle.cases.proofs.formulas_stand.Goals as goal

pub returns : goal.returns
returns c = formulas_hold
