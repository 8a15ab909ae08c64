use Rattle.cases.proofs.Formulas.{faulty_hold}
use Rattle.cases.proofs.faulty_formulas_stand.Goals as goal

pub returns : goal.returns
returns c = faulty_hold
