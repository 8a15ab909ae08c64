use Rattle.cases_sheets.proofs.Loads.{one_answer}
use Rattle.cases_sheets.proofs.one_answer_stands.Goals as goal

pub returns : goal.returns
returns c = one_answer
