use Rattle.cases_sheets.proofs.Loads.{as_it_was}
use Rattle.cases_sheets.proofs.as_it_was_stands.Goals as goal

pub returns : goal.returns
returns c = as_it_was
