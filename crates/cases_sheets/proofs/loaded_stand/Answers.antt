use Rattle.cases_sheets.proofs.Loads.{loads_hold}
use Rattle.cases_sheets.proofs.loaded_stand.Goals as goal

pub returns : goal.returns
returns c = loads_hold
