use Rattle.cases_sheets.proofs.Loads.{holdings_hold}
use Rattle.cases_sheets.proofs.holds_stand.Goals as goal

pub returns : goal.returns
returns c = holdings_hold
