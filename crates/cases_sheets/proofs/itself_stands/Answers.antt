use Rattle.cases_sheets.proofs.Readers.{itself_shown}
use Rattle.cases_sheets.proofs.itself_stands.Goals as goal

pub returns : goal.returns
returns c = itself_shown
