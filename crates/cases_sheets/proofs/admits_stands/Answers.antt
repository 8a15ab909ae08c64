use Rattle.cases_sheets.proofs.Records.{admits_as_read}
use Rattle.cases_sheets.proofs.admits_stands.Goals as goal

pub returns : goal.returns
returns c = admits_as_read
