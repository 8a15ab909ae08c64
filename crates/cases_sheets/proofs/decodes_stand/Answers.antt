use Rattle.cases_sheets.proofs.Records.{decodings_hold}
use Rattle.cases_sheets.proofs.decodes_stand.Goals as goal

pub returns : goal.returns
returns c = decodings_hold
