use Rattle.cases_sheets.proofs.Readers.{reads_hold}
use Rattle.cases_sheets.proofs.reads_stand.Goals as goal

pub returns : goal.returns
returns c = reads_hold
