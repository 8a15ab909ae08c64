use Rattle.cases_sheets.proofs.Readers.{counts_are}
use Rattle.cases_sheets.proofs.counts_stand.Goals as goal

pub returns : goal.returns
returns c = counts_are
