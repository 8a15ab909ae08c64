use Rattle.cases_sheets.proofs.Drafts.{drafts_shown}
use Rattle.cases_sheets.proofs.drafts_stand.Goals as goal

pub returns : goal.returns
returns c = drafts_shown
