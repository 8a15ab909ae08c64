use Rattle.cases_words.proofs.Limits.{existing_hold}
use Rattle.cases_words.proofs.port_rows.existing_stand.Goals as goal

pub returns : goal.returns
returns c = existing_hold
