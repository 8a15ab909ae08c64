use Rattle.cases_words.proofs.Limits.{marked_hold}
use Rattle.cases_words.proofs.port_rows.marked_stand.Goals as goal

pub returns : goal.returns
returns c = marked_hold
