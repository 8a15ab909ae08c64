use Rattle.cases_words.proofs.Limits.{members_hold}
use Rattle.cases_words.proofs.port_rows.members_stand.Goals as goal

pub returns : goal.returns
returns c = members_hold
