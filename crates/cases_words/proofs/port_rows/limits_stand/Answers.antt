use Rattle.cases_words.proofs.Held.{same_limits}
use Rattle.cases_words.proofs.port_rows.limits_stand.Goals as goal

pub returns : goal.returns
returns c = same_limits
