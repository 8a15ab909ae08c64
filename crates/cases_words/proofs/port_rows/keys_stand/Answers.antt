use Rattle.cases_words.proofs.Limits.{keys_shown}
use Rattle.cases_words.proofs.port_rows.keys_stand.Goals as goal

pub returns : goal.returns
returns c = keys_shown
