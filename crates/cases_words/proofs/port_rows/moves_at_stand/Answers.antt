use Rattle.cases_words.proofs.Limits.{moves_at_shown}
use Rattle.cases_words.proofs.port_rows.moves_at_stand.Goals as goal

pub returns : goal.returns
returns c = moves_at_shown
