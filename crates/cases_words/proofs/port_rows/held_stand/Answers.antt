use Rattle.cases_words.proofs.Held.{held_hold}
use Rattle.cases_words.proofs.port_rows.held_stand.Goals as goal

pub returns : goal.returns
returns c = held_hold
