use Rattle.cases_words.proofs.Ports.{ports_hold}
use Rattle.cases_words.proofs.port_rows.ports_stand.Goals as goal

pub returns : goal.returns
returns c = ports_hold
