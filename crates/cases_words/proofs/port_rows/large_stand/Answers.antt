use Rattle.cases_words.proofs.Ports.{large_hold}
use Rattle.cases_words.proofs.port_rows.large_stand.Goals as goal

pub returns : goal.returns
returns c = large_hold
