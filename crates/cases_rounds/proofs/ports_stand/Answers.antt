use Rattle.cases_rounds.proofs.Ports.{ports_say}
use Rattle.cases_rounds.proofs.ports_stand.Goals as goal

pub returns : goal.returns
returns c = ports_say
