use Rattle.cases_words.proofs.Requests.{requests_hold}
use Rattle.cases_words.proofs.port_rows.requests_stand.Goals as goal

pub returns : goal.returns
returns c = requests_hold
