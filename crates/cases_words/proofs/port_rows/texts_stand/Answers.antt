use Rattle.cases_words.proofs.Limits.{texts_hold}
use Rattle.cases_words.proofs.port_rows.texts_stand.Goals as goal

pub returns : goal.returns
returns c = texts_hold
