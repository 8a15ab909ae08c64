use Rattle.cases_words.proofs.Limits.{rising_hold}
use Rattle.cases_words.proofs.port_rows.rising_stand.Goals as goal

pub returns : goal.returns
returns c = rising_hold
