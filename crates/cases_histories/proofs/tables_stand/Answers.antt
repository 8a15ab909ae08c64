use Rattle.cases_histories.proofs.Tables.{tables_say}
use Rattle.cases_histories.proofs.tables_stand.Goals as goal

pub returns : goal.returns
returns c = tables_say
