use Rattle.cases_histories.proofs.Controls.{numbered_say}
use Rattle.cases_histories.proofs.numbered_stand.Goals as goal

pub returns : goal.returns
returns c = numbered_say
