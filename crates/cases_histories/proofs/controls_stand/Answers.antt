use Rattle.cases_histories.proofs.Controls.{controls_say}
use Rattle.cases_histories.proofs.controls_stand.Goals as goal

pub returns : goal.returns
returns c = controls_say
