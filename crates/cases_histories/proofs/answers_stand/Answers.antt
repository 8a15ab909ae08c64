use Rattle.cases_histories.proofs.Answers.{answers_say}
use Rattle.cases_histories.proofs.answers_stand.Goals as goal

pub returns : goal.returns
returns c = answers_say
