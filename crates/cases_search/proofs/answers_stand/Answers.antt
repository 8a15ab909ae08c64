use Rattle.cases_search.proofs.Answers.{answers_say}
use Rattle.cases_search.proofs.answers_stand.Goals as goal

pub returns : goal.returns
returns c = answers_say
