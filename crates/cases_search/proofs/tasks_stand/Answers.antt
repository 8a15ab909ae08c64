use Rattle.cases_search.proofs.Tasks.{tasks_say}
use Rattle.cases_search.proofs.tasks_stand.Goals as goal

pub returns : goal.returns
returns c = tasks_say
