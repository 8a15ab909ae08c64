use Rattle.cases_search.proofs.Tasks.{tasks_computed_say}
use Rattle.cases_search.proofs.tasks_computed_stand.Goals as goal

pub returns : goal.returns
returns c = tasks_computed_say
