use Rattle.cases_search.proofs.Loops.{loops_say}
use Rattle.cases_search.proofs.loops_stand.Goals as goal

pub returns : goal.returns
returns c = loops_say
