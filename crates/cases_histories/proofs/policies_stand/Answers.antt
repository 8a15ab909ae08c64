use Rattle.cases_histories.proofs.Policies.{policies_say}
use Rattle.cases_histories.proofs.policies_stand.Goals as goal

pub returns : goal.returns
returns c = policies_say
