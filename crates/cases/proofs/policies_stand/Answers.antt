use Rattle.cases.proofs.Policies.{policies_hold}
use Rattle.cases.proofs.policies_stand.Goals as goal

pub returns : goal.returns
returns c = policies_hold
