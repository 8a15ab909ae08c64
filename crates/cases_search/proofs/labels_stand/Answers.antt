use Rattle.cases_search.proofs.Labels.{labels_say}
use Rattle.cases_search.proofs.labels_stand.Goals as goal

pub returns : goal.returns
returns c = labels_say
