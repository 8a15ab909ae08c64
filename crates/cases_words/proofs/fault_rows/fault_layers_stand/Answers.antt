use Rattle.cases_words.proofs.Faults.{layers_shown}
use Rattle.cases_words.proofs.fault_rows.fault_layers_stand.Goals as goal

pub returns : goal.returns
returns c = layers_shown
