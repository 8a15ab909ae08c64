use Rattle.cases_words.proofs.Faults.{places_shown}
use Rattle.cases_words.proofs.fault_rows.fault_places_stand.Goals as goal

pub returns : goal.returns
returns c = places_shown
