use Rattle.cases_words.proofs.Faults.{numbers_shown}
use Rattle.cases_words.proofs.fault_rows.fault_numbers_stand.Goals as goal

pub returns : goal.returns
returns c = numbers_shown
