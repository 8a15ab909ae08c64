use Rattle.cases_words.proofs.Faults.{lines_shown}
use Rattle.cases_words.proofs.fault_rows.fault_lines_stand.Goals as goal

pub returns : goal.returns
returns c = lines_shown
