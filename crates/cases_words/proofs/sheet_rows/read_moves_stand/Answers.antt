use Rattle.cases_words.proofs.Records.{moves_shown}
use Rattle.cases_words.proofs.sheet_rows.read_moves_stand.Goals as goal

pub returns : goal.returns
returns c = moves_shown
