use Rattle.cases_words.proofs.Records.{requests_shown}
use Rattle.cases_words.proofs.sheet_rows.read_requests_stand.Goals as goal

pub returns : goal.returns
returns c = requests_shown
