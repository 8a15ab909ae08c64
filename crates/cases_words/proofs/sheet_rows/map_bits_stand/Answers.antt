use Rattle.cases_words.proofs.Sheets.{map_bits_shown}
use Rattle.cases_words.proofs.sheet_rows.map_bits_stand.Goals as goal

pub returns : goal.returns
returns c = map_bits_shown
