use Rattle.cases_words.proofs.Bits.{bits_shown}
use Rattle.cases_words.proofs.formula_rows.bits_stand.Goals as goal

pub returns : goal.returns
returns c = bits_shown
