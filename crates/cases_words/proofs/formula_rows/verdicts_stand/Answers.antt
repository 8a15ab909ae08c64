use Rattle.cases_words.proofs.Bits.{verdicts_shown}
use Rattle.cases_words.proofs.formula_rows.verdicts_stand.Goals as goal

pub returns : goal.returns
returns c = verdicts_shown
