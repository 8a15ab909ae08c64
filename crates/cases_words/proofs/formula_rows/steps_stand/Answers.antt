use Rattle.cases_words.proofs.Bits.{steps_shown}
use Rattle.cases_words.proofs.formula_rows.steps_stand.Goals as goal

pub returns : goal.returns
returns c = steps_shown
