use Rattle.cases_words.proofs.Formulas.{places_hold}
use Rattle.cases_words.proofs.formula_rows.places_stand.Goals as goal

pub returns : goal.returns
returns c = places_hold
