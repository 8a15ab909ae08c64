-- The rows of what truth is computed from.
use Rattle.std.proofs.Common.{ℕ, cond, List, [], ◌∷◌, refl}
use Rattle.formula.specs.Grammar.{step, goes, verdict}
use Rattle.formula.specs.Truth.{Value, nothing, value, read, truth}
use Rattle.cases_words.specs.Truths.{values, truths, ValuesShown, TruthsShown}
use Rattle.cases_words.proofs.Rows.{all_shown}
use Rattle.cases_words.proofs.Bits.{bit_code}

abbrev value_code : Value → List ℕ
value_code nothing = []
value_code (value v t) = cond v 1 0 ∷ t

pub values_shown : ValuesShown
unfolding read
values_shown = all_shown value_code values refl refl

pub truths_shown : TruthsShown
unfolding read truth step goes verdict
truths_shown = all_shown bit_code truths refl refl
