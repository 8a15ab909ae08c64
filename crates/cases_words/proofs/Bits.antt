-- The rows of what the grammar computes.
use Rattle.std.proofs.Common.{ℕ, Bool, cond, List, [], ◌∷◌, refl}
use Rattle.formula.specs.Grammar.{ByteEffect, refuse, to, step, TextVerdict, whole, stuck, goes, verdict}
use Rattle.cases_words.specs.Bits.{bits, steps, verdicts, BitsShown, StepsShown, VerdictsShown}
use Rattle.cases_words.proofs.Rows.{all_shown}

abbrev pub bit_code : Bool → List ℕ
bit_code b = cond b 1 0 ∷ []

abbrev next_code : ByteEffect → List ℕ
next_code refuse = []
next_code (to b d) = cond b 1 0 ∷ d ∷ []

abbrev pub verdict_code : TextVerdict → List ℕ
verdict_code whole = []
verdict_code (stuck p) = p ∷ []

pub bits_shown : BitsShown
bits_shown = all_shown bit_code bits refl refl

pub steps_shown : StepsShown
unfolding step
steps_shown = all_shown next_code steps refl refl

pub verdicts_shown : VerdictsShown
unfolding step goes verdict
verdicts_shown = all_shown verdict_code verdicts refl refl
