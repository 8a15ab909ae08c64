-- The rows of what is read, part by part.
use Rattle.std.proofs.Common.{ℕ, List, [], ◌∷◌, ◌++◌, refl}
use Rattle.formula.specs.Grammar.{step, goes, verdict}
use Rattle.faults.specs.Faults.{fault_number, fault_place, fault_layer}
use Rattle.faults.specs.declared.layers.PortFault.{PortFault}
use Rattle.port.specs.declared.Header.{Header}
use Rattle.reading.specs.Reading.{Step, got, fault, and_then, provided, byte, bytes, number, field, minutes, text_length, whole_text, judged, text, rises, count, start_stage, opening, heading}
use Rattle.cases_words.specs.Fields.{numbers, texts, headings, tests, amounts, constants, NumbersShown, FieldTextsShown, HeadingsShown, TestsShown, AmountsShown, ConstantsShown}
use Rattle.cases_words.proofs.Rows.{all_shown}
use Rattle.cases_words.proofs.Bits.{bit_code}

abbrev pub fault_code : PortFault → List ℕ
fault_code f = fault_number f ∷ fault_place f ∷ fault_layer f ∷ []

abbrev pub step_code : {V : Type 0} → (V → List ℕ) → Step V → List ℕ
step_code code (got v p s) = 0 ∷ p ∷ (code v ++ s)
step_code code (fault f) = 1 ∷ fault_code f

abbrev pub header_code : Header → List ℕ
header_code h = h.marks ∷ h.operations ∷ h.stages ∷ h.stage ∷ h.condition ∷ []

abbrev pub number_code : ℕ → List ℕ
number_code n = n ∷ []

pub numbers_shown : NumbersShown
unfolding and_then provided byte number field minutes text_length count start_stage
numbers_shown = all_shown (step_code number_code) numbers refl refl

pub texts_shown : FieldTextsShown
unfolding and_then provided byte bytes text_length whole_text judged text opening step goes verdict
texts_shown = all_shown (step_code (λ (w : List ℕ). w)) texts refl refl

pub headings_shown : HeadingsShown
unfolding and_then provided byte bytes count start_stage opening heading
headings_shown = all_shown (step_code header_code) headings refl refl

pub tests_shown : TestsShown
unfolding rises
tests_shown = all_shown bit_code tests refl refl

pub amounts_shown : AmountsShown
amounts_shown = all_shown number_code amounts refl refl

pub constants_shown : ConstantsShown
constants_shown = all_shown (λ (w : List ℕ). w) constants refl refl
