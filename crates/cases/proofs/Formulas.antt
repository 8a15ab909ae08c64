-- The rows of formulas, each by one computed test.
use Rattle.std.proofs.Common.{◌≡◌, ℕ, Bool, true, false, ◌&&◌, eqb, leb, length, refl, ap, subst, eqb-true, leb-true}
use mathlib.Core.Bool.{and-eq-true_iff, false≢true}
use Rattle.formula.specs.Grammar.{Whole, NoFormula, TextVerdict, whole, stuck, step, goes, verdict}
use Rattle.formula.specs.Truth.{read, truth, is_formula}
use Rattle.formula.proofs.Language.{no_formula}
use Rattle.formula.proofs.Truths.{formula_truth}
use Rattle.plans.specs.Reach.{each}
use Rattle.cases.specs.Formulas.{Row, rows, FormulasHold, Faulty, faulty, FaultyHold}
use Rattle.cases.proofs.Rows.{all_hold, alike, alike_true}

-- the text is a formula, and its computed truth is the row's value
abbrev right : Row → Bool
right r = is_formula r.marks r.text && alike (truth r.marks r.on r.text) r.value

right_holds : (r : Row) → right r ≡ true → Whole r.marks r.on r.text r.value
right_holds r e =
    let h = (and-eq-true_iff (is_formula r.marks r.text) (alike (truth r.marks r.on r.text) r.value)).0 e in
    subst (Whole r.marks r.on r.text) (alike_true (truth r.marks r.on r.text) r.value h.1)
    (formula_truth r.marks r.text h.0 r.on)

all_right : each right rows ≡ true
unfolding step goes verdict read truth
all_right = refl

pub formulas_hold : FormulasHold
formulas_hold = all_hold (λ r. Whole r.marks r.on r.text r.value) right right_holds rows all_right

-- the reading is stuck there
abbrev is_stuck : TextVerdict → ℕ → Bool
is_stuck whole p = false
is_stuck (stuck q) p = eqb q p

is_stuck_true : (v : TextVerdict) (p : ℕ) → is_stuck v p ≡ true → v ≡ stuck p
is_stuck_true whole p e = absurd (false≢true e)
is_stuck_true (stuck q) p e = ap stuck (eqb-true q p e)

abbrev stops : Faulty → Bool
stops r = leb r.place (length r.text) && is_stuck (goes r.marks true 0 r.text 0) r.place

stops_holds : (r : Faulty) → stops r ≡ true → NoFormula r.marks r.text r.place
stops_holds r e =
    let h = (and-eq-true_iff (leb r.place (length r.text)) (is_stuck (goes r.marks true 0 r.text 0) r.place)).0 e in
    no_formula r.marks r.text r.place (leb-true r.place (length r.text) h.0)
    (is_stuck_true (goes r.marks true 0 r.text 0) r.place h.1)

all_stop : each stops faulty ≡ true
unfolding step goes
all_stop = refl

pub faulty_hold : FaultyHold
faulty_hold = all_hold (λ r. NoFormula r.marks r.text r.place) stops stops_holds faulty all_stop
