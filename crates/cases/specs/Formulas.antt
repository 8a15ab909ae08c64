-- Formulas with their values, and texts that are no formula.
use Rattle.std.specs.Prelude.{ℕ, Bool, true, false, List, [], ◌∷◌, codes}
use Rattle.formula.specs.Grammar.{Whole, NoFormula}
use Rattle.port.specs.Limits.{In}

-- a text over so many marks, and its value on a set of them: mark a is 1, b is 2, c is 4
pub record Row : Type 0 where
  pub marks : ℕ
  pub text : List ℕ
  pub on : ℕ
  pub value : Bool

abbrev pub rows : List Row
rows =
    record { marks = 3; text = codes "a|b&c"; on = 1; value = true } ∷
    record { marks = 3; text = codes "a|b&c"; on = 4; value = false } ∷
    record { marks = 3; text = codes "(a|b)&c"; on = 1; value = false } ∷
    record { marks = 2; text = codes "!a&b"; on = 0; value = false } ∷
    record { marks = 2; text = codes "!(a&b)"; on = 0; value = true } ∷
    record { marks = 2; text = codes "!!b|0"; on = 2; value = true } ∷
    record { marks = 1; text = codes "1"; on = 0; value = true } ∷
    []

abbrev pub FormulasHold : Type 0
FormulasHold = (r : Row) → In r rows → Whole r.marks r.on r.text r.value

-- a text over so many marks, and the first place where no formula goes on
pub record Faulty : Type 0 where
  pub marks : ℕ
  pub text : List ℕ
  pub place : ℕ

abbrev pub faulty : List Faulty
faulty =
    record { marks = 2; text = codes "a&"; place = 2 } ∷
    record { marks = 2; text = codes "a)b"; place = 1 } ∷
    record { marks = 2; text = codes "a|c"; place = 2 } ∷
    record { marks = 2; text = codes "(a"; place = 2 } ∷
    record { marks = 2; text = []; place = 0 } ∷
    []

abbrev pub FaultyHold : Type 0
FaultyHold = (r : Faulty) → In r faulty → NoFormula r.marks r.text r.place
