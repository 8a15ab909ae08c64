-- What is proved of the reading of sheets.
use Rattle.std.specs.Prelude.{◌≡◌, ℕ, Bool, List}
use Rattle.formula.specs.Grammar.{TextVerdict, whole, stuck, verdict, Whole, NoFormula}
use Rattle.port.specs.Model.{Model}
use Rattle.port.specs.Valid.{Valid}
use Rattle.reading.specs.Reading.{held, reading}
use Rattle.reading.specs.SheetOf.{Bytes, sheet_of}

-- the sheet t is the only one that tells the port m
abbrev pub Only : List ℕ → Model → Type 0
Only t m = (u : List ℕ) → Bytes u → reading u ≡ held m → u ≡ t

-- A sheet that is taken tells a valid port, is that port's sheet, and is the only one that tells it.
abbrev pub Taken : Type 0
Taken = (t : List ℕ) (m : Model) → Bytes t → reading t ≡ held m → Valid m × (t ≡ sheet_of m) × Only t m

-- The sheet of every valid port is taken, and tells that port.
abbrev pub Written : Type 0
Written = (m : Model) → Valid m → reading (sheet_of m) ≡ held m

-- What the reading says of a text over n marks, the grammar says too: it is a formula, or none, and then no formula
-- goes on at that place.
abbrev pub GrammarAgrees : ℕ → List ℕ → TextVerdict → Type 0
GrammarAgrees n t whole = (m : ℕ) → (v : Bool) × Whole n m t v
GrammarAgrees n t (stuck k) = NoFormula n t k

abbrev pub Grammatical : Type 0
Grammatical = (n : ℕ) (t : List ℕ) → GrammarAgrees n t (verdict n t)
