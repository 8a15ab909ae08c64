-- Sheets, with what their reading says.
use Rattle.std.specs.Prelude.{◌≡◌, ℕ, List, [], ◌∷◌, take, slice_set}
use Rattle.port.specs.Limits.{In}
use Rattle.port.specs.Model.{Model}
use Rattle.port.specs.Valid.{Valid}
use Rattle.faults.specs.Faults.{fault_number, fault_layer, fault_place}
use Rattle.reading.specs.Reading.{Read, held, refused, reading}
use Rattle.cases.specs.Ports.{low_staithe, low_staithe_sheet, crowded_sheet, stuck_gate, stuck_gate_sheet}

-- the port that is held; or the number, the layer and the place of a fault, and how many records come before it
pub data Says : Type 0 where
  port : Model → Says
  fault : (number layer place records : ℕ) → Says

abbrev pub says : Read → Says
says (held m) = port m
says (refused f n) = fault (fault_number f) (fault_layer f) (fault_place f) n

pub record Row : Type 0 where
  pub sheet : List ℕ
  pub told : Says

-- the sheet of Low Staithe with another byte at a place
abbrev altered : ℕ → ℕ → List ℕ
altered place byte = slice_set low_staithe_sheet place byte

abbrev pub rows : List Row
rows =
    record { sheet = low_staithe_sheet; told = port low_staithe } ∷
    record { sheet = stuck_gate_sheet; told = port stuck_gate } ∷
    -- bytes that end too soon
    record { sheet = []; told = fault 1 1 0 0 } ∷
    record { sheet = take 65 low_staithe_sheet; told = fault 1 1 65 10 } ∷
    -- another opening, no marks, a kind and a map that there are not
    record { sheet = altered 0 72; told = fault 2 1 0 0 } ∷
    record { sheet = altered 4 0; told = fault 3 4 4 0 } ∷
    record { sheet = altered 9 4; told = fault 4 3 9 0 } ∷
    record { sheet = altered 10 4; told = fault 5 3 10 0 } ∷
    -- a mark that is absent but written, one that there is not, and a condition that is told again
    record { sheet = altered 13 0; told = fault 6 3 13 1 } ∷
    record { sheet = altered 13 4; told = fault 7 4 13 1 } ∷
    record { sheet = altered 16 1; told = fault 8 4 14 2 } ∷
    -- one request too many
    record { sheet = crowded_sheet 33; told = fault 9 4 75 33 } ∷
    -- a text that is no formula, and a start condition that there is not
    record { sheet = altered 65 122; told = fault 10 2 65 10 } ∷
    record { sheet = altered 8 4; told = fault 11 4 8 11 } ∷
    []

abbrev pub SheetsHold : Type 0
SheetsHold = (r : Row) → In r rows → says (reading r.sheet) ≡ r.told

-- and each port that is held is valid
abbrev pub SheetsValid : Type 0
SheetsValid = (r : Row) → In r rows → (m : Model) → r.told ≡ port m → Valid m
