-- Faults: their numbers, their places and their layers, and how an error is printed.
use Rattle.std.specs.Prelude.{ℕ, List, [], ◌∷◌, codes}
use Rattle.formula.specs.declared.FormulaFault.{FormulaFault}
use Rattle.faults.specs.declared.errors.LoadError.TheVariants.{Fault, Memory}
use Rattle.faults.specs.declared.layers.ByteFault.TheVariants.{Ends, Opening}
use Rattle.faults.specs.declared.layers.RecordFault.{RecordFault}
use Rattle.faults.specs.declared.layers.RecordFault.TheVariants.{Byte, Formula, Kind, Map, Absent}
use Rattle.faults.specs.declared.layers.PortFault.TheVariants.{Record, Count, Missing, Sequence, Many, Start}
use Rattle.faults.specs.Faults.{byte_number, byte_place, byte_layer, record_number, record_place, record_layer, fault_number, fault_place, fault_layer, error_text}
use Rattle.cases_words.specs.Rows.{Row, gives, Shown}

-- no formula goes on at place 65
abbrev formula_fault : RecordFault
formula_fault = let f : FormulaFault = record { place = 65 } in Formula f

abbrev pub numbers : List (Row ℕ)
numbers =
    gives (byte_number (Ends 7)) 1 7 ∷ gives (byte_number Opening) 2 1 ∷
    gives (record_number (Byte (Ends 7))) 1 4 ∷ gives (record_number (Byte Opening)) 2 4 ∷ gives (record_number formula_fault) 10 65 ∷
    gives (record_number (Kind 7)) 4 5 ∷ gives (record_number (Map 7)) 5 6 ∷ gives (record_number (Absent 7)) 6 7 ∷
    gives (fault_number (Record (Byte (Ends 7)))) 1 7 ∷ gives (fault_number (Record formula_fault)) 10 7 ∷ gives (fault_number (Record (Map 7))) 5 7 ∷
    gives (fault_number (Count 4)) 3 4 ∷ gives (fault_number (Missing 4)) 7 4 ∷ gives (fault_number (Sequence 4)) 8 9 ∷
    gives (fault_number (Many 4)) 9 8 ∷ gives (fault_number Start) 11 8 ∷
    []

-- the opening is at fault at 0, and the start condition at 8, where it stands in the header
abbrev pub places : List (Row ℕ)
places =
    gives (byte_place (Ends 7)) 7 0 ∷ gives (byte_place Opening) 0 4 ∷
    gives (record_place (Byte (Ends 7))) 7 0 ∷ gives (record_place (Byte Opening)) 0 7 ∷ gives (record_place formula_fault) 65 0 ∷
    gives (record_place (Kind 7)) 7 8 ∷ gives (record_place (Map 7)) 7 8 ∷ gives (record_place (Absent 7)) 7 8 ∷
    gives (fault_place (Record (Byte (Ends 7)))) 7 0 ∷ gives (fault_place (Record formula_fault)) 65 0 ∷ gives (fault_place (Record (Kind 7))) 7 0 ∷
    gives (fault_place (Count 4)) 4 3 ∷ gives (fault_place (Missing 20)) 20 7 ∷ gives (fault_place (Sequence 20)) 20 8 ∷
    gives (fault_place (Many 20)) 20 9 ∷ gives (fault_place Start) 8 11 ∷
    []

-- a fault of a lower layer keeps its own
abbrev pub layers : List (Row ℕ)
layers =
    gives (byte_layer (Ends 7)) 1 7 ∷ gives (byte_layer Opening) 1 2 ∷
    gives (record_layer (Byte (Ends 7))) 1 3 ∷ gives (record_layer (Byte Opening)) 1 3 ∷ gives (record_layer formula_fault) 2 3 ∷
    gives (record_layer (Kind 7)) 3 4 ∷ gives (record_layer (Map 7)) 3 4 ∷ gives (record_layer (Absent 7)) 3 2 ∷
    gives (fault_layer (Record (Byte (Ends 7)))) 1 4 ∷ gives (fault_layer (Record formula_fault)) 2 4 ∷ gives (fault_layer (Record (Absent 7))) 3 4 ∷
    gives (fault_layer (Count 4)) 4 3 ∷ gives (fault_layer (Missing 4)) 4 3 ∷ gives (fault_layer (Sequence 4)) 4 3 ∷
    gives (fault_layer (Many 4)) 4 3 ∷ gives (fault_layer Start) 4 1 ∷
    []

abbrev pub lines : List (Row (List ℕ))
lines =
    gives (error_text (Fault (Record (Byte (Ends 65))) 10)) (codes "fault 1 layer 1 at 65 record 10") (codes "fault 1 layer 1 at 10 record 65") ∷
    gives (error_text (Fault (Record (Byte Opening)) 0)) (codes "fault 2 layer 1 at 0 record 0") (codes "fault 2 layer 1 at 0 record") ∷
    gives (error_text (Fault (Record formula_fault) 10)) (codes "fault 10 layer 2 at 65 record 10") (codes "fault 10 layer 4 at 65 record 10") ∷
    gives (error_text (Fault (Sequence 14) 2)) (codes "fault 8 layer 4 at 14 record 2") (codes "fault 8 layer 3 at 14 record 2") ∷
    gives (error_text (Fault Start 11)) (codes "fault 11 layer 4 at 8 record 11") (codes "fault 11 layer 4 at 0 record 11") ∷
    gives (error_text Memory) (codes "no memory") (codes "fault 0 layer 0 at 0 record 0") ∷
    []

abbrev pub FaultNumbersShown : Type 0
FaultNumbersShown = Shown numbers

abbrev pub FaultPlacesShown : Type 0
FaultPlacesShown = Shown places

abbrev pub FaultLayersShown : Type 0
FaultLayersShown = Shown layers

abbrev pub FaultLinesShown : Type 0
FaultLinesShown = Shown lines
