-- The number, the place and the layer of a fault, and what an error is printed as.
use Rattle.std.specs.Prelude.{ℕ, List, ◌++◌, codes, decimal}
use Rattle.faults.specs.declared.errors.LoadError.{LoadError}
use Rattle.faults.specs.declared.errors.LoadError.TheVariants.{Fault, Memory}
use Rattle.faults.specs.declared.layers.ByteFault.{ByteFault}
use Rattle.faults.specs.declared.layers.ByteFault.TheVariants.{Ends, Opening}
use Rattle.faults.specs.declared.layers.RecordFault.{RecordFault}
use Rattle.faults.specs.declared.layers.RecordFault.TheVariants.{Byte, Formula, Kind, Map, Absent}
use Rattle.faults.specs.declared.layers.PortFault.{PortFault}
use Rattle.faults.specs.declared.layers.PortFault.TheVariants.{Record, Count, Missing, Sequence, Many, Start}

-- Layer 1, bytes.
abbrev pub byte_number : ByteFault → ℕ
byte_number (Ends p) = 1
byte_number Opening = 2

abbrev pub byte_place : ByteFault → ℕ
byte_place (Ends p) = p
byte_place Opening = 0

abbrev pub byte_layer : ByteFault → ℕ
byte_layer b = 1

-- Layer 3, records; a byte's or a formula's fault keeps its own number, place and layer.
abbrev pub record_number : RecordFault → ℕ
record_number (Byte b) = byte_number b
record_number (Formula f) = 10
record_number (Kind p) = 4
record_number (Map p) = 5
record_number (Absent p) = 6

abbrev pub record_place : RecordFault → ℕ
record_place (Byte b) = byte_place b
record_place (Formula f) = f.place
record_place (Kind p) = p
record_place (Map p) = p
record_place (Absent p) = p

abbrev pub record_layer : RecordFault → ℕ
record_layer (Byte b) = 1
record_layer (Formula f) = 2
record_layer (Kind p) = 3
record_layer (Map p) = 3
record_layer (Absent p) = 3

-- Layer 4, the port; a record's fault keeps its own number, place and layer.
abbrev pub fault_number : PortFault → ℕ
fault_number (Record r) = record_number r
fault_number (Count p) = 3
fault_number (Missing p) = 7
fault_number (Sequence p) = 8
fault_number (Many p) = 9
fault_number Start = 11

abbrev pub fault_place : PortFault → ℕ
fault_place (Record r) = record_place r
fault_place (Count p) = p
fault_place (Missing p) = p
fault_place (Sequence p) = p
fault_place (Many p) = p
fault_place Start = 8

abbrev pub fault_layer : PortFault → ℕ
fault_layer (Record r) = record_layer r
fault_layer (Count p) = 4
fault_layer (Missing p) = 4
fault_layer (Sequence p) = 4
fault_layer (Many p) = 4
fault_layer Start = 4

-- The line that an error is printed as.
abbrev pub error_text : LoadError → List ℕ
error_text (Fault f records) =
    codes "fault " ++ (decimal (fault_number f) ++ (codes " layer " ++ (decimal (fault_layer f) ++ (codes " at " ++ (decimal (fault_place f) ++ (codes " record " ++ decimal records))))))
error_text Memory = codes "no memory"
