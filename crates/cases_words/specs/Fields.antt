-- Reading the parts of a sheet, from place 10 on: bytes, numbers, texts, and what begins a sheet.
use Rattle.std.specs.Prelude.{ℕ, ◌+◌, Bool, true, false, List, [], ◌∷◌, ◌++◌, codes}
use Rattle.formula.specs.declared.FormulaFault.{FormulaFault}
use Rattle.formula.specs.Grammar.{whole, stuck, both}
use Rattle.faults.specs.declared.layers.ByteFault.TheVariants.{Ends, Opening}
use Rattle.faults.specs.declared.layers.RecordFault.TheVariants.{Byte, Formula, Absent}
use Rattle.faults.specs.declared.layers.PortFault.{PortFault}
use Rattle.faults.specs.declared.layers.PortFault.TheVariants.{Record, Count, Missing, Start}
use Rattle.port.specs.declared.Header.{Header}
use Rattle.reading.specs.Reading.{Step, got, fault, and_then, provided, byte, bytes, number, field, minutes, text_length, whole_text, judged, text, same, denied, absent, rises, low_limit, high_limit, present, map_limit, count, start_stage, opening_bytes, opening, heading}
use Rattle.cases_words.specs.Rows.{Row, gives, Shown}
use Rattle.cases_words.specs.Limits.{not_not}
use Rattle.cases_words.specs.Ports.{header}

-- faults of the lower layers
abbrev pub ends : ℕ → PortFault
ends p = Record (Byte (Ends p))

abbrev pub absent_at : ℕ → PortFault
absent_at p = Record (Absent p)

abbrev pub no_formula : ℕ → PortFault
no_formula p = let f : FormulaFault = record { place = p } in Record (Formula f)

-- a value at 11, and a fault
abbrev good : Step ℕ
good = got 5 11 (7 ∷ [])

abbrev bad : Step ℕ
bad = fault (Count 10)

-- adds what is read to the place after it
abbrev more : ℕ → ℕ → List ℕ → Step ℕ
more v p s = got (v + p) p s

abbrev pub numbers : List (Row (Step ℕ))
numbers =
    -- one step after another: the first fault stays
    gives (and_then good more) (got 16 11 (7 ∷ [])) (got 5 11 (7 ∷ [])) ∷
    gives (and_then bad more) (fault (Count 10)) (got 16 11 (7 ∷ [])) ∷
    gives (and_then good (λ v p s. bad)) (fault (Count 10)) (got 5 11 (7 ∷ [])) ∷
    gives (provided true (Count 10) good) (got 5 11 (7 ∷ [])) (fault (Count 10)) ∷
    gives (provided false (Count 10) good) (fault (Count 10)) (got 5 11 (7 ∷ [])) ∷
    -- a byte
    gives (byte 10 (7 ∷ 8 ∷ [])) (got 7 11 (8 ∷ [])) (got 7 10 (8 ∷ [])) ∷
    gives (byte 10 []) (fault (ends 10)) (fault (ends 11)) ∷
    -- a number of one byte: 0 where it is absent, and never written as 0
    gives (number false 10 (7 ∷ [])) (got 0 10 (7 ∷ [])) (got 7 11 []) ∷
    gives (number true 10 (7 ∷ [])) (got 7 11 []) (got 0 10 (7 ∷ [])) ∷
    gives (number true 10 (0 ∷ [])) (fault (absent_at 10)) (got 0 11 []) ∷
    gives (number true 10 []) (fault (ends 10)) (got 0 10 []) ∷
    -- a number below 5, whose map byte is at 8: a fault is at its byte, or at the map where it is absent
    gives (field true 8 5 10 (4 ∷ [])) (got 4 11 []) (fault (Missing 10)) ∷
    gives (field true 8 5 10 (5 ∷ [])) (fault (Missing 10)) (fault (Missing 8)) ∷
    gives (field false 8 5 10 (4 ∷ [])) (got 0 10 (4 ∷ [])) (got 4 11 []) ∷
    gives (field false 8 0 10 (4 ∷ [])) (fault (Missing 8)) (fault (Missing 10)) ∷
    gives (field true 8 5 10 (0 ∷ [])) (fault (absent_at 10)) (got 0 11 []) ∷
    -- minutes, the high byte first
    gives (minutes true 10 (1 ∷ 2 ∷ 9 ∷ [])) (got 258 12 (9 ∷ [])) (got 513 12 (9 ∷ [])) ∷
    gives (minutes true 10 (0 ∷ 1 ∷ [])) (got 1 12 []) (got 256 12 []) ∷
    gives (minutes true 10 (255 ∷ 255 ∷ [])) (got 65535 12 []) (got 510 12 []) ∷
    gives (minutes false 10 (1 ∷ 2 ∷ [])) (got 0 10 (1 ∷ 2 ∷ [])) (got 258 12 []) ∷
    gives (minutes true 10 (0 ∷ 0 ∷ [])) (fault (absent_at 10)) (fault (absent_at 11)) ∷
    gives (minutes true 10 (1 ∷ [])) (fault (ends 11)) (fault (ends 10)) ∷
    -- the length of a text
    gives (text_length 10 (1 ∷ [])) (got 1 11 []) (fault (Missing 10)) ∷
    gives (text_length 10 (63 ∷ [])) (got 63 11 []) (fault (Missing 10)) ∷
    gives (text_length 10 (0 ∷ 97 ∷ [])) (fault (Missing 10)) (got 0 11 (97 ∷ [])) ∷
    gives (text_length 10 (64 ∷ [])) (fault (Missing 10)) (got 64 11 []) ∷
    gives (text_length 10 []) (fault (ends 10)) (fault (Missing 10)) ∷
    -- counts of the header, from 1 to 16; the start stage, below the number of stages
    gives (count 16 4 (1 ∷ [])) (got 1 5 []) (fault (Count 4)) ∷
    gives (count 16 4 (16 ∷ [])) (got 16 5 []) (fault (Count 4)) ∷
    gives (count 16 4 (17 ∷ [])) (fault (Count 4)) (got 17 5 []) ∷
    gives (count 16 4 (0 ∷ [])) (fault (Count 4)) (fault (Count 5)) ∷
    gives (count 16 4 []) (fault (ends 4)) (fault (Count 4)) ∷
    gives (start_stage 2 7 (0 ∷ [])) (got 0 8 []) (fault (Count 7)) ∷
    gives (start_stage 2 7 (1 ∷ [])) (got 1 8 []) (fault (Count 7)) ∷
    gives (start_stage 2 7 (2 ∷ [])) (fault (Count 7)) (got 2 8 []) ∷
    gives (start_stage 2 7 []) (fault (ends 7)) (fault (Count 7)) ∷
    []

abbrev pub texts : List (Row (Step (List ℕ)))
texts =
    -- so many bytes: a sheet that is too short is at fault where it ends
    gives (bytes 2 10 (1 ∷ 2 ∷ 3 ∷ [])) (got (1 ∷ 2 ∷ []) 12 (3 ∷ [])) (got (1 ∷ 2 ∷ 3 ∷ []) 13 []) ∷
    gives (bytes 0 10 (1 ∷ [])) (got [] 10 (1 ∷ [])) (got (1 ∷ []) 11 []) ∷
    gives (bytes 2 10 (1 ∷ [])) (fault (ends 11)) (fault (ends 10)) ∷
    gives (bytes 4 10 []) (fault (ends 10)) (fault (ends 14)) ∷
    -- a text that is written: its length is judged before its bytes are looked for, and it is not 1
    gives (whole_text 10 (2 ∷ 33 ∷ 97 ∷ 9 ∷ [])) (got (codes "!a") 13 (9 ∷ [])) (got (codes "!a") 12 (9 ∷ [])) ∷
    gives (whole_text 10 (1 ∷ 48 ∷ [])) (got (codes "0") 12 []) (fault (absent_at 10)) ∷
    gives (whole_text 10 (1 ∷ 49 ∷ [])) (fault (absent_at 10)) (got (codes "1") 12 []) ∷
    gives (whole_text 10 (2 ∷ 97 ∷ [])) (fault (ends 12)) (got (codes "a") 12 []) ∷
    gives (whole_text 10 (1 ∷ [])) (fault (ends 11)) (fault (absent_at 10)) ∷
    gives (whole_text 10 (64 ∷ [])) (fault (Missing 10)) (fault (ends 11)) ∷
    -- what the grammar says of it, counted from where its bytes begin
    gives (judged 11 whole (got (codes "a") 12 [])) (got (codes "a") 12 []) (fault (no_formula 11)) ∷
    gives (judged 11 (stuck 2) (got (codes "a&") 13 [])) (fault (no_formula 13)) (fault (no_formula 2)) ∷
    gives (judged 11 whole (fault (Count 10))) (fault (Count 10)) (got [] 11 []) ∷
    gives (text false 2 10 (1 ∷ 97 ∷ [])) (got (codes "1") 10 (1 ∷ 97 ∷ [])) (got (codes "a") 12 []) ∷
    gives (text true 2 10 (1 ∷ 97 ∷ [])) (got (codes "a") 12 []) (got (codes "1") 10 (1 ∷ 97 ∷ [])) ∷
    gives (text true 2 10 (3 ∷ codes "a&c")) (fault (no_formula 13)) (fault (no_formula 12)) ∷
    gives (text true 2 10 (2 ∷ codes "a&")) (fault (no_formula 13)) (got (codes "a&") 13 []) ∷
    gives (text true 3 10 (3 ∷ codes "a&c")) (got (codes "a&c") 14 []) (fault (no_formula 13)) ∷
    gives (text true 2 10 (63 ∷ 33 ∷ not_not 31 (codes "1"))) (fault (no_formula 74)) (fault (no_formula 73)) ∷
    -- what begins a sheet
    gives (opening 0 (codes "GATE!")) (got (codes "GATE") 4 (codes "!")) (got (codes "GATE") 4 []) ∷
    gives (opening 0 (codes "gATE")) (fault (Record (Byte Opening))) (got (codes "gATE") 4 []) ∷
    gives (opening 0 (codes "GAT")) (fault (ends 3)) (fault (Record (Byte Opening))) ∷
    gives (opening 0 (codes "sh")) (fault (ends 2)) (fault (Record (Byte Opening))) ∷
    gives (opening 0 (codes "ship")) (fault (Record (Byte Opening))) (fault (ends 4)) ∷
    []

abbrev pub headings : List (Row (Step Header))
headings =
    gives (heading 0 (codes "GATE" ++ (2 ∷ 3 ∷ 4 ∷ 1 ∷ 7 ∷ 9 ∷ []))) (got (header 2 3 4 1 7) 9 (9 ∷ [])) (got (header 2 3 4 7 1) 9 (9 ∷ [])) ∷
    -- the start condition is not judged here
    gives (heading 0 (codes "GATE" ++ (16 ∷ 32 ∷ 16 ∷ 15 ∷ 255 ∷ []))) (got (header 16 32 16 15 255) 9 []) (fault Start) ∷
    gives (heading 0 (codes "GATE" ++ (17 ∷ 33 ∷ 17 ∷ 17 ∷ 0 ∷ []))) (fault (Count 4)) (fault (Count 5)) ∷
    gives (heading 0 (codes "GATE" ++ (2 ∷ 33 ∷ 17 ∷ 17 ∷ 0 ∷ []))) (fault (Count 5)) (fault (Count 6)) ∷
    gives (heading 0 (codes "GATE" ++ (2 ∷ 2 ∷ 17 ∷ 17 ∷ 0 ∷ []))) (fault (Count 6)) (fault (Count 7)) ∷
    gives (heading 0 (codes "GATE" ++ (2 ∷ 2 ∷ 2 ∷ 2 ∷ 0 ∷ []))) (fault (Count 7)) (got (header 2 2 2 2 0) 9 []) ∷
    gives (heading 0 (codes "GATE" ++ (2 ∷ 2 ∷ 2 ∷ 1 ∷ []))) (fault (ends 8)) (fault (ends 9)) ∷
    gives (heading 0 (codes "GATE" ++ (0 ∷ []))) (fault (Count 4)) (fault (ends 5)) ∷
    gives (heading 0 []) (fault (ends 0)) (fault (Record (Byte Opening))) ∷
    []

abbrev yes_is : Bool → Row Bool
yes_is b = gives b true false

abbrev no_is : Bool → Row Bool
no_is b = gives b false true

abbrev pub tests : List (Row Bool)
tests =
    yes_is (same [] []) ∷ yes_is (same (1 ∷ 2 ∷ []) (1 ∷ 2 ∷ [])) ∷ no_is (same (1 ∷ 2 ∷ []) (1 ∷ 3 ∷ [])) ∷ no_is (same (1 ∷ []) (1 ∷ 2 ∷ [])) ∷ no_is (same (1 ∷ 2 ∷ []) (1 ∷ [])) ∷
    yes_is (denied false) ∷ no_is (denied true) ∷
    yes_is (both true true) ∷ no_is (both true false) ∷ no_is (both false true) ∷ no_is (both false false) ∷
    -- a number above the last of a list, if that has one
    yes_is (rises [] 0) ∷ yes_is (rises (4 ∷ 2 ∷ []) 3) ∷ no_is (rises (4 ∷ 2 ∷ []) 2) ∷ no_is (rises (2 ∷ 4 ∷ []) 3) ∷
    -- the bits of a map
    yes_is (present 5 0) ∷ no_is (present 5 1) ∷ yes_is (present 5 2) ∷ no_is (present 5 3) ∷ yes_is (present 15 3) ∷ no_is (present 0 0) ∷
    []

abbrev pub amounts : List (Row ℕ)
amounts =
    -- the low byte of a condition has at most 8 marks, and the high byte those above
    gives (low_limit 1) 2 1 ∷ gives (low_limit 8) 256 128 ∷ gives (low_limit 16) 256 65536 ∷
    gives (high_limit 2) 1 0 ∷ gives (high_limit 8) 1 256 ∷ gives (high_limit 9) 2 512 ∷ gives (high_limit 16) 256 65536 ∷
    gives (map_limit 1) 4 16 ∷ gives (map_limit 2) 16 4 ∷ gives (map_limit 3) 16 4 ∷
    []

abbrev pub constants : List (Row (List ℕ))
constants = gives absent (codes "1") (codes "0") ∷ gives opening_bytes (codes "GATE") (codes "gate") ∷ []

abbrev pub NumbersShown : Type 0
NumbersShown = Shown numbers

abbrev pub FieldTextsShown : Type 0
FieldTextsShown = Shown texts

abbrev pub HeadingsShown : Type 0
HeadingsShown = Shown headings

abbrev pub TestsShown : Type 0
TestsShown = Shown tests

abbrev pub AmountsShown : Type 0
AmountsShown = Shown amounts

abbrev pub ConstantsShown : Type 0
ConstantsShown = Shown constants
