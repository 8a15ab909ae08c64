-- Sheets: how a port is written, how a sheet is read, and what is proved of the two.
use Rattle.std.specs.Prelude.{◌≡◌, ℕ, Bool, true, false, List, [], ◌∷◌, ◌++◌, take, codes}
use Rattle.formula.specs.Grammar.{TextVerdict, whole, stuck}
use Rattle.faults.specs.declared.layers.ByteFault.TheVariants.{Opening}
use Rattle.faults.specs.declared.layers.RecordFault.TheVariants.{Byte, Kind}
use Rattle.faults.specs.declared.layers.PortFault.TheVariants.{Record, Sequence, Start}
use Rattle.port.specs.Limits.{In}
use Rattle.port.specs.Model.{Model, first}
use Rattle.reading.specs.Reading.{Read, held, refused, finish, records, reading}
use Rattle.reading.specs.SheetOf.{Bytes, number_bytes, minutes_bytes, text_bytes, bit_of, text_bit, condition_bytes, move_bytes, request_bytes, concatenated, records_of, header_of, sheet_of}
use Rattle.reading.specs.Theorems.{Only, GrammarAgrees}
use Rattle.cases_words.specs.Rows.{Said, Row, gives, Shown}
use Rattle.cases_words.specs.Limits.{move}
use Rattle.cases_words.specs.Ports.{header, request, port, heads, go, back, quay, moved}
use Rattle.cases_words.specs.Ports as ports
use Rattle.cases_words.specs.Fields.{ends}

-- ── how a port is written ──

abbrev quay_records : List ℕ
quay_records =
    1 ∷ 0 ∷
    1 ∷ 1 ∷ 1 ∷
    1 ∷ 1 ∷ 3 ∷
    2 ∷ 12 ∷ 1 ∷ 0 ∷ 4 ∷
    2 ∷ 12 ∷ 2 ∷ 0 ∷ 6 ∷
    2 ∷ 3 ∷ 1 ∷ 1 ∷
    2 ∷ 15 ∷ 2 ∷ 1 ∷ 1 ∷ 255 ∷ 255 ∷
    3 ∷ 10 ∷ 1 ∷ 1 ∷ 97 ∷
    3 ∷ 13 ∷ 1 ∷ 4 ∷ 33 ∷ 98 ∷ 124 ∷ 97 ∷ 5 ∷ 33 ∷ 97 ∷ 38 ∷ 33 ∷ 98 ∷
    []

abbrev quay_header : List ℕ
quay_header = 71 ∷ 65 ∷ 84 ∷ 69 ∷ 2 ∷ 4 ∷ 5 ∷ 1 ∷ 2 ∷ []

abbrev pub quay_sheet : List ℕ
quay_sheet = quay_header ++ quay_records

abbrev pub written : List (Row (List ℕ))
written =
    -- what is absent takes no byte
    gives (number_bytes 0) [] (0 ∷ []) ∷ gives (number_bytes 7) (7 ∷ []) [] ∷
    gives (minutes_bytes 0) [] (0 ∷ 0 ∷ []) ∷ gives (minutes_bytes 1) (0 ∷ 1 ∷ []) (1 ∷ []) ∷
    gives (minutes_bytes 256) (1 ∷ 0 ∷ []) (0 ∷ 0 ∷ []) ∷ gives (minutes_bytes 258) (1 ∷ 2 ∷ []) (2 ∷ 1 ∷ []) ∷ gives (minutes_bytes 65535) (255 ∷ 255 ∷ []) (0 ∷ 255 ∷ []) ∷
    gives (text_bytes (codes "1")) [] (1 ∷ 49 ∷ []) ∷ gives (text_bytes (codes "!a")) (2 ∷ 33 ∷ 97 ∷ []) (33 ∷ 97 ∷ []) ∷ gives (text_bytes (codes "11")) (2 ∷ 49 ∷ 49 ∷ []) [] ∷
    -- a condition by its low and its high byte
    gives (condition_bytes 0) (1 ∷ 0 ∷ []) (1 ∷ 1 ∷ 0 ∷ []) ∷ gives (condition_bytes 3) (1 ∷ 1 ∷ 3 ∷ []) (1 ∷ 3 ∷ []) ∷
    gives (condition_bytes 256) (1 ∷ 2 ∷ 1 ∷ []) (1 ∷ 3 ∷ 0 ∷ 1 ∷ []) ∷ gives (condition_bytes 261) (1 ∷ 3 ∷ 5 ∷ 1 ∷ []) (1 ∷ 3 ∷ 1 ∷ 5 ∷ []) ∷
    gives (move_bytes (move 0 0 0 0)) (2 ∷ 0 ∷ []) (2 ∷ 15 ∷ 0 ∷ 0 ∷ 0 ∷ 0 ∷ 0 ∷ []) ∷
    gives (move_bytes (move 2 1 3 260)) (2 ∷ 15 ∷ 2 ∷ 1 ∷ 3 ∷ 1 ∷ 4 ∷ []) (2 ∷ 15 ∷ 1 ∷ 2 ∷ 3 ∷ 1 ∷ 4 ∷ []) ∷
    gives (move_bytes (move 0 1 0 5)) (2 ∷ 10 ∷ 1 ∷ 0 ∷ 5 ∷ []) (2 ∷ 10 ∷ 1 ∷ 5 ∷ []) ∷
    gives (request_bytes (request 0 0 (codes "1") (codes "1"))) (3 ∷ 0 ∷ []) (3 ∷ 12 ∷ 1 ∷ 49 ∷ 1 ∷ 49 ∷ []) ∷
    gives (request_bytes (request 1 2 (codes "a") (codes "!b"))) (3 ∷ 15 ∷ 1 ∷ 2 ∷ 1 ∷ 97 ∷ 2 ∷ 33 ∷ 98 ∷ []) (3 ∷ 15 ∷ 1 ∷ 2 ∷ 2 ∷ 33 ∷ 98 ∷ 1 ∷ 97 ∷ []) ∷
    gives (concatenated number_bytes (4 ∷ 0 ∷ 5 ∷ [])) (4 ∷ 5 ∷ []) (4 ∷ 0 ∷ 5 ∷ []) ∷ gives (concatenated condition_bytes []) [] (1 ∷ 0 ∷ []) ∷
    gives (concatenated condition_bytes (0 ∷ 1 ∷ [])) (1 ∷ 0 ∷ 1 ∷ 1 ∷ 1 ∷ []) (1 ∷ 1 ∷ 1 ∷ 1 ∷ 0 ∷ []) ∷
    -- the whole: header, conditions, moves, requests
    gives (header_of heads) quay_header (71 ∷ 65 ∷ 84 ∷ 69 ∷ 2 ∷ 4 ∷ 5 ∷ 2 ∷ 1 ∷ []) ∷
    gives (header_of (header 1 2 3 4 5)) (codes "GATE" ++ (1 ∷ 2 ∷ 3 ∷ 4 ∷ 5 ∷ [])) (1 ∷ 2 ∷ 3 ∷ 4 ∷ 5 ∷ []) ∷
    gives (records_of quay) quay_records quay_sheet ∷ gives (records_of (port heads [] [] [])) [] quay_header ∷
    gives (records_of (port heads (0 ∷ []) (move 0 0 0 0 ∷ []) (request 0 0 (codes "1") (codes "1") ∷ []))) (1 ∷ 0 ∷ 2 ∷ 0 ∷ 3 ∷ 0 ∷ []) (3 ∷ 0 ∷ 2 ∷ 0 ∷ 1 ∷ 0 ∷ []) ∷
    gives (sheet_of quay) quay_sheet quay_records ∷
    gives (sheet_of first) (codes "GATE" ++ (1 ∷ 1 ∷ 1 ∷ 0 ∷ 0 ∷ 1 ∷ 0 ∷ [])) (codes "GATE" ++ (1 ∷ 1 ∷ 1 ∷ 0 ∷ 0 ∷ [])) ∷
    []

abbrev pub map_bits : List (Row ℕ)
map_bits =
    gives (bit_of 0) 0 1 ∷ gives (bit_of 1) 1 0 ∷ gives (bit_of 65535) 1 65535 ∷
    gives (text_bit (codes "1")) 0 1 ∷ gives (text_bit (codes "0")) 1 0 ∷ gives (text_bit []) 1 0 ∷ gives (text_bit (codes "11")) 1 0 ∷
    []

pub record BytesRow : Type 0 where
  pub list : List ℕ
  pub holds : Bool

abbrev pub byte_lists : List BytesRow
byte_lists =
    record { list = []; holds = true } ∷
    record { list = 0 ∷ 255 ∷ []; holds = true } ∷
    record { list = sheet_of quay; holds = true } ∷
    record { list = 256 ∷ []; holds = false } ∷
    record { list = 0 ∷ 300 ∷ 1 ∷ []; holds = false } ∷
    -- a valid port whose minutes are no two bytes: no port in memory has them, but validity does not say so
    record { list = sheet_of (moved (move 0 0 1 65536 ∷ [])); holds = false } ∷
    []

abbrev pub BytesHold : Type 0
BytesHold = (r : BytesRow) → In r byte_lists → Said r.holds (Bytes r.list)

-- ── how a sheet is read ──

abbrev read_so_far : Model
read_so_far = port heads (0 ∷ 1 ∷ 3 ∷ []) [] []

abbrev pub reads : List (Row Read)
reads =
    -- the start condition, number 2, is judged at the end
    gives (finish 5 read_so_far) (held read_so_far) (refused Start 5) ∷
    gives (finish 5 (port heads (0 ∷ 1 ∷ []) [] [])) (refused Start 5) (held (port heads (0 ∷ 1 ∷ []) [] [])) ∷
    -- records, after 3 that were read
    gives (records 9 3 read_so_far 17 []) (held read_so_far) (refused (ends 17) 3) ∷
    gives (records 9 3 read_so_far 17 (3 ∷ 0 ∷ [])) (held (port heads (0 ∷ 1 ∷ 3 ∷ []) [] (request 0 0 (codes "1") (codes "1") ∷ []))) (held read_so_far) ∷
    gives (records 9 3 read_so_far 17 (3 ∷ 0 ∷ 2 ∷ 0 ∷ [])) (refused (Record (Kind 19)) 4) (refused (Record (Kind 19)) 3) ∷
    gives (records 9 3 read_so_far 17 (2 ∷ [])) (refused (ends 18) 3) (refused (ends 18) 4) ∷
    -- no more than so many of them are read
    gives (records 0 3 read_so_far 17 (9 ∷ [])) (held read_so_far) (refused (Record (Kind 17)) 3) ∷
    gives (records 1 3 read_so_far 17 (3 ∷ 0 ∷ 9 ∷ [])) (held (port heads (0 ∷ 1 ∷ 3 ∷ []) [] (request 0 0 (codes "1") (codes "1") ∷ []))) (refused (Record (Kind 19)) 4) ∷
    -- whole sheets
    gives (reading quay_sheet) (held quay) (held first) ∷
    gives (reading (sheet_of first)) (held first) (held quay) ∷
    gives (reading (take 17 quay_sheet)) (held read_so_far) (held quay) ∷
    gives (reading (quay_sheet ++ (3 ∷ 0 ∷ []))) (held (port heads ports.conditions ports.moves (go ∷ back ∷ request 0 0 (codes "1") (codes "1") ∷ []))) (held quay) ∷
    -- a record is cut off, comes late, or falls
    gives (reading (quay_sheet ++ (3 ∷ []))) (refused (ends 58) 9) (held quay) ∷
    gives (reading (quay_sheet ++ (1 ∷ 0 ∷ []))) (refused (Record (Kind 57)) 9) (held quay) ∷
    gives (reading (take 17 quay_sheet ++ (1 ∷ 1 ∷ 2 ∷ []))) (refused (Sequence 17) 3) (refused (Sequence 19) 3) ∷
    gives (reading (take 52 quay_sheet)) (refused (ends 52) 8) (refused (ends 57) 8) ∷
    -- what is at fault first is told
    gives (reading (take 14 quay_sheet)) (refused Start 2) (held (port heads (0 ∷ 1 ∷ []) [] [])) ∷
    gives (reading (take 14 quay_sheet ++ (4 ∷ []))) (refused (Record (Kind 14)) 2) (refused Start 2) ∷
    gives (reading (take 9 quay_sheet)) (refused Start 0) (refused (ends 9) 0) ∷
    gives (reading (take 8 quay_sheet)) (refused (ends 8) 0) (refused Start 0) ∷
    gives (reading (codes "GATS")) (refused (Record (Byte Opening)) 0) (refused (ends 4) 0) ∷
    gives (reading []) (refused (ends 0) 0) (refused (Record (Byte Opening)) 0) ∷
    []

-- ── what is proved of them ──

-- a sheet, a port, and whether no other sheet tells it
pub record OnlyRow : Type 0 where
  pub sheet : List ℕ
  pub port : Model
  pub holds : Bool

abbrev pub onlies : List OnlyRow
onlies =
    record { sheet = quay_sheet; port = quay; holds = true } ∷
    record { sheet = sheet_of first; port = first; holds = true } ∷
    record { sheet = quay_sheet; port = first; holds = false } ∷
    record { sheet = take 17 quay_sheet; port = quay; holds = false } ∷
    -- of a port that no sheet tells, none does but any
    record { sheet = quay_sheet; port = port heads [] [] []; holds = true } ∷
    []

abbrev pub OnliesHold : Type 0
OnliesHold = (r : OnlyRow) → In r onlies → Said r.holds (Only r.sheet r.port)

-- a text over so many marks, and what a reading may say of it
pub record JudgedRow : Type 0 where
  pub marks : ℕ
  pub text : List ℕ
  pub verdict : TextVerdict
  pub holds : Bool

abbrev judged_row : Bool → ℕ → List ℕ → TextVerdict → JudgedRow
judged_row holds marks text verdict = record { marks = marks; text = text; verdict = verdict; holds = holds }

abbrev pub judgements : List JudgedRow
judgements =
    judged_row true 2 (codes "a&!b") whole ∷
    judged_row true 1 (codes "a&!b") (stuck 3) ∷
    judged_row true 2 (codes "a&") (stuck 2) ∷
    judged_row false 1 (codes "a&!b") whole ∷
    judged_row false 2 (codes "a&!b") (stuck 3) ∷
    judged_row false 2 (codes "a&") (stuck 1) ∷
    judged_row false 2 (codes "a&") whole ∷
    []

abbrev pub JudgementsHold : Type 0
JudgementsHold = (r : JudgedRow) → In r judgements → Said r.holds (GrammarAgrees r.marks r.text r.verdict)

-- Without their premises the theorems on sheets would be false: there are numbers that are no bytes and still tell a port, whose
-- sheet they are not; there are ports that are not valid and whose sheet does not tell them.
pub record Needed : Type 0 where
  pub bytes : ((t : List ℕ) (m : Model) → reading t ≡ held m → t ≡ sheet_of m) → ⊥
  pub valid : ((m : Model) → reading (sheet_of m) ≡ held m) → ⊥

abbrev pub WrittenShown : Type 0
WrittenShown = Shown written

abbrev pub MapBitsShown : Type 0
MapBitsShown = Shown map_bits

abbrev pub ReadsShown : Type 0
ReadsShown = Shown reads
