-- What the code's records and drafts say, and how a kind byte is judged.
use Rattle.std.proofs.Common.{arith}
use Rattle.std.specs.Prelude.{◌≡◌, ℕ, ◌<◌, ◌≤◌, Bool, true, false, List, [], ◌∷◌, length, codes, Some, Ok, Err, MatchResult, Result}
use Rattle.std.specs.Borrow.{Bor}
use Rattle.faults.specs.declared.layers.PortFault.{PortFault}
use Rattle.faults.specs.declared.layers.PortFault.TheVariants.{Record, Many}
use Rattle.faults.specs.declared.layers.RecordFault.TheVariants.{Kind as KindFault}
use Rattle.port.specs.Limits.{In}
use Rattle.port.specs.Model.{Model, RequestModel}
use Rattle.reading.specs.Reading.{Step, fault, Head, admitted as admitted_read, Entry, condition_entry, move_entry, request_entry}
use Rattle.reader.specs.declared.text.SheetText.{SheetText}
use Rattle.records.specs.declared.kinds.Kind.{Kind}
use Rattle.records.specs.declared.kinds.Kind.TheVariants.{Condition, Move, Request}
use Rattle.records.specs.declared.kinds.UnknownKind.{UnknownKind}
use Rattle.records.specs.declared.records.Head.{Head as CodeHead}
use Rattle.records.specs.declared.records.Record.TheVariants.{Condition as ConditionRecord, Move as MoveRecord, Request as RequestRecord}
use Rattle.records.specs.declared.records.RequestAt.{RequestAt}
use Rattle.records.specs.Kinds.{kind_number, Decodes}
use Rattle.records.specs.Entries.{head_of, request_at, entry_of}
use Rattle.records.specs.Admission.{admission}
use Rattle.cases_words.specs.Rows.{Said, Row, gives, Shown}
use Rattle.cases_words.specs.Limits.{move}
use Rattle.cases_words.specs.Ports.{header, request, port, numbers, repeated, heads, go, many_moves}

-- ── kinds ──

abbrev pub kinds : List (Row ℕ)
kinds =
    gives (kind_number Condition) 1 0 ∷
    gives (kind_number Move) 2 3 ∷
    gives (kind_number Request) 3 2 ∷
    []

abbrev pub KindsShown : Type 0
KindsShown = Shown kinds

-- a byte, and the kind that it is told to stand for, or that it stands for none
pub record DecodesRow : Type 0 where
  pub byte : ℕ
  pub answer : Result Kind UnknownKind
  pub holds : Bool

abbrev decodes_row : Bool → ℕ → Result Kind UnknownKind → DecodesRow
decodes_row holds byte answer = record { byte = byte; answer = answer; holds = holds }

abbrev unknown : Result Kind UnknownKind
unknown = Err (record {})

abbrev pub decodings : List DecodesRow
decodings =
    decodes_row true 1 (Ok Condition) ∷
    decodes_row true 2 (Ok Move) ∷
    decodes_row true 3 (Ok Request) ∷
    decodes_row true 0 unknown ∷
    decodes_row true 4 unknown ∷
    decodes_row true 255 unknown ∷
    decodes_row false 2 (Ok Condition) ∷
    decodes_row false 3 (Ok Move) ∷
    decodes_row false 1 (Ok Request) ∷
    decodes_row false 0 (Ok Condition) ∷
    decodes_row false 4 (Ok Request) ∷
    -- each of the three bytes stands for a kind
    decodes_row false 1 unknown ∷
    decodes_row false 2 unknown ∷
    decodes_row false 3 unknown ∷
    []

abbrev pub DecodingsHold : Type 0
DecodingsHold = (r : DecodesRow) → In r decodings → Said r.holds (Decodes r.byte r.answer)

-- ── what is judged of a kind byte ──

abbrev bare : Model
bare = port heads [] [] []

abbrev crowded : Model
crowded = port (header 9 4 5 1 2) (numbers 256) [] []

abbrev three : Model
three = port heads (0 ∷ 1 ∷ 3 ∷ []) (move 0 1 1 7 ∷ []) []

abbrev asked : ℕ → Model
asked n = port heads (0 ∷ 1 ∷ 3 ∷ []) [] (repeated n go)

-- a kind byte at 20 is refused: the kind may not come next; there are too many of it
abbrev misplaced : Result (Unit {0}) PortFault
misplaced = Err (Record (KindFault 20))

abbrev many : Result (Unit {0}) PortFault
many = Err (Many 20)

abbrev admitted : Result (Unit {0}) PortFault
admitted = Ok tt

abbrev pub admissions : List (Row (Result (Unit {0}) PortFault))
admissions =
    gives (admission bare 1 20) admitted misplaced ∷
    gives (admission bare 2 20) admitted misplaced ∷
    gives (admission bare 3 20) admitted misplaced ∷
    gives (admission bare 0 20) misplaced admitted ∷
    gives (admission bare 4 20) misplaced admitted ∷
    -- conditions, then moves, then requests
    gives (admission three 1 20) misplaced admitted ∷
    gives (admission three 2 20) admitted misplaced ∷
    gives (admission three 3 20) admitted misplaced ∷
    gives (admission (asked 1) 2 20) misplaced admitted ∷
    gives (admission (asked 1) 3 20) admitted misplaced ∷
    -- up to 256, 4096 and 32 of them
    gives (admission crowded 1 20) many admitted ∷
    gives (admission crowded 2 20) admitted many ∷
    gives (admission (many_moves 4095) 2 20) admitted many ∷
    gives (admission (many_moves 4096) 2 20) many admitted ∷
    gives (admission (asked 31) 3 20) admitted many ∷
    gives (admission (asked 32) 3 20) many admitted ∷
    -- that it may come next is judged before there is room for it
    gives (admission (port (header 9 4 5 1 2) (numbers 256) [] (go ∷ [])) 1 20) misplaced many ∷
    gives (admission (asked 32) 4 20) misplaced many ∷
    -- each fault is told at the kind byte
    gives (admission bare 0 7) (Err (Record (KindFault 7))) misplaced ∷
    gives (admission crowded 1 7) (Err (Many 7)) many ∷
    []

abbrev pub AdmissionsShown : Type 0
AdmissionsShown = Shown admissions

-- and of any kind byte: it is admitted where the reading goes on, and refused by the reading's fault
abbrev pub AdmitsAsRead : Type 0
AdmitsAsRead =
    (m : Model) (k p : ℕ) (x : Step Head) → MatchResult (admission m k p) (λ _. admitted_read m k p x ≡ x) (λ f. admitted_read m k p x ≡ fault f)

-- ── what records say ──

abbrev code_head : Kind → (map : ℕ) → CodeHead
code_head kind map = record { kind = kind; place = 20; map = map; map_place = 21 }

abbrev head : (kind place map map_place : ℕ) → Head
head kind place map map_place = record { kind = kind; place = place; map = map; map_place = map_place }

abbrev pub heads_read : List (Row Head)
heads_read =
    gives (head_of (code_head Condition 3)) (head 1 20 3 21) (head 3 20 1 21) ∷
    gives (head_of (code_head Move 15)) (head 2 20 15 21) (head 2 21 15 20) ∷
    gives (head_of (code_head Request 0)) (head 3 20 0 21) (head 2 20 0 21) ∷
    []

abbrev pub HeadsShown : Type 0
HeadsShown = Shown heads_read

-- a text that stands in a sheet, wherever its bytes are
abbrev text : (w : List ℕ) → 0 < length w → length w ≤ 63 → SheetText
text w some few = let bytes : Bor (List ℕ) = record { ref_ptr = (0, 0); now = w } in record { bytes = bytes; place = Some 30; some = some; few = few }

abbrev request_of : (from to : ℕ) → SheetText → SheetText → RequestAt
request_of from to keep reach = record { from = from; to = to; keep = keep; reach = reach }

abbrev mark_a : SheetText
mark_a = text (codes "a") (omega arith) (omega arith)

abbrev not_b : SheetText
not_b = text (codes "!b") (omega arith) (omega arith)

abbrev pub requests : List (Row RequestModel)
requests =
    gives (request_at (request_of 1 2 mark_a not_b)) (request 1 2 (codes "a") (codes "!b")) (request 1 2 (codes "!b") (codes "a")) ∷
    gives (request_at (request_of 0 3 not_b mark_a)) (request 0 3 (codes "!b") (codes "a")) (request 3 0 (codes "!b") (codes "a")) ∷
    gives (request_at (request_of 1 1 not_b not_b)) (request 1 1 (codes "!b") (codes "!b")) (request 1 1 (codes "!b") (codes "1")) ∷
    []

abbrev pub RequestsShown : Type 0
RequestsShown = Shown requests

abbrev pub entries : List (Row Entry)
entries =
    gives (entry_of (ConditionRecord 3)) (condition_entry 3) (condition_entry 0) ∷
    gives (entry_of (ConditionRecord 261)) (condition_entry 261) (condition_entry 5) ∷
    gives (entry_of (MoveRecord (move 0 1 2 260))) (move_entry (move 0 1 2 260)) (move_entry (move 2 1 0 260)) ∷
    gives (entry_of (MoveRecord (move 3 0 0 0))) (move_entry (move 3 0 0 0)) (condition_entry 3) ∷
    gives (entry_of (RequestRecord (request_of 1 2 mark_a not_b))) (request_entry (request 1 2 (codes "a") (codes "!b"))) (request_entry (request 2 1 (codes "a") (codes "!b"))) ∷
    gives (entry_of (RequestRecord (request_of 0 0 not_b mark_a))) (request_entry (request 0 0 (codes "!b") (codes "a"))) (request_entry (request 0 0 (codes "a") (codes "!b"))) ∷
    []

abbrev pub EntriesShown : Type 0
EntriesShown = Shown entries
