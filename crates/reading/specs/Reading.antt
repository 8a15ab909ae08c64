-- How a sheet is read, in the order of its checks.
use Rattle.std.specs.Prelude.{ℕ, zero, suc, ◌+◌, ◌-◌, ◌*◌, ◌/◌, ◌%◌, ◌^◌, min, Bool, true, false, cond, List, [], ◌∷◌, ◌++◌, length, take, drop, ◌==◌, nat_le, nat_lt, slice_index, codes}
use mathlib.Core.List as List
use Rattle.formula.specs.Bytes.{one_byte}
use Rattle.formula.specs.Grammar.{TextVerdict, verdict, whole, stuck, both}
use Rattle.port.specs.declared.Header.{Header}
use Rattle.port.specs.declared.Move.{Move}
use Rattle.port.specs.Numbers.{most_marks, most_operations, most_stages, most_conditions, most_moves, most_requests, longest_text, byte_end, byte_bits}
use Rattle.port.specs.Limits.{key}
use Rattle.port.specs.Model.{Model, RequestModel}
use Rattle.faults.specs.declared.layers.ByteFault.TheVariants.{Ends, Opening}
use Rattle.faults.specs.declared.layers.RecordFault.TheVariants.{Byte, Formula, Kind, Map, Absent}
use Rattle.faults.specs.declared.layers.PortFault.{PortFault}
use Rattle.faults.specs.declared.layers.PortFault.TheVariants.{Record, Count, Missing, Sequence, Many, Start}

-- One step of reading: a value, with the next place and the bytes from there on; or a fault.
pub data Step (V : Type 0) : Type 0 where
  got : V → ℕ → List ℕ → Step V
  fault : PortFault → Step V

unfoldable pub and_then : {V W : Type 0} → Step V → (V → ℕ → List ℕ → Step W) → Step W
and_then (got v p s) k = k v p s
and_then (fault e) k = fault e

-- the step, if the test holds
unfoldable pub provided : {V : Type 0} → Bool → PortFault → Step V → Step V
provided true e x = x
provided false e x = fault e

-- Each reader takes a place p and the bytes s from there on.
unfoldable pub byte : ℕ → List ℕ → Step ℕ
byte p [] = fault (Record (Byte (Ends p)))
byte p (b ∷ s) = got b (p + 1) s

unfoldable pub bytes : ℕ → ℕ → List ℕ → Step (List ℕ)
bytes n p s = provided (nat_le n (length s)) (Record (Byte (Ends (p + length s)))) (got (take n s) (p + n) (drop n s))

-- a number of one byte: absent it is 0
unfoldable pub number : Bool → ℕ → List ℕ → Step ℕ
number false p s = got 0 p s
number true p s = and_then (byte p s) (λ b q r. provided (nat_lt 0 b) (Record (Absent p)) (got b q r))

-- a number below a limit; at is the place of the map byte
unfoldable pub field : Bool → ℕ → ℕ → ℕ → List ℕ → Step ℕ
field present at limit p s =
    and_then (number present p s) (λ v q r. provided (nat_lt v limit) (Missing (cond present p at)) (got v q r))

unfoldable pub minutes : Bool → ℕ → List ℕ → Step ℕ
minutes false p s = got 0 p s
minutes true p s =
    and_then (byte p s) (λ high q r.
    and_then (byte q r) (λ low q r.
    provided (nat_lt 0 (byte_end * high + low)) (Record (Absent p)) (got (byte_end * high + low) q r)))

abbrev pub same : List ℕ → List ℕ → Bool
same [] [] = true
same [] (y ∷ ys) = false
same (x ∷ xs) [] = false
same (x ∷ xs) (y ∷ ys) = cond (x == y) (same xs ys) false

abbrev pub denied : Bool → Bool
denied true = false
denied false = true

-- the text of an absent one
abbrev pub absent : List ℕ
absent = one_byte ∷ []

-- the length of a text, from 1 to the longest, which is judged before the text's bytes are looked for
unfoldable pub text_length : ℕ → List ℕ → Step ℕ
text_length p s = and_then (byte p s) (λ n q r. provided (both (nat_lt 0 n) (nat_le n longest_text)) (Missing p) (got n q r))

-- a text that is whole and is not the absent one
unfoldable pub whole_text : ℕ → List ℕ → Step (List ℕ)
whole_text p s =
    and_then (text_length p s) (λ n q r.
    and_then (bytes n q r) (λ w q r.
    provided (denied (same w absent)) (Record (Absent p)) (got w q r)))

-- what the grammar says of a text that stands from place p on
unfoldable pub judged : ℕ → TextVerdict → Step (List ℕ) → Step (List ℕ)
judged p whole x = x
judged p (stuck k) x = fault (Record (Formula (record { place = p + k })))

unfoldable pub text : Bool → ℕ → ℕ → List ℕ → Step (List ℕ)
text false marks p s = got absent p s
text true marks p s = and_then (whole_text p s) (λ w q r. judged (p + 1) (verdict marks w) (got w q r))

-- one record, by its kind
pub data Entry : Type 0 where
  condition_entry : ℕ → Entry
  move_entry : Move → Entry
  request_entry : RequestModel → Entry

-- the number is above the last of the list
unfoldable pub rises : List ℕ → ℕ → Bool
rises xs v = cond (length xs == 0) true (nat_lt (slice_index xs (length xs - 1)) v)

-- the marks of a low and of a high byte that exist
abbrev pub low_limit : ℕ → ℕ
low_limit marks = 2 ^ min marks byte_bits

abbrev pub high_limit : ℕ → ℕ
high_limit marks = 2 ^ (marks - byte_bits)

-- the field of bit i of a map is there
abbrev pub present : ℕ → ℕ → Bool
present map i = map / 2 ^ i % 2 == 1

-- The readers of records take the place of the kind byte, that of the map byte, and the map byte.
unfoldable pub condition : Model → ℕ → ℕ → ℕ → ℕ → List ℕ → Step ℕ
condition m at map_at map p s =
    and_then (field (present map 0) map_at (low_limit m.header.marks) p s) (λ low q r.
    and_then (field (present map 1) map_at (high_limit m.header.marks) q r) (λ high q r.
    provided (rises m.conditions (low + byte_end * high)) (Sequence at) (got (low + byte_end * high) q r)))

unfoldable pub move : Model → ℕ → ℕ → ℕ → ℕ → List ℕ → Step Move
move m at map_at map p s =
    and_then (field (present map 0) map_at (length m.conditions) p s) (λ c q r.
    and_then (field (present map 1) map_at m.header.operations q r) (λ o q r.
    and_then (field (present map 2) map_at (length m.conditions) q r) (λ u q r.
    and_then (minutes (present map 3) q r) (λ t q r.
    let v : Move = record { condition = c; operation = o; outcome = u; minutes = t } in
    provided (rises (List.map key m.moves) (key v)) (Sequence at) (got v q r)))))

unfoldable pub request : Model → ℕ → ℕ → ℕ → List ℕ → Step RequestModel
request m map_at map p s =
    and_then (field (present map 0) map_at m.header.stages p s) (λ f q r.
    and_then (field (present map 1) map_at m.header.stages q r) (λ t q r.
    and_then (text (present map 2) m.header.marks q r) (λ k q r.
    and_then (text (present map 3) m.header.marks q r) (λ w q r.
    got (record { from = f; to = t; keep = k; reach = w }) q r))))

abbrev pub none : {V : Type 0} → List V → Bool
none xs = length xs == 0

-- The kinds of records, by the bytes that stand for them.
abbrev pub condition_kind : ℕ
condition_kind = 1

abbrev pub move_kind : ℕ
move_kind = 2

abbrev pub request_kind : ℕ
request_kind = 3

-- the kinds come in this order
abbrev pub follows : Model → ℕ → Bool
follows m k =
    cond (k == condition_kind) (both (none m.moves) (none m.requests)) (
    cond (k == move_kind) (none m.requests) (
    k == request_kind))

abbrev pub room : Model → ℕ → Bool
room m k =
    cond (k == condition_kind) (nat_lt (length m.conditions) most_conditions) (
    cond (k == move_kind) (nat_lt (length m.moves) most_moves) (
    nat_lt (length m.requests) most_requests))

-- how many fields a condition has, and a move or a request
abbrev pub condition_fields : ℕ
condition_fields = 2

abbrev pub other_fields : ℕ
other_fields = 4

-- a map has a bit for each field and no other: it is below this
abbrev pub map_limit : ℕ → ℕ
map_limit k = cond (k == condition_kind) (2 ^ condition_fields) (2 ^ other_fields)

-- how a record begins: its kind and where that stands, its map and where that stands
pub record Head : Type 0 where
  pub kind : ℕ
  pub place : ℕ
  pub map : ℕ
  pub map_place : ℕ

-- what is judged of a kind byte before the map byte is looked for: that it may come next, and that there is room for it
unfoldable pub admitted : Model → ℕ → ℕ → Step Head → Step Head
admitted m k p x = provided (follows m k) (Record (Kind p)) (provided (room m k) (Many p) x)

unfoldable pub head : Model → ℕ → List ℕ → Step Head
head m p s =
    and_then (byte p s) (λ k q r.
    admitted m k p (
    and_then (byte q r) (λ map q' r'.
    provided (nat_lt map (map_limit k)) (Record (Map q)) (got (record { kind = k; place = p; map = map; map_place = q }) q' r'))))

unfoldable pub body : Model → Head → ℕ → List ℕ → Step Entry
body m h p s =
    cond (h.kind == condition_kind) (and_then (condition m h.place h.map_place h.map p s) (λ c q r. got (condition_entry c) q r)) (
    cond (h.kind == move_kind) (and_then (move m h.place h.map_place h.map p s) (λ v q r. got (move_entry v) q r)) (
    and_then (request m h.map_place h.map p s) (λ w q r. got (request_entry w) q r)))

unfoldable pub entry : Model → ℕ → List ℕ → Step Entry
entry m p s = and_then (head m p s) (λ h q r. body m h q r)

-- The header.
unfoldable pub count : ℕ → ℕ → List ℕ → Step ℕ
count most p s = and_then (byte p s) (λ b q r. provided (both (nat_lt 0 b) (nat_le b most)) (Count p) (got b q r))

unfoldable pub start_stage : ℕ → ℕ → List ℕ → Step ℕ
start_stage stages p s = and_then (byte p s) (λ b q r. provided (nat_lt b stages) (Count p) (got b q r))

abbrev pub opening_bytes : List ℕ
opening_bytes = codes "GATE"

unfoldable pub opening : ℕ → List ℕ → Step (List ℕ)
opening p s = and_then (bytes (length opening_bytes) p s) (λ w q r. provided (same w opening_bytes) (Record (Byte Opening)) (got w q r))

unfoldable pub heading : ℕ → List ℕ → Step Header
heading p s =
    and_then (opening p s) (λ _ q r.
    and_then (count most_marks q r) (λ marks q r.
    and_then (count most_operations q r) (λ operations q r.
    and_then (count most_stages q r) (λ stages q r.
    and_then (start_stage stages q r) (λ stage q r.
    and_then (byte q r) (λ c q r.
    got (record { marks = marks; operations = operations; stages = stages; stage = stage; condition = c }) q r))))))

-- The whole sheet.
abbrev pub empty : Header → Model
empty h = record { header = h; conditions = []; moves = []; requests = [] }

unfoldable pub add : Model → Entry → Model
add m (condition_entry c) = record { header = m.header; conditions = m.conditions ++ c ∷ []; moves = m.moves; requests = m.requests }
add m (move_entry v) = record { header = m.header; conditions = m.conditions; moves = m.moves ++ v ∷ []; requests = m.requests }
add m (request_entry w) = record { header = m.header; conditions = m.conditions; moves = m.moves; requests = m.requests ++ w ∷ [] }

-- the port that a sheet tells, or the fault, with the number of records read whole before it
pub data Read : Type 0 where
  held : Model → Read
  refused : PortFault → ℕ → Read

unfoldable pub finish : ℕ → Model → Read
finish n m = cond (nat_lt m.header.condition (length m.conditions)) (held m) (refused Start n)

-- at most fuel records, after n that were read
unfoldable pub records : ℕ → ℕ → Model → ℕ → List ℕ → Read
records zero n m p s = finish n m
records (suc fuel) n m p [] = finish n m
records (suc fuel) n m p (b ∷ s) =
    elim (entry m p (b ∷ s)) [ got e q r ↦ records fuel (n + 1) (add m e) q r | fault x ↦ refused x n ]

unfoldable pub reading : List ℕ → Read
reading t = elim (heading 0 t) [ got h q r ↦ records (length t) 0 (empty h) q r | fault x ↦ refused x 0 ]
