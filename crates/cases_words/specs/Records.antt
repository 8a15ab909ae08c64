-- Reading the records of a sheet: what each of the three kinds says, where it is at fault, and how a port grows by them.
use Rattle.std.specs.Prelude.{ℕ, Bool, true, false, List, [], ◌∷◌, codes}
use Rattle.faults.specs.declared.layers.RecordFault.TheVariants.{Kind, Map}
use Rattle.faults.specs.declared.layers.PortFault.TheVariants.{Record, Missing, Sequence, Many}
use Rattle.port.specs.declared.Header.{Header}
use Rattle.port.specs.declared.Move.{Move}
use Rattle.port.specs.Model.{Model, RequestModel}
use Rattle.reading.specs.Reading.{Step, got, fault, condition, move as move_read, request as request_read, none, follows, room, Head, admitted, head, body, Entry, condition_entry, move_entry, request_entry, entry, empty, add}
use Rattle.cases_words.specs.Rows.{Row, gives, Shown}
use Rattle.cases_words.specs.Limits.{move}
use Rattle.cases_words.specs.Ports.{header, request, port, numbers, repeated, go, many_moves}
use Rattle.cases_words.specs.Fields.{ends, absent_at, no_formula}

-- two marks, five operations and four stages
abbrev counts : Header
counts = header 2 5 4 1 2

-- a record whose kind byte is at 20, its map byte at 21, and the rest from 22 on; so far there are two conditions of two marks
abbrev two : Model
two = port counts (0 ∷ 1 ∷ []) [] []

abbrev wide : Model
wide = port (header 16 2 2 1 2) (0 ∷ []) [] []

abbrev bare : Model
bare = port counts [] [] []

abbrev pub conditions : List (Row (Step ℕ))
conditions =
    gives (condition two 20 21 1 22 (3 ∷ 9 ∷ [])) (got 3 23 (9 ∷ [])) (got 3 22 (9 ∷ [])) ∷
    gives (condition bare 20 21 0 22 (9 ∷ [])) (got 0 22 (9 ∷ [])) (fault (Sequence 20)) ∷
    gives (condition wide 20 21 3 22 (5 ∷ 1 ∷ [])) (got 261 24 []) (got 1281 24 []) ∷
    gives (condition wide 20 21 2 22 (1 ∷ [])) (got 256 23 []) (got 1 23 []) ∷
    -- not above the last one; that is told at the kind byte
    gives (condition two 20 21 1 22 (1 ∷ [])) (fault (Sequence 20)) (fault (Sequence 22)) ∷
    gives (condition two 20 21 0 22 []) (fault (Sequence 20)) (got 0 22 []) ∷
    gives (condition (port (header 16 2 2 1 2) (258 ∷ []) [] []) 20 21 3 22 (2 ∷ 1 ∷ [])) (fault (Sequence 20)) (got 258 24 []) ∷
    -- a mark that there is not, which is found before
    gives (condition (port counts (9 ∷ []) [] []) 20 21 1 22 (4 ∷ [])) (fault (Missing 22)) (fault (Sequence 20)) ∷
    gives (condition two 20 21 1 22 (4 ∷ [])) (fault (Missing 22)) (got 4 23 []) ∷
    gives (condition two 20 21 2 22 (1 ∷ [])) (fault (Missing 22)) (got 256 23 []) ∷
    gives (condition two 20 21 1 22 (0 ∷ [])) (fault (absent_at 22)) (fault (Sequence 20)) ∷
    gives (condition two 20 21 3 22 (1 ∷ [])) (fault (ends 23)) (fault (Sequence 20)) ∷
    []

-- three conditions, and the move from 0 by 1 to 1
abbrev three : Model
three = port counts (0 ∷ 1 ∷ 3 ∷ []) (move 0 1 1 7 ∷ []) []

abbrev pub moves : List (Row (Step Move))
moves =
    gives (move_read three 20 21 15 22 (2 ∷ 1 ∷ 2 ∷ 1 ∷ 4 ∷ [])) (got (move 2 1 2 260) 27 []) (got (move 2 1 2 1025) 27 []) ∷
    gives (move_read three 20 21 1 22 (1 ∷ 9 ∷ [])) (got (move 1 0 0 0) 23 (9 ∷ [])) (got (move 0 1 0 0) 23 (9 ∷ [])) ∷
    gives (move_read three 20 21 6 22 (1 ∷ 2 ∷ [])) (got (move 0 1 2 0) 24 []) (got (move 1 2 0 0) 24 []) ∷
    -- not above the last one, though the minutes are other
    gives (move_read three 20 21 0 22 []) (fault (Sequence 20)) (got (move 0 0 0 0) 22 []) ∷
    gives (move_read three 20 21 14 22 (1 ∷ 1 ∷ 0 ∷ 8 ∷ [])) (fault (Sequence 20)) (got (move 0 1 1 8) 26 []) ∷
    -- a condition, an operation, an outcome that there is not
    gives (move_read three 20 21 1 22 (3 ∷ [])) (fault (Missing 22)) (got (move 3 0 0 0) 23 []) ∷
    gives (move_read three 20 21 3 22 (1 ∷ 4 ∷ [])) (got (move 1 4 0 0) 24 []) (fault (Missing 23)) ∷
    gives (move_read three 20 21 3 22 (1 ∷ 5 ∷ [])) (fault (Missing 23)) (fault (Missing 22)) ∷
    gives (move_read three 20 21 4 22 (3 ∷ [])) (fault (Missing 22)) (fault (Sequence 20)) ∷
    gives (move_read bare 20 21 0 22 []) (fault (Missing 21)) (fault (Missing 22)) ∷
    gives (move_read (port (header 2 0 4 1 2) (0 ∷ []) [] []) 20 21 0 22 []) (fault (Missing 21)) (fault (Missing 22)) ∷
    -- the first of several, and the order of moves last of all
    gives (move_read three 20 21 3 22 (3 ∷ 5 ∷ [])) (fault (Missing 22)) (fault (Missing 23)) ∷
    gives (move_read three 20 21 3 22 (3 ∷ [])) (fault (Missing 22)) (fault (ends 23)) ∷
    gives (move_read three 20 21 8 22 (0 ∷ 0 ∷ [])) (fault (absent_at 22)) (fault (Sequence 20)) ∷
    gives (move_read three 20 21 9 22 (1 ∷ 0 ∷ 0 ∷ [])) (fault (absent_at 23)) (got (move 1 0 0 0) 25 []) ∷
    gives (move_read three 20 21 9 22 (1 ∷ 1 ∷ [])) (fault (ends 24)) (got (move 1 0 0 1) 24 []) ∷
    []

abbrev pub requests : List (Row (Step RequestModel))
requests =
    gives (request_read three 21 15 22 (1 ∷ 1 ∷ 1 ∷ 97 ∷ 2 ∷ 33 ∷ 98 ∷ [])) (got (request 1 1 (codes "a") (codes "!b")) 29 []) (got (request 1 1 (codes "!b") (codes "a")) 29 []) ∷
    gives (request_read three 21 0 22 (9 ∷ [])) (got (request 0 0 (codes "1") (codes "1")) 22 (9 ∷ [])) (got (request 0 0 [] []) 22 (9 ∷ [])) ∷
    gives (request_read three 21 2 22 (1 ∷ [])) (got (request 0 1 (codes "1") (codes "1")) 23 []) (got (request 1 0 (codes "1") (codes "1")) 23 []) ∷
    gives (request_read three 21 8 22 (1 ∷ 97 ∷ [])) (got (request 0 0 (codes "1") (codes "a")) 24 []) (got (request 0 0 (codes "a") (codes "1")) 24 []) ∷
    -- a stage that there is not, and texts that are none
    gives (request_read three 21 1 22 (3 ∷ [])) (got (request 3 0 (codes "1") (codes "1")) 23 []) (fault (Missing 22)) ∷
    gives (request_read three 21 1 22 (4 ∷ [])) (fault (Missing 22)) (got (request 4 0 (codes "1") (codes "1")) 23 []) ∷
    gives (request_read (port (header 2 5 0 0 0) [] [] []) 21 0 22 []) (fault (Missing 21)) (fault (Missing 22)) ∷
    gives (request_read three 21 3 22 (1 ∷ 4 ∷ [])) (fault (Missing 23)) (fault (Missing 21)) ∷
    gives (request_read three 21 4 22 (1 ∷ 99 ∷ [])) (fault (no_formula 23)) (got (request 0 0 (codes "c") (codes "1")) 24 []) ∷
    gives (request_read three 21 12 22 (1 ∷ 97 ∷ 2 ∷ 97 ∷ 38 ∷ [])) (fault (no_formula 27)) (fault (no_formula 24)) ∷
    gives (request_read three 21 12 22 (1 ∷ 99 ∷ 1 ∷ 99 ∷ [])) (fault (no_formula 23)) (fault (no_formula 25)) ∷
    gives (request_read three 21 8 22 (1 ∷ 49 ∷ [])) (fault (absent_at 22)) (got (request 0 0 (codes "1") (codes "1")) 24 []) ∷
    gives (request_read three 21 4 22 (0 ∷ [])) (fault (Missing 22)) (got (request 0 0 [] (codes "1")) 23 []) ∷
    []

-- a request has come
abbrev late : Model
late = port counts (0 ∷ 1 ∷ 3 ∷ []) [] (go ∷ [])

-- as many conditions, and as many requests, as there may be
abbrev crowded : ℕ → Model
crowded n = port (header 9 2 2 1 2) (numbers n) [] []

abbrev asked : ℕ → Model
asked n = port counts (0 ∷ []) [] (repeated n go)

abbrev yes_is : Bool → Row Bool
yes_is b = gives b true false

abbrev no_is : Bool → Row Bool
no_is b = gives b false true

abbrev pub tests : List (Row Bool)
tests =
    yes_is (none two.moves) ∷ no_is (none three.moves) ∷ yes_is (none three.requests) ∷ no_is (none late.requests) ∷
    -- conditions, then moves, then requests
    yes_is (follows two 1) ∷ yes_is (follows two 2) ∷ yes_is (follows two 3) ∷ no_is (follows two 0) ∷ no_is (follows two 4) ∷
    no_is (follows three 1) ∷ yes_is (follows three 2) ∷ yes_is (follows three 3) ∷ no_is (follows three 4) ∷
    no_is (follows late 1) ∷ no_is (follows late 2) ∷ yes_is (follows late 3) ∷
    -- up to 256, 4096 and 32 of them
    yes_is (room (crowded 255) 1) ∷ no_is (room (crowded 256) 1) ∷ yes_is (room (crowded 256) 2) ∷
    yes_is (room (many_moves 4095) 2) ∷ no_is (room (many_moves 4096) 2) ∷ yes_is (room (many_moves 4096) 3) ∷
    yes_is (room (asked 31) 3) ∷ no_is (room (asked 32) 3) ∷ yes_is (room (asked 32) 1) ∷
    []

abbrev begun : ℕ → ℕ → Head
begun kind map = record { kind = kind; place = 20; map = map; map_place = 21 }

abbrev pub begins : List (Row (Step Head))
begins =
    gives (head two 20 (1 ∷ 3 ∷ 9 ∷ [])) (got (begun 1 3) 22 (9 ∷ [])) (got (begun 3 1) 22 (9 ∷ [])) ∷
    gives (head two 20 (2 ∷ 15 ∷ [])) (got (begun 2 15) 22 []) (fault (Record (Map 21))) ∷
    gives (head late 20 (3 ∷ 15 ∷ [])) (got (begun 3 15) 22 []) (fault (Record (Kind 20))) ∷
    gives (head two 20 (0 ∷ 0 ∷ [])) (fault (Record (Kind 20))) (got (begun 0 0) 22 []) ∷
    gives (head two 20 (4 ∷ 0 ∷ [])) (fault (Record (Kind 20))) (got (begun 4 0) 22 []) ∷
    gives (head late 20 (2 ∷ 0 ∷ [])) (fault (Record (Kind 20))) (got (begun 2 0) 22 []) ∷
    gives (head two 20 (1 ∷ 4 ∷ [])) (fault (Record (Map 21))) (got (begun 1 4) 22 []) ∷
    gives (head two 20 (3 ∷ 16 ∷ [])) (fault (Record (Map 21))) (got (begun 3 16) 22 []) ∷
    gives (head two 20 []) (fault (ends 20)) (fault (ends 21)) ∷
    -- the kind is judged before the map is looked for
    gives (head two 20 (1 ∷ [])) (fault (ends 21)) (fault (ends 20)) ∷
    gives (head two 20 (4 ∷ [])) (fault (Record (Kind 20))) (fault (ends 21)) ∷
    gives (head (asked 32) 20 (3 ∷ [])) (fault (Many 20)) (fault (ends 21)) ∷
    gives (head (crowded 256) 20 (1 ∷ [])) (fault (Many 20)) (fault (ends 21)) ∷
    -- and that it may come next before there is room for it
    gives (head (asked 32) 20 (4 ∷ [])) (fault (Record (Kind 20))) (fault (Many 20)) ∷
    gives (head (port (header 9 5 4 1 2) (numbers 256) [] (go ∷ [])) 20 (1 ∷ [])) (fault (Record (Kind 20))) (fault (Many 20)) ∷
    gives (admitted two 1 20 (got (begun 1 3) 22 [])) (got (begun 1 3) 22 []) (fault (Record (Kind 20))) ∷
    gives (admitted two 4 20 (got (begun 1 3) 22 [])) (fault (Record (Kind 20))) (got (begun 1 3) 22 []) ∷
    gives (admitted (asked 32) 3 20 (got (begun 1 3) 22 [])) (fault (Many 20)) (got (begun 1 3) 22 []) ∷
    []

abbrev pub entries : List (Row (Step Entry))
entries =
    gives (body two (begun 1 1) 22 (3 ∷ [])) (got (condition_entry 3) 23 []) (got (condition_entry 3) 22 []) ∷
    gives (body three (begun 2 1) 22 (1 ∷ [])) (got (move_entry (move 1 0 0 0)) 23 []) (got (condition_entry 1) 23 []) ∷
    gives (body three (begun 3 1) 22 (1 ∷ [])) (got (request_entry (request 1 0 (codes "1") (codes "1"))) 23 []) (got (move_entry (move 1 0 0 0)) 23 []) ∷
    gives (body two (begun 1 0) 22 []) (fault (Sequence 20)) (fault (Sequence 21)) ∷
    gives (entry two 20 (1 ∷ 1 ∷ 3 ∷ 9 ∷ [])) (got (condition_entry 3) 23 (9 ∷ [])) (got (condition_entry 1) 22 (3 ∷ 9 ∷ [])) ∷
    gives (entry three 20 (2 ∷ 1 ∷ 1 ∷ [])) (got (move_entry (move 1 0 0 0)) 23 []) (got (move_entry (move 0 1 0 0)) 23 []) ∷
    gives (entry three 20 (3 ∷ 8 ∷ 1 ∷ 97 ∷ [])) (got (request_entry (request 0 0 (codes "1") (codes "a"))) 24 []) (got (request_entry (request 0 0 (codes "a") (codes "1"))) 24 []) ∷
    gives (entry three 20 (1 ∷ 1 ∷ 3 ∷ [])) (fault (Record (Kind 20))) (got (condition_entry 3) 23 []) ∷
    gives (entry two 20 (1 ∷ 1 ∷ 4 ∷ [])) (fault (Missing 22)) (got (condition_entry 4) 23 []) ∷
    []

abbrev pub grown : List (Row Model)
grown =
    gives (empty counts) (port counts [] [] []) (port counts (0 ∷ []) [] []) ∷
    gives (empty (header 1 1 1 0 0)) (port (header 1 1 1 0 0) [] [] []) (port counts [] [] []) ∷
    gives (add two (condition_entry 3)) (port counts (0 ∷ 1 ∷ 3 ∷ []) [] []) (port counts (3 ∷ 0 ∷ 1 ∷ []) [] []) ∷
    gives (add three (move_entry (move 1 0 0 0))) (port counts (0 ∷ 1 ∷ 3 ∷ []) (move 0 1 1 7 ∷ move 1 0 0 0 ∷ []) []) (port counts (0 ∷ 1 ∷ 3 ∷ []) (move 1 0 0 0 ∷ []) []) ∷
    gives (add late (request_entry (request 1 0 (codes "a") (codes "b")))) (port counts (0 ∷ 1 ∷ 3 ∷ []) [] (go ∷ request 1 0 (codes "a") (codes "b") ∷ [])) late ∷
    []

abbrev pub ConditionsShown : Type 0
ConditionsShown = Shown conditions

abbrev pub MovesShown : Type 0
MovesShown = Shown moves

abbrev pub RequestsShown : Type 0
RequestsShown = Shown requests

abbrev pub RecordTestsShown : Type 0
RecordTestsShown = Shown tests

abbrev pub BeginsShown : Type 0
BeginsShown = Shown begins

abbrev pub EntriesShown : Type 0
EntriesShown = Shown entries

abbrev pub GrownShown : Type 0
GrownShown = Shown grown
