-- The port of Low Staithe, as bytes and as it is told; and another with one move more.
use Rattle.std.specs.Prelude.{ℕ, zero, suc, List, [], ◌∷◌, ◌++◌, codes}
use Rattle.port.specs.declared.Header.{Header}
use Rattle.port.specs.declared.Move.{Move}
use Rattle.port.specs.Model.{Model, RequestModel}

abbrev pub move : ℕ → ℕ → ℕ → ℕ → Move
move condition operation outcome minutes = record { condition = condition; operation = operation; outcome = outcome; minutes = minutes }

abbrev header : Header
header = record { marks = 2; operations = 2; stages = 2; stage = 0; condition = 0 }

abbrev moves : List Move
moves = move 0 0 1 4 ∷ move 0 0 2 6 ∷ move 1 1 0 3 ∷ move 2 0 3 2 ∷ move 2 1 1 10 ∷ []

abbrev requests : List RequestModel
requests =
    record { from = 0; to = 1; keep = codes "1"; reach = codes "a" } ∷
    record { from = 1; to = 0; keep = codes "!b"; reach = codes "!a&!b" } ∷
    []

abbrev pub low_staithe : Model
low_staithe = record { header = header; conditions = 0 ∷ 1 ∷ 2 ∷ 3 ∷ []; moves = moves; requests = requests }

-- the same, where operation 0 may also leave condition 0 as it is
abbrev pub stuck_gate : Model
stuck_gate = record { header = header; conditions = 0 ∷ 1 ∷ 2 ∷ 3 ∷ []; moves = move 0 0 0 0 ∷ moves; requests = requests }

-- the header and the conditions
abbrev front : List ℕ
front =
    71 ∷ 65 ∷ 84 ∷ 69 ∷ 2 ∷ 2 ∷ 2 ∷ 0 ∷ 0 ∷
    1 ∷ 0 ∷
    1 ∷ 1 ∷ 1 ∷
    1 ∷ 1 ∷ 2 ∷
    1 ∷ 1 ∷ 3 ∷
    []

-- the moves and the requests
abbrev back : List ℕ
back =
    2 ∷ 12 ∷ 1 ∷ 0 ∷ 4 ∷
    2 ∷ 12 ∷ 2 ∷ 0 ∷ 6 ∷
    2 ∷ 11 ∷ 1 ∷ 1 ∷ 0 ∷ 3 ∷
    2 ∷ 13 ∷ 2 ∷ 3 ∷ 0 ∷ 2 ∷
    2 ∷ 15 ∷ 2 ∷ 1 ∷ 1 ∷ 0 ∷ 10 ∷
    3 ∷ 10 ∷ 1 ∷ 1 ∷ 97 ∷
    3 ∷ 13 ∷ 1 ∷ 2 ∷ 33 ∷ 98 ∷ 5 ∷ 33 ∷ 97 ∷ 38 ∷ 33 ∷ 98 ∷
    []

abbrev pub low_staithe_sheet : List ℕ
low_staithe_sheet = front ++ back

abbrev pub stuck_gate_sheet : List ℕ
stuck_gate_sheet = front ++ (2 ∷ 0 ∷ back)

-- a sheet with one condition and so many requests, each to go on from stage 0 to stage 0 without a text
abbrev crowd : ℕ → List ℕ
crowd zero = []
crowd (suc n) = 3 ∷ 0 ∷ crowd n

abbrev pub crowded_sheet : ℕ → List ℕ
crowded_sheet n = 71 ∷ 65 ∷ 84 ∷ 69 ∷ 1 ∷ 1 ∷ 1 ∷ 0 ∷ 0 ∷ 1 ∷ 0 ∷ crowd n
