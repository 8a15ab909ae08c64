-- Ports that are valid; and ports that break a limit, each only that one where it can be broken alone.
use Rattle.std.specs.Prelude.{ℕ, zero, suc, ◌/◌, ◌%◌, Bool, true, false, List, [], ◌∷◌, map, codes}
use Rattle.port.specs.declared.Header.{Header}
use Rattle.port.specs.declared.Move.{Move}
use Rattle.port.specs.Limits.{In}
use Rattle.port.specs.Model.{Model, RequestModel, first}
use Rattle.port.specs.Valid.{Valid}
use Rattle.cases_words.specs.Rows.{Said}
use Rattle.cases_words.specs.Limits.{move, not_not}

abbrev pub header : ℕ → ℕ → ℕ → ℕ → ℕ → Header
header marks operations stages stage condition =
    record { marks = marks; operations = operations; stages = stages; stage = stage; condition = condition }

abbrev pub request : ℕ → ℕ → List ℕ → List ℕ → RequestModel
request from to keep reach = record { from = from; to = to; keep = keep; reach = reach }

abbrev pub port : Header → List ℕ → List Move → List RequestModel → Model
port header conditions moves requests = record { header = header; conditions = conditions; moves = moves; requests = requests }

-- the numbers below n, in front of a list
abbrev below : ℕ → List ℕ → List ℕ
below zero list = list
below (suc n) list = below n (n ∷ list)

abbrev pub numbers : ℕ → List ℕ
numbers n = below n []

abbrev pub repeated : ℕ → RequestModel → List RequestModel
repeated zero q = []
repeated (suc n) q = q ∷ repeated n q

-- a small port: three conditions of two marks, four operations, five stages, four moves and two requests
abbrev pub heads : Header
heads = header 2 4 5 1 2

abbrev pub conditions : List ℕ
conditions = 0 ∷ 1 ∷ 3 ∷ []

abbrev pub moves : List Move
moves = move 0 0 1 4 ∷ move 0 0 2 6 ∷ move 1 1 0 0 ∷ move 2 1 1 65535 ∷ []

abbrev pub go : RequestModel
go = request 0 1 (codes "1") (codes "a")

abbrev pub back : RequestModel
back = request 1 0 (codes "!b|a") (codes "!a&!b")

abbrev pub quay : Model
quay = port heads conditions moves (go ∷ back ∷ [])

-- the same with other parts
abbrev headed : Header → Model
headed h = port h conditions moves (go ∷ back ∷ [])

abbrev conditioned : Header → List ℕ → Model
conditioned h cs = port h cs [] (go ∷ back ∷ [])

abbrev pub moved : List Move → Model
moved ms = port heads conditions ms (go ∷ back ∷ [])

abbrev asked : List RequestModel → Model
asked qs = port heads conditions moves qs

-- so many moves from condition 0 of 256, by 32 operations
abbrev pub many_moves : ℕ → Model
many_moves n = port (header 8 32 1 0 255) (numbers 256) (map (λ i. move 0 (i / 256) (i % 256) 0) (numbers n)) []

pub record PortRow : Type 0 where
  pub port : Model
  pub holds : Bool

abbrev pub yes_is : Model → PortRow
yes_is m = record { port = m; holds = true }

abbrev pub no_is : Model → PortRow
no_is m = record { port = m; holds = false }

abbrev pub ports : List PortRow
ports =
    yes_is first ∷ yes_is quay ∷
    -- 1 to 16 marks
    yes_is (port (header 1 1 1 0 1) (0 ∷ 1 ∷ []) [] []) ∷ no_is (port (header 0 1 1 0 0) (0 ∷ []) [] []) ∷
    yes_is (headed (header 16 2 2 1 2)) ∷ no_is (headed (header 17 2 2 1 2)) ∷
    -- 1 to 32 operations
    yes_is (conditioned (header 2 1 2 1 2) conditions) ∷ no_is (conditioned (header 2 0 2 1 2) conditions) ∷
    yes_is (headed (header 2 32 2 1 2)) ∷ no_is (headed (header 2 33 2 1 2)) ∷
    -- 1 to 16 stages; with none there is no start stage either
    yes_is (port (header 2 2 1 0 2) conditions moves []) ∷ no_is (port (header 2 2 0 0 2) conditions moves []) ∷
    yes_is (headed (header 2 2 16 1 2)) ∷ no_is (headed (header 2 2 17 1 2)) ∷
    -- the start stage and the start condition exist
    yes_is (headed (header 2 2 2 0 0)) ∷ no_is (headed (header 2 2 2 2 2)) ∷ no_is (headed (header 2 2 2 1 3)) ∷ no_is (conditioned (header 2 2 2 1 0) []) ∷
    -- at most 256 conditions, of the port's marks, which rise
    yes_is (conditioned (header 9 2 2 1 2) (numbers 256)) ∷ no_is (conditioned (header 9 2 2 1 2) (numbers 257)) ∷
    no_is (port (header 1 2 2 1 2) conditions moves []) ∷ no_is (conditioned heads (0 ∷ 1 ∷ 4 ∷ [])) ∷
    no_is (conditioned heads (0 ∷ 1 ∷ 1 ∷ [])) ∷ no_is (conditioned heads (1 ∷ 0 ∷ 3 ∷ [])) ∷
    -- moves between conditions that there are, by operations that there are, which rise
    yes_is (moved []) ∷ no_is (moved (move 3 0 0 0 ∷ [])) ∷ yes_is (moved (move 0 3 2 0 ∷ [])) ∷ no_is (moved (move 0 4 0 0 ∷ [])) ∷ no_is (moved (move 0 0 3 0 ∷ [])) ∷
    no_is (moved (move 0 0 1 4 ∷ move 0 0 1 5 ∷ [])) ∷ no_is (moved (move 1 0 0 0 ∷ move 0 1 2 0 ∷ [])) ∷
    -- the minutes of a move are bounded by their type, and not here
    yes_is (moved (move 0 0 1 65536 ∷ [])) ∷
    -- at most 32 requests, of stages that there are
    yes_is (asked []) ∷ yes_is (asked (repeated 32 go)) ∷ no_is (asked (repeated 33 go)) ∷
    yes_is (asked (request 4 4 (codes "1") (codes "1") ∷ [])) ∷
    no_is (asked (go ∷ request 5 0 (codes "1") (codes "a") ∷ [])) ∷ no_is (asked (go ∷ request 0 5 (codes "1") (codes "a") ∷ [])) ∷
    -- whose texts are formulas of 1 to 63 bytes
    yes_is (asked (request 0 1 (not_not 31 (codes "a")) (not_not 31 (codes "b")) ∷ [])) ∷
    no_is (asked (request 0 1 (33 ∷ not_not 31 (codes "a")) (codes "a") ∷ [])) ∷ no_is (asked (request 0 1 (codes "1") (33 ∷ not_not 31 (codes "a")) ∷ [])) ∷
    no_is (asked (request 0 1 [] (codes "a") ∷ [])) ∷ no_is (asked (request 0 1 (codes "1") [] ∷ [])) ∷
    no_is (asked (request 0 1 (codes "a&") (codes "a") ∷ [])) ∷ no_is (asked (request 0 1 (codes "1") (codes "c") ∷ [])) ∷
    []

abbrev pub PortsHold : Type 0
PortsHold = (r : PortRow) → In r ports → Said r.holds (Valid r.port)

-- at most 4096 moves
abbrev pub large : List PortRow
large = yes_is (many_moves 4096) ∷ no_is (many_moves 4097) ∷ []

abbrev pub LargeHold : Type 0
LargeHold = (r : PortRow) → In r large → Said r.holds (Valid r.port)
