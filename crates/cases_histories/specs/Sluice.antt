-- A small lock with its policy: condition 0 is low, condition 1 is high, and condition 2 is flooded. Nothing is possible but from low.
use Rattle.std.specs.Prelude.{ℕ, Bool, true, not, List, [], ◌∷◌, ◌==◌}
use Rattle.port.specs.Model.{Model as PortModel}
use Rattle.port.specs.declared.Move.{Move}
use Rattle.plans.specs.Plans.{Plan, stop, work}
use Rattle.plans.specs.Simulation.{Task, Domain}
use Rattle.costs.specs.Models.{minutes_model}
use Rattle.solver.specs.declared.Entry.{Entry}
use Rattle.solver.specs.declared.Entry.TheVariants.{None, There, Work}
use Rattle.solver.specs.Policy.{World, world_of}

abbrev pub move : ℕ → ℕ → ℕ → ℕ → Move
move condition operation outcome minutes = record { condition = condition; operation = operation; outcome = outcome; minutes = minutes }

-- Operation 0 fills, and may flood; operations 1 and 2 lift and hoist, which take as long.
abbrev pub fill : Move
fill = move 0 0 1 5

abbrev pub flood : Move
flood = move 0 0 2 7

abbrev pub lift : Move
lift = move 0 1 1 3

abbrev pub hoist : Move
hoist = move 0 2 1 3

abbrev pub moves : List Move
moves = fill ∷ flood ∷ lift ∷ hoist ∷ []

-- tests on a condition
abbrev pub any : ℕ → Bool
any c = true

abbrev pub is : ℕ → ℕ → Bool
is d c = c == d

abbrev pub isnt : ℕ → ℕ → Bool
isnt d c = not (c == d)

-- Requests: 0 at stage 0 to leave low, and to stay at this stage; 1 at stage 1 to be low, and on to stage 0; 2 at stage 2 to go on to stage 1
-- as the lock stands. Stage 3 has no request.
abbrev pub leave : Task
leave = record { from = 0; to = 0; keep = is 0; reach = isnt 0 }

abbrev pub settle : Task
settle = record { from = 1; to = 0; keep = any; reach = is 0 }

abbrev pub pass : Task
pass = record { from = 2; to = 1; keep = any; reach = any }

abbrev pub sluice : Domain
sluice = record { conditions = 3; stages = 4; moves = moves; tasks = leave ∷ settle ∷ pass ∷ [] }

-- costs of minutes and moves
abbrev pub two : ℕ → ℕ → List ℕ
two minutes moves = minutes ∷ moves ∷ []

abbrev pub nought : List ℕ
nought = two 0 0

-- its policy and costs by request, and its ranks by stage
abbrev pub entries : List Entry
entries =
    Work 1 ∷ There ∷ There ∷
    There ∷ None ∷ None ∷
    There ∷ None ∷ None ∷
    []

abbrev pub costs : List (List ℕ)
costs =
    two 3 1 ∷ nought ∷ nought ∷
    nought ∷ nought ∷ nought ∷
    nought ∷ nought ∷ nought ∷
    []

abbrev pub ranks : List ℕ
ranks =
    0 ∷ 0 ∷ 0 ∷
    0 ∷ 1 ∷ 1 ∷
    0 ∷ 2 ∷ 2 ∷
    0 ∷ 0 ∷ 0 ∷
    []

-- costs are given as they are
abbrev pub as_given : List ℕ → List ℕ
as_given f = f

-- the sluice with these tables, and with its own
abbrev pub with_tables : List Entry → List (List ℕ) → List ℕ → World
with_tables es fs rs = world_of sluice minutes_model as_given es fs rs

abbrev pub w : World
w = with_tables entries costs ranks

-- plans: work an operation and stop
abbrev pub working : ℕ → Plan
working o = work o (λ c. stop)

-- a lock of three sets of marks with these moves
abbrev pub port : PortModel
port = record {
  header = record { marks = 2; operations = 3; stages = 4; stage = 1; condition = 2 };
  conditions = 0 ∷ 1 ∷ 3 ∷ [];
  moves = moves;
  requests = [];
}
