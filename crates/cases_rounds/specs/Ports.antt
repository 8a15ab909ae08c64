-- Examples of an index of a port in memory: of each index of a port that says what the quay does.
use Rattle.std.specs.Prelude.{◌≡◌, ℕ, Bool, true, false, List, [], ◌∷◌, map, vec_items}
use Rattle.std.specs.Global.{Global}
use Rattle.port.specs.Limits.{at}
use Rattle.port.specs.declared.Move.{Move}
use Rattle.port.specs.Model.{model_of}
use Rattle.plans.specs.Flags.{task_at}
use Rattle.index.specs.Indexed.{port_of, moves_of, count_of}
use Rattle.index.specs.declared.MoveIndex.{MoveIndex}
use Rattle.rounds.specs.Rounds.{domain_in}
use Rattle.rounds.specs.Tasks.{TasksOf}
use Rattle.cases_plans.specs.Rows.{Row, holds, fails, AllSay}
use Rattle.cases_search.specs.Held.{TaskRows, task_of}
use Rattle.cases_words.specs.Ports.{quay, moves}

pub data Claim : Type 0 where
  -- of the port of an index: its stages, and its conditions; its moves; how many conditions there are
  stages : ℕ → Claim
  conditions : List ℕ → Claim
  transitions : List Move → Claim
  count : ℕ → Claim
  -- of its domain: conditions, stages and moves; where a task leads, and whether its keep or its reach holds in a condition
  wide : ℕ → Claim
  high : ℕ → Claim
  moving : List Move → Claim
  leads : (i from to : ℕ) → Claim
  keeps : (i c : ℕ) → Bool → Claim
  reaches : (i c : ℕ) → Bool → Claim
  -- tasks for its requests
  tasks : List TaskRows → Claim

abbrev pub Means : Global → MoveIndex → Claim → Type 0
Means heap index (stages n) = (port_of index).header.stages ≡ n
Means heap index (conditions cs) = vec_items (port_of index).conditions ≡ cs
Means heap index (transitions ms) = moves_of index ≡ ms
Means heap index (count n) = count_of index ≡ n
Means heap index (wide n) = (domain_in index).conditions ≡ n
Means heap index (high n) = (domain_in index).stages ≡ n
Means heap index (moving ms) = (domain_in index).moves ≡ ms
Means heap index (leads i s t) = ((task_at (domain_in index) i).from ≡ s) × ((task_at (domain_in index) i).to ≡ t)
Means heap index (keeps i c b) = (task_at (domain_in index) i).keep c ≡ b
Means heap index (reaches i c b) = (task_at (domain_in index) i).reach c ≡ b
Means heap index (tasks ts) = TasksOf (port_of index) (map (task_of heap) ts)

abbrev task : ℕ → ℕ → (keep reach : List Bool) → TaskRows
task from to keep reach = record { from = from; to = to; keep = keep; reach = reach; goal = []; served = [] }

abbrev three : Bool → Bool → Bool → List Bool
three a b c = a ∷ b ∷ c ∷ []

-- the tasks of its two requests, whose texts are 1 and a, and !b|a and !a&!b, in the conditions with no mark, with a, and with both
abbrev go_task : TaskRows
go_task = task 0 1 (three true true true) (three false true true)

abbrev back_task : TaskRows
back_task = task 1 0 (three true true true) (three true false false)

abbrev pub rows : List (Row Claim)
rows =
    -- port_of: the port itself
    holds (stages 5) ∷
    holds (conditions (0 ∷ 1 ∷ 3 ∷ [])) ∷
    fails (stages 4) ∷
    fails (conditions (0 ∷ 1 ∷ [])) ∷
    fails (conditions (1 ∷ 0 ∷ 3 ∷ [])) ∷
    -- moves_of: its moves, in their order
    holds (transitions moves) ∷
    holds (transitions (at moves 0 ∷ at moves 1 ∷ at moves 2 ∷ at moves 3 ∷ [])) ∷
    fails (transitions []) ∷
    fails (transitions (at moves 1 ∷ at moves 0 ∷ at moves 2 ∷ at moves 3 ∷ [])) ∷
    -- count_of: how many conditions it has
    holds (count 3) ∷
    fails (count 2) ∷
    fails (count 4) ∷
    -- domain_in: its planning domain
    holds (wide 3) ∷
    holds (high 5) ∷
    holds (moving moves) ∷
    holds (leads 0 0 1) ∷
    holds (leads 1 1 0) ∷
    holds (keeps 1 2 true) ∷
    holds (reaches 1 0 true) ∷
    holds (reaches 0 0 false) ∷
    fails (wide 5) ∷
    fails (high 3) ∷
    fails (moving []) ∷
    fails (leads 0 1 0) ∷
    fails (keeps 0 1 false) ∷
    fails (reaches 1 1 true) ∷
    -- TasksOf: a task for each request, in their order, and no more
    holds (tasks (go_task ∷ back_task ∷ [])) ∷
    holds (tasks (record go_task { goal = true ∷ [] } ∷ record back_task { served = false ∷ [] } ∷ [])) ∷
    fails (tasks (back_task ∷ go_task ∷ [])) ∷
    fails (tasks (go_task ∷ [])) ∷
    fails (tasks (go_task ∷ back_task ∷ back_task ∷ [])) ∷
    fails (tasks (go_task ∷ task 1 0 (three true true true) (three true false true) ∷ [])) ∷
    fails (tasks (go_task ∷ task 1 0 (three true true false) (three true false false) ∷ [])) ∷
    []

-- each row stands for each such index; and with any allocator there is one
abbrev pub PortsSay : Type 0
PortsSay =
    ((heap : Global) (index : MoveIndex) → model_of (port_of index) ≡ quay → AllSay (Means heap index) rows)
    × ((heap : Global) → (index : MoveIndex) × (model_of (port_of index) ≡ quay))
