-- Examples of what a task of the rounds holds, over the small lock of `cases_plans`.
use Rattle.std.specs.Prelude.{ℕ, Bool, true, false, List, [], ◌∷◌, codes, map}
use Rattle.std.specs.Global.{Global}
use Rattle.port.specs.Model.{RequestModel}
use Rattle.plans.specs.Flags.{has, bit}
use Rattle.plans.specs.Simulation.{Domain, Task as Asked}
use Rattle.search.specs.declared.Choice.TheVariants.{None, There, Work}
use Rattle.rounds.specs.Rows.{Agree, both_rows, truths}
use Rattle.rounds.specs.Rounds.{serving}
use Rattle.rounds.specs.Tasks.{planned, IsTask, IsDomainTask, DomainTasks, Fresh}
use Rattle.cases_plans.specs.Rows.{Row, holds, fails, AllSay}
use Rattle.cases_plans.specs.Values as values
use Rattle.cases_plans.specs.Values.{flag, numbers}
use Rattle.cases_plans.specs.Basin.{raise, settle, basin, jamming, everywhere, among, pair}
use Rattle.cases_search.specs.Held.{TaskRows, task_of}

-- ── what is computed ──

-- flags as numbers
abbrev bits : List Bool → List ℕ
bits flags = map bit flags

abbrev pub marks : List ℕ
marks = 0 ∷ 1 ∷ 3 ∷ []

abbrev pub computed : List (Row values.Claim)
computed =
    -- both_rows: the flags that both rows have, and as many as the shorter
    holds (numbers (bits (both_rows (true ∷ true ∷ false ∷ []) (true ∷ false ∷ true ∷ []))) (1 ∷ 0 ∷ 0 ∷ [])) ∷
    holds (numbers (bits (both_rows (true ∷ true ∷ []) (true ∷ []))) (1 ∷ [])) ∷
    fails (numbers (bits (both_rows (true ∷ false ∷ []) (false ∷ true ∷ []))) (1 ∷ 1 ∷ [])) ∷
    fails (numbers (bits (both_rows (true ∷ []) (false ∷ []))) (1 ∷ [])) ∷
    -- truths: where a text holds, condition by condition
    holds (numbers (bits (truths 2 marks (codes "a"))) (0 ∷ 1 ∷ 1 ∷ [])) ∷
    holds (numbers (bits (truths 2 marks (codes "!b"))) (1 ∷ 1 ∷ 0 ∷ [])) ∷
    fails (numbers (bits (truths 2 marks (codes "b"))) (0 ∷ 1 ∷ 1 ∷ [])) ∷
    fails (numbers (bits (truths 2 marks (codes "1"))) (1 ∷ 1 ∷ [])) ∷
    -- planned: all choices but one have a plan
    holds (flag (planned {K = ℕ} There) true) ∷
    holds (flag (planned {K = ℕ} (Work 0 7)) true) ∷
    fails (flag (planned {K = ℕ} None) true) ∷
    fails (flag (planned {K = ℕ} There) false) ∷
    -- serving: a plan for the task, which ends in the pairs
    holds (flag (serving basin everywhere 0 0) true) ∷
    holds (flag (serving basin (among (pair 1 1 ∷ [])) 0 0) true) ∷
    fails (flag (serving basin (among (pair 0 1 ∷ [])) 0 0) true) ∷
    fails (flag (serving jamming (among (pair 1 1 ∷ [])) 0 0) true) ∷
    fails (flag (serving basin everywhere 1 2) true) ∷
    []

abbrev pub TasksComputedSay : Type 0
TasksComputedSay = AllSay values.Means computed

-- ── what is said of tasks ──

pub data Claim : Type 0 where
  agree : ℕ → (f g : List Bool) → Claim
  -- a task is that of a request, and that of a task of a domain; the tasks of a domain
  is_task : RequestModel → TaskRows → Claim
  tells : ℕ → Asked → TaskRows → Claim
  told : Domain → List TaskRows → Claim
  -- a task's rows are up to date with the pairs left of its to-stage
  fresh : Domain → List Bool → TaskRows → Claim

abbrev pub Means : Global → Claim → Type 0
Means heap (agree n f g) = Agree n (has f) (has g)
Means heap (is_task q t) = IsTask 2 marks q (task_of heap t)
Means heap (tells n q t) = IsDomainTask n q (task_of heap t)
Means heap (told D ts) = DomainTasks D (map (task_of heap) ts)
Means heap (fresh D alive t) = Fresh D alive (task_of heap t)

abbrev asked : RequestModel
asked = record { from = 1; to = 0; keep = codes "!b"; reach = codes "!a" }

abbrev three : Bool → Bool → Bool → List Bool
three a b c = a ∷ b ∷ c ∷ []

-- a task as it is made
abbrev made : ℕ → ℕ → (keep reach : List Bool) → TaskRows
made from to keep reach = record { from = from; to = to; keep = keep; reach = reach; goal = []; served = [] }

abbrev raising : TaskRows
raising = made 0 1 (three true true true) (three false true true)

abbrev settling : TaskRows
settling = made 1 0 (three true true false) (three true false false)

-- a task with the rows of a round, which begins from anywhere
abbrev updated : (keep reach goal served : List Bool) → TaskRows
updated keep reach goal served = record { from = 0; to = 1; keep = keep; reach = reach; goal = goal; served = served }

abbrev raised : (goal served : List Bool) → TaskRows
raised goal served = updated (three true true true) (three false true true) goal served

abbrev pub rows : List (Row Claim)
rows =
    -- Agree: below the number, and of what is past it nothing is asked
    holds (agree 2 (true ∷ false ∷ true ∷ []) (true ∷ false ∷ [])) ∷
    holds (agree 0 (true ∷ []) (false ∷ [])) ∷
    fails (agree 3 (true ∷ false ∷ true ∷ []) (true ∷ false ∷ [])) ∷
    fails (agree 1 (true ∷ []) (false ∷ [])) ∷
    -- IsTask: the stages of the request, and the rows of its texts
    holds (is_task asked settling) ∷
    holds (is_task (record { from = 0; to = 1; keep = codes "1"; reach = codes "a" }) raising) ∷
    fails (is_task asked (made 0 0 (three true true false) (three true false false))) ∷
    fails (is_task asked (made 1 1 (three true true false) (three true false false))) ∷
    fails (is_task asked (made 1 0 (three true true true) (three true false false))) ∷
    fails (is_task asked (made 1 0 (three true true false) (three true true false))) ∷
    fails (is_task asked (made 1 0 (three true true false) (true ∷ []))) ∷
    -- IsDomainTask: the same for a task of a domain of so many conditions
    holds (tells 3 raise raising) ∷
    holds (tells 3 settle settling) ∷
    fails (tells 3 raise settling) ∷
    fails (tells 2 raise raising) ∷
    fails (tells 3 settle (made 1 1 (three true true false) (three true false false))) ∷
    fails (tells 3 settle (made 1 0 (three true true false) (three true false true))) ∷
    fails (tells 3 settle (made 1 0 (true ∷ true ∷ []) (three true false false))) ∷
    fails (tells 3 settle (made 1 0 (three true true false) (true ∷ []))) ∷
    -- DomainTasks: each task of the domain, at its place
    holds (told basin (raising ∷ settling ∷ [])) ∷
    holds (told jamming (raising ∷ settling ∷ [])) ∷
    fails (told basin (settling ∷ raising ∷ [])) ∷
    fails (told basin (raising ∷ [])) ∷
    fails (told basin (raising ∷ settling ∷ settling ∷ [])) ∷
    -- Fresh: the goal is where the reach holds and the pair is left, and served are the conditions with a plan to it
    holds (fresh basin (three true true true) (raised (three false true true) (three true true true))) ∷
    holds (fresh basin (three true true false) (raised (three false true false) (three true true false))) ∷
    holds (fresh jamming (three true true false) (raised (three false true false) (three false true false))) ∷
    holds (fresh basin (three false false false) (raised (three false false false) (three false false false))) ∷
    fails (fresh basin (three true true false) (raised (three false true true) (three true true true))) ∷
    fails (fresh basin (three true true false) (raised (three true true false) (three true true false))) ∷
    fails (fresh jamming (three true true false) (raised (three false true false) (three true true false))) ∷
    fails (fresh basin (three true true false) (raised (three false true false) (three false true false))) ∷
    fails (fresh basin (three true true false) (raised (false ∷ true ∷ []) (three true true false))) ∷
    fails (fresh basin (three true true false) (raised (three false true false) (true ∷ true ∷ []))) ∷
    fails (fresh basin (three true true false) (updated (three false true true) (three false true true) (three false true false) (three true true false))) ∷
    []

abbrev pub TasksSay : Type 0
TasksSay = (heap : Global) → AllSay (Means heap) rows
