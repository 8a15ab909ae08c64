-- Examples of what a stage of the rounds holds, and of what a round changes of it.
use Rattle.std.specs.Prelude.{ℕ, Bool, true, false, List, [], ◌∷◌, map}
use Rattle.std.specs.Global.{Global}
use Rattle.rounds.specs.Rounds.{Wide, SameLeft, count_left}
use Rattle.rounds.specs.Stages.{IsNew, StagesNew, Even, NarrowedBy, SettledBy, SettledAll, left_in, next_in, rank_in, rank_row}
use Rattle.rounds.specs.Tasks.{SameTexts}
use Rattle.cases_plans.specs.Rows.{Row, holds, fails, AllSay}
use Rattle.cases_plans.specs.Values as values
use Rattle.cases_plans.specs.Values.{number, flag, numbers}
use Rattle.cases_search.specs.Held.{TaskRows, task_of}
use Rattle.cases_rounds.specs.Held.{StageRows, stage, stage_of}

abbrev two : Bool → Bool → List Bool
two a b = a ∷ b ∷ []

abbrev ranks : ℕ → ℕ → List ℕ
ranks a b = a ∷ b ∷ []

-- a stage as it is made, for two conditions; with the second pair taken out of what the round leaves; and once round 3 has ended
abbrev pub new : StageRows
new = stage (two true true) (two true true) (ranks 0 0) true

abbrev narrowed : StageRows
narrowed = stage (two true true) (two true false) (ranks 0 0) true

abbrev ended : StageRows
ended = stage (two true false) (two true false) (ranks 0 3) true

-- the same where the round takes none out, before it ends and after
abbrev before : StageRows
before = stage (two true false) (two true false) (ranks 0 2) true

abbrev after : StageRows
after = stage (two true false) (two true false) (ranks 0 2) false

-- ── what is computed ──

abbrev pub stages : List StageRows
stages = new ∷ narrowed ∷ ended ∷ []

abbrev pub computed : Global → List (Row values.Claim)
computed heap =
    -- left_in: the pairs that are left, by stage and condition; past the last there are none
    holds (flag (left_in (map (stage_of heap) stages) 1 1) true) ∷
    holds (flag (left_in (map (stage_of heap) stages) 2 0) true) ∷
    fails (flag (left_in (map (stage_of heap) stages) 2 1) true) ∷
    fails (flag (left_in (map (stage_of heap) stages) 3 0) true) ∷
    -- next_in: those that the round leaves
    holds (flag (next_in (map (stage_of heap) stages) 0 1) true) ∷
    holds (flag (next_in (map (stage_of heap) stages) 1 0) true) ∷
    fails (flag (next_in (map (stage_of heap) stages) 1 1) true) ∷
    fails (flag (next_in (map (stage_of heap) stages) 0 2) true) ∷
    -- rank_in: the number noted
    holds (number (rank_in (map (stage_of heap) stages) 2 1) 3) ∷
    holds (number (rank_in (map (stage_of heap) stages) 1 1) 0) ∷
    fails (number (rank_in (map (stage_of heap) stages) 2 0) 3) ∷
    fails (number (rank_in (map (stage_of heap) stages) 1 2) 3) ∷
    -- rank_row: the numbers of a stage
    holds (numbers (rank_row (stage_of heap ended)) (ranks 0 3)) ∷
    holds (numbers (rank_row (stage_of heap new)) (ranks 0 0)) ∷
    fails (numbers (rank_row (stage_of heap ended)) (ranks 3 0)) ∷
    fails (numbers (rank_row (stage_of heap new)) (0 ∷ [])) ∷
    -- count_left: how many pairs are left
    holds (number (count_left (map (stage_of heap) stages)) 5) ∷
    holds (number (count_left []) 0) ∷
    fails (number (count_left (map (stage_of heap) stages)) 4) ∷
    fails (number (count_left (map (stage_of heap) stages)) 6) ∷
    []

abbrev pub StagesComputedSay : Type 0
StagesComputedSay = (heap : Global) → AllSay values.Means (computed heap)

-- ── what is said of stages, and of tasks that change ──

pub data Claim : Type 0 where
  -- a stage as it is made, with so many conditions; so many of them; its rows are of one length, or of this length
  is_new : ℕ → StageRows → Claim
  stages_new : (count width : ℕ) → List StageRows → Claim
  even : StageRows → Claim
  wide : ℕ → StageRows → Claim
  -- a row narrows what the round leaves; the round of this number ends; and it ends at every stage
  narrowed_by : List Bool → (before after : StageRows) → Claim
  settled_by : ℕ → (before after : StageRows) → Claim
  settled_all : ℕ → (before after : List StageRows) → Bool → Claim
  -- all but what the round leaves is as it was; and what a task was made with
  same_left : (before after : StageRows) → Claim
  same_texts : (before after : TaskRows) → Claim

abbrev pub Means : Global → Claim → Type 0
Means heap (is_new n s) = IsNew n (stage_of heap s)
Means heap (stages_new m n ss) = StagesNew m n (map (stage_of heap) ss)
Means heap (even s) = Even (stage_of heap s)
Means heap (wide n s) = Wide n (stage_of heap s)
Means heap (narrowed_by r s t) = NarrowedBy r (stage_of heap s) (stage_of heap t)
Means heap (settled_by k s t) = SettledBy k (stage_of heap s) (stage_of heap t)
Means heap (settled_all k ss ts b) = SettledAll k (map (stage_of heap) ss) (map (stage_of heap) ts) b
Means heap (same_left s t) = SameLeft (stage_of heap s) (stage_of heap t)
Means heap (same_texts s t) = SameTexts (task_of heap s) (task_of heap t)

-- a task, by its stages and rows
abbrev task : ℕ → ℕ → (keep reach goal : List Bool) → TaskRows
task from to keep reach goal = record { from = from; to = to; keep = keep; reach = reach; goal = goal; served = goal }

abbrev made : TaskRows
made = task 1 0 (two true true) (two true false) []

abbrev pub rows : List (Row Claim)
rows =
    -- IsNew: all pairs left, no number noted, and it counts as one that lost a pair
    holds (is_new 2 new) ∷
    holds (is_new 0 (stage [] [] [] true)) ∷
    fails (is_new 1 new) ∷
    fails (is_new 2 (stage (two true false) (two true true) (ranks 0 0) true)) ∷
    fails (is_new 2 (stage (two true true) (two true false) (ranks 0 0) true)) ∷
    fails (is_new 2 (stage (two true true) (two true true) (ranks 0 1) true)) ∷
    fails (is_new 2 (stage (two true true) (two true true) (ranks 0 0) false)) ∷
    -- StagesNew: so many of them, and no more
    holds (stages_new 2 2 (new ∷ new ∷ [])) ∷
    holds (stages_new 0 7 []) ∷
    fails (stages_new 1 2 (new ∷ new ∷ [])) ∷
    fails (stages_new 3 2 (new ∷ new ∷ [])) ∷
    fails (stages_new 2 3 (new ∷ new ∷ [])) ∷
    fails (stages_new 2 2 (new ∷ ended ∷ [])) ∷
    -- Even: as many flags and numbers in each row
    holds (even new) ∷
    holds (even (stage (true ∷ []) (false ∷ []) (9 ∷ []) false)) ∷
    fails (even (stage (two true true) (true ∷ []) (ranks 0 0) true)) ∷
    fails (even (stage (two true true) (two true true) (0 ∷ []) true)) ∷
    -- Wide: as many as there are conditions
    holds (wide 2 ended) ∷
    holds (wide 0 (stage [] [] [] false)) ∷
    fails (wide 3 new) ∷
    fails (wide 2 (stage (true ∷ []) (two true true) (ranks 0 0) true)) ∷
    fails (wide 2 (stage (two true true) (true ∷ []) (ranks 0 0) true)) ∷
    fails (wide 2 (stage (two true true) (two true true) (0 ∷ []) true)) ∷
    -- NarrowedBy: only the pairs stay that the row has too, and all else stays
    holds (narrowed_by (two true false) new narrowed) ∷
    holds (narrowed_by (two true true) ended ended) ∷
    fails (narrowed_by (two false true) new narrowed) ∷
    fails (narrowed_by (two true true) narrowed new) ∷
    fails (narrowed_by (two true false) new (stage (two true false) (two true false) (ranks 0 0) true)) ∷
    fails (narrowed_by (two true false) new (stage (two true true) (two true false) (ranks 0 1) true)) ∷
    fails (narrowed_by (two true false) new (stage (two true true) (two true false) (ranks 0 0) false)) ∷
    -- SettledBy: what the round left is left, and its number is noted at the pairs that it took out, where there are any
    holds (settled_by 3 narrowed ended) ∷
    holds (settled_by 3 before after) ∷
    fails (settled_by 3 narrowed (stage (two true true) (two true false) (ranks 0 3) true)) ∷
    fails (settled_by 3 narrowed (stage (two true false) (two true true) (ranks 0 3) true)) ∷
    fails (settled_by 3 narrowed (stage (two true false) (two true false) (0 ∷ 3 ∷ 0 ∷ []) true)) ∷
    fails (settled_by 2 narrowed ended) ∷
    fails (settled_by 3 narrowed (stage (two true false) (two true false) (ranks 3 3) true)) ∷
    fails (settled_by 3 before (stage (two true false) (two true false) (ranks 0 3) false)) ∷
    fails (settled_by 3 narrowed (stage (two true false) (two true false) (ranks 0 3) false)) ∷
    fails (settled_by 3 before before) ∷
    -- SettledAll: that at each stage, and whether it took a pair out of one
    holds (settled_all 3 (before ∷ narrowed ∷ []) (after ∷ ended ∷ []) true) ∷
    holds (settled_all 3 (before ∷ before ∷ []) (after ∷ after ∷ []) false) ∷
    fails (settled_all 3 (before ∷ narrowed ∷ []) (after ∷ ended ∷ []) false) ∷
    fails (settled_all 3 (before ∷ before ∷ []) (after ∷ after ∷ []) true) ∷
    fails (settled_all 3 (before ∷ narrowed ∷ []) (after ∷ []) false) ∷
    fails (settled_all 3 (before ∷ narrowed ∷ []) (after ∷ ended ∷ after ∷ []) true) ∷
    fails (settled_all 2 (before ∷ narrowed ∷ []) (after ∷ ended ∷ []) true) ∷
    -- SameLeft: the pairs left, the numbers, and whether one was lost; of what the round leaves nothing is asked
    holds (same_left new narrowed) ∷
    holds (same_left ended (stage (two true false) [] (ranks 0 3) true)) ∷
    fails (same_left narrowed ended) ∷
    fails (same_left ended (stage (two true true) (two true false) (ranks 0 3) true)) ∷
    fails (same_left ended (stage (two true false) (two true false) (ranks 0 0) true)) ∷
    fails (same_left before after) ∷
    -- SameTexts: the stages and the rows of the texts; the goal may change, and from where the task is served
    holds (same_texts made (task 1 0 (two true true) (two true false) (two true false))) ∷
    holds (same_texts made made) ∷
    fails (same_texts made (task 0 0 (two true true) (two true false) [])) ∷
    fails (same_texts made (task 1 1 (two true true) (two true false) [])) ∷
    fails (same_texts made (task 1 0 (two true false) (two true false) [])) ∷
    fails (same_texts made (task 1 0 (two true true) (two true true) [])) ∷
    []

abbrev pub StagesSay : Type 0
StagesSay = (heap : Global) → AllSay (Means heap) rows
