-- Examples of rounds over pairs: what stands before a round, in it, and between two, over the small lock of `cases_plans`.
use Rattle.std.specs.Prelude.{ℕ, ◌+◌, ◌*◌, Bool, true, false, List, [], ◌∷◌, map}
use Rattle.std.specs.Global.{Global}
use Rattle.plans.specs.Flags.{has, rank_at}
use Rattle.plans.specs.Simulation.{Domain}
use Rattle.rounds.specs.Rounds.{FreshFrom, RoundReady, Turned, Judged, Going}
use Rattle.cases_plans.specs.Rows.{Row, holds, fails, AllSay}
use Rattle.cases_plans.specs.Basin.{basin}
use Rattle.cases_search.specs.Held.{TaskRows, task_of}
use Rattle.cases_rounds.specs.Held.{StageRows, stage, stage_of}

-- the set of pairs that rows of n flags stand for, a row for each stage
abbrev pub pairs : ℕ → List Bool → ℕ → ℕ → Bool
pairs n flags s c = has flags (s * n + c)

pub data Claim : Type 0 where
  -- from a task on, rows may be out of date where the to-stage lost a pair
  fresh_from : Domain → List TaskRows → List StageRows → ℕ → Claim
  -- a round may begin; so many tasks have had their turn in it, from the stages before
  ready : Domain → List TaskRows → List StageRows → Claim
  turned : Domain → (before : List StageRows) → List TaskRows → List StageRows → ℕ → Claim
  -- after so many rounds: the flags and ranks of pairs, stage by stage; and tasks and stages
  judged : Domain → List Bool → List ℕ → ℕ → Bool → Claim
  going : Domain → List TaskRows → List StageRows → ℕ → Bool → Claim

abbrev pub Means : Global → Claim → Type 0
Means heap (fresh_from D ts ss i) = FreshFrom D (map (task_of heap) ts) (map (stage_of heap) ss) i
Means heap (ready D ts ss) = RoundReady D (map (task_of heap) ts) (map (stage_of heap) ss)
Means heap (turned D bs ts ss i) = Turned D (map (stage_of heap) bs) (map (task_of heap) ts) (map (stage_of heap) ss) i
Means heap (judged D alive ranks k b) = Judged D (pairs D.conditions alive) (rank_at D.conditions ranks) k b
Means heap (going D ts ss k b) = Going D (map (task_of heap) ts) (map (stage_of heap) ss) k b

abbrev three : Bool → Bool → Bool → List Bool
three a b c = a ∷ b ∷ c ∷ []

abbrev all : List Bool
all = three true true true

abbrev not_stuck : List Bool
not_stuck = three true true false

abbrev numbers : ℕ → ℕ → ℕ → List ℕ
numbers a b c = a ∷ b ∷ c ∷ []

-- ── tasks ──

-- the request to be high or stuck, and that to be low again, with a goal and from where it is served
abbrev raise : (goal served : List Bool) → TaskRows
raise goal served = record { from = 0; to = 1; keep = all; reach = three false true true; goal = goal; served = served }

abbrev settle : (goal served : List Bool) → TaskRows
settle goal served = record { from = 1; to = 0; keep = not_stuck; reach = three true false false; goal = goal; served = served }

-- as they are made; up to date with all pairs; and, the first, without the stuck one of stage 1
abbrev made : List TaskRows
made = raise [] [] ∷ settle [] [] ∷ []

abbrev raise_all : TaskRows
raise_all = raise (three false true true) all

abbrev raise_high : TaskRows
raise_high = raise (three false true false) not_stuck

abbrev settle_all : TaskRows
settle_all = settle (three true false false) not_stuck

-- ── stages ──

-- with all pairs left, when the rounds begin, and later; with the stuck pair taken out by a round, the last one or one before
abbrev new : StageRows
new = stage all all (numbers 0 0 0) true

abbrev whole : StageRows
whole = stage all all (numbers 0 0 0) false

abbrev reduced : ℕ → Bool → StageRows
reduced k lost = stage not_stuck not_stuck (numbers 0 0 k) lost

-- a stage whose next set begins to differ
abbrev narrowed : Bool → StageRows
narrowed lost = stage all not_stuck (numbers 0 0 0) lost

-- the four stages when the rounds begin, and after one round, two, and three
abbrev begun : List StageRows
begun = new ∷ new ∷ new ∷ new ∷ []

abbrev after_one : List StageRows
after_one = whole ∷ reduced 1 true ∷ whole ∷ whole ∷ []

abbrev after_two : List StageRows
after_two = reduced 2 true ∷ reduced 1 false ∷ whole ∷ whole ∷ []

abbrev after_three : List StageRows
after_three = reduced 2 false ∷ reduced 1 false ∷ whole ∷ whole ∷ []

-- ── flags and ranks of all pairs: those of the stuck ones of the first two stages, and of the others ──

abbrev flags : (first second : Bool) → List Bool
flags a b = true ∷ true ∷ a ∷ true ∷ true ∷ b ∷ true ∷ true ∷ true ∷ true ∷ true ∷ true ∷ []

abbrev noted : (k l other : ℕ) → List ℕ
noted k l other = other ∷ other ∷ k ∷ other ∷ other ∷ l ∷ other ∷ other ∷ other ∷ other ∷ other ∷ other ∷ []

abbrev pub rows : List (Row Claim)
rows =
    -- FreshFrom: before the number each task's rows are up to date, and from there on those whose to-stage lost nothing
    holds (fresh_from basin made begun 0) ∷
    holds (fresh_from basin (raise_all ∷ settle [] [] ∷ []) begun 1) ∷
    holds (fresh_from basin (raise_all ∷ settle_all ∷ []) begun 2) ∷
    holds (fresh_from basin (raise [] [] ∷ settle_all ∷ []) after_one 0) ∷
    fails (fresh_from basin made begun 1) ∷
    fails (fresh_from basin (raise_all ∷ settle [] [] ∷ []) begun 2) ∷
    fails (fresh_from basin made after_one 0) ∷
    fails (fresh_from basin (raise_all ∷ settle_all ∷ []) after_one 1) ∷
    -- RoundReady: tasks and stages of the domain, rows for its conditions, the next set as what is left, and rows up to date but where a pair was lost
    holds (ready basin made begun) ∷
    holds (ready basin (raise_all ∷ settle_all ∷ []) after_one) ∷
    holds (ready basin (raise_high ∷ settle_all ∷ []) after_three) ∷
    fails (ready basin (settle [] [] ∷ raise [] [] ∷ []) begun) ∷
    fails (ready basin made (new ∷ new ∷ new ∷ [])) ∷
    fails (ready basin made (new ∷ new ∷ new ∷ stage all all (0 ∷ []) true ∷ [])) ∷
    fails (ready basin made (new ∷ narrowed true ∷ new ∷ new ∷ [])) ∷
    fails (ready basin made after_one) ∷
    -- Turned: the stages are as before but for the next set, from which is taken what the first tasks do not serve
    holds (turned basin begun made begun 0) ∷
    holds (turned basin begun (raise_all ∷ settle [] [] ∷ []) begun 1) ∷
    holds (turned basin begun (raise_all ∷ settle_all ∷ []) (new ∷ narrowed true ∷ new ∷ new ∷ []) 2) ∷
    holds (turned basin after_one (raise_high ∷ settle_all ∷ []) (narrowed false ∷ reduced 1 true ∷ whole ∷ whole ∷ []) 1) ∷
    fails (turned basin begun (settle [] [] ∷ raise [] [] ∷ []) begun 0) ∷
    fails (turned basin begun made (new ∷ new ∷ new ∷ []) 0) ∷
    fails (turned basin begun made (new ∷ new ∷ new ∷ whole ∷ []) 0) ∷
    fails (turned basin begun made (new ∷ new ∷ new ∷ stage all (true ∷ true ∷ true ∷ true ∷ []) (numbers 0 0 0) true ∷ []) 0) ∷
    fails (turned basin begun made begun 1) ∷
    fails (turned basin begun (raise_all ∷ settle_all ∷ []) begun 2) ∷
    fails (turned basin begun (raise_all ∷ settle_all ∷ []) (new ∷ narrowed true ∷ new ∷ new ∷ []) 1) ∷
    -- Judged: the pairs left after so many rounds, the ranks of the others, 0 for those left, and once nothing changed what is left is kept
    holds (judged basin (flags true true) (noted 0 0 0) 0 true) ∷
    holds (judged basin (flags true false) (noted 0 1 0) 1 true) ∷
    holds (judged basin (flags false false) (noted 2 1 0) 2 true) ∷
    holds (judged basin (flags false false) (noted 2 1 0) 3 false) ∷
    fails (judged basin (flags true true) (noted 0 0 0) 1 true) ∷
    fails (judged basin (flags false true) (noted 2 0 0) 1 true) ∷
    fails (judged basin (flags false false) (noted 1 1 0) 2 true) ∷
    fails (judged basin (flags false false) (noted 2 1 9) 2 true) ∷
    fails (judged basin (flags true false) (noted 0 1 0) 1 false) ∷
    -- Going: a round may begin, the stages are judged, each round but the last took a pair out, and the last none where nothing changed
    holds (going basin made begun 0 true) ∷
    holds (going basin (raise_all ∷ settle_all ∷ []) after_one 1 true) ∷
    holds (going basin (raise_high ∷ settle_all ∷ []) after_two 2 true) ∷
    holds (going basin (raise_high ∷ settle_all ∷ []) after_three 3 false) ∷
    fails (going basin made after_three 3 false) ∷
    fails (going basin (raise_all ∷ settle_all ∷ []) after_one 0 true) ∷
    fails (going basin (raise_high ∷ settle_all ∷ []) after_three 4 false) ∷
    fails (going basin (raise_high ∷ settle_all ∷ []) after_two 3 false) ∷
    []

abbrev pub RoundsSay : Type 0
RoundsSay = (heap : Global) → AllSay (Means heap) rows
