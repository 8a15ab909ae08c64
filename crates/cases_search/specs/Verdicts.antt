-- Examples of what a verdict tells of a planning domain: the small lock of `cases_plans`, with and without hauling.
use Rattle.std.specs.Prelude.{ℕ, Bool, true, false, List, [], ◌∷◌, map}
use Rattle.std.specs.Global.{Global}
use Rattle.plans.specs.Simulation.{Domain}
use Rattle.rounds.specs.Verdicts.{KeepRows, GoalRows, RankRows, Judges}
use Rattle.cases_plans.specs.Rows.{Row, holds, fails, AllSay}
use Rattle.cases_plans.specs.Basin.{basin, jamming}
use Rattle.cases_search.specs.Held.{TaskRows, task_of}

pub data Claim : Type 0 where
  keep_rows : Domain → List TaskRows → Claim
  goal_rows : Domain → List TaskRows → Claim
  rank_rows : Domain → List ℕ → Claim
  judges : Domain → List TaskRows → List ℕ → Claim

abbrev pub Means : Global → Claim → Type 0
Means heap (keep_rows D ts) = KeepRows D (map (task_of heap) ts)
Means heap (goal_rows D ts) = GoalRows D (map (task_of heap) ts)
Means heap (rank_rows D ranks) = RankRows D ranks
Means heap (judges D ts ranks) = Judges D (map (task_of heap) ts) ranks

-- where a task may be worked, and where it may end
abbrev shown : (keep goal : List Bool) → TaskRows
shown keep goal = record { from = 0; to = 0; keep = keep; reach = []; goal = goal; served = [] }

abbrev kept : List Bool → TaskRows
kept keep = shown keep []

abbrev ends : List Bool → TaskRows
ends goal = shown [] goal

abbrev three : Bool → Bool → Bool → List Bool
three a b c = a ∷ b ∷ c ∷ []

-- raise may be worked anywhere, and settle where the lock is not stuck; raise may end where the lock is high, since from there settle is served,
-- and settle where it is low, since from there raise is served; without hauling neither is
abbrev raise_keep : List Bool
raise_keep = three true true true

abbrev settle_keep : List Bool
settle_keep = three true true false

abbrev at_high : List Bool
at_high = three false true false

abbrev at_low : List Bool
at_low = three true false false

abbrev nowhere : List Bool
nowhere = three false false false

-- the ranks of the pairs of either domain, stage by stage
abbrev basin_ranks : List ℕ
basin_ranks =
    0 ∷ 0 ∷ 2 ∷
    0 ∷ 0 ∷ 1 ∷
    0 ∷ 0 ∷ 0 ∷
    0 ∷ 0 ∷ 0 ∷
    []

abbrev jamming_ranks : List ℕ
jamming_ranks =
    2 ∷ 4 ∷ 2 ∷
    3 ∷ 3 ∷ 1 ∷
    0 ∷ 0 ∷ 0 ∷
    0 ∷ 0 ∷ 0 ∷
    []

abbrev pub rows : List (Row Claim)
rows =
    -- KeepRows: a row for each task, a flag for each condition, and those flags
    holds (keep_rows basin (kept raise_keep ∷ kept settle_keep ∷ [])) ∷
    holds (keep_rows jamming (kept raise_keep ∷ kept settle_keep ∷ [])) ∷
    fails (keep_rows basin (kept raise_keep ∷ [])) ∷
    fails (keep_rows basin (kept raise_keep ∷ kept settle_keep ∷ kept raise_keep ∷ [])) ∷
    fails (keep_rows basin (kept raise_keep ∷ kept (true ∷ true ∷ []) ∷ [])) ∷
    fails (keep_rows basin (kept (true ∷ true ∷ true ∷ true ∷ []) ∷ kept settle_keep ∷ [])) ∷
    fails (keep_rows basin (kept raise_keep ∷ kept raise_keep ∷ [])) ∷
    fails (keep_rows basin (kept settle_keep ∷ kept raise_keep ∷ [])) ∷
    -- GoalRows: the same of the conditions where the reach holds and the pair with the to-stage is kept
    holds (goal_rows basin (ends at_high ∷ ends at_low ∷ [])) ∷
    holds (goal_rows jamming (ends nowhere ∷ ends nowhere ∷ [])) ∷
    fails (goal_rows basin (ends at_high ∷ [])) ∷
    fails (goal_rows basin (ends at_high ∷ ends (true ∷ false ∷ []) ∷ [])) ∷
    fails (goal_rows basin (ends (three false true true) ∷ ends at_low ∷ [])) ∷
    fails (goal_rows basin (ends (three true true false) ∷ ends at_low ∷ [])) ∷
    fails (goal_rows basin (ends nowhere ∷ ends at_low ∷ [])) ∷
    fails (goal_rows jamming (ends at_high ∷ ends at_low ∷ [])) ∷
    -- RankRows: a number for each pair, by stage and condition, and no other than its rank
    holds (rank_rows basin basin_ranks) ∷
    holds (rank_rows jamming jamming_ranks) ∷
    fails (rank_rows basin jamming_ranks) ∷
    fails (rank_rows basin (0 ∷ 0 ∷ 1 ∷ 0 ∷ 0 ∷ 2 ∷ 0 ∷ 0 ∷ 0 ∷ 0 ∷ 0 ∷ 0 ∷ [])) ∷
    fails (rank_rows basin (0 ∷ 0 ∷ 2 ∷ 0 ∷ 0 ∷ 1 ∷ [])) ∷
    fails (rank_rows basin (0 ∷ 0 ∷ 2 ∷ 0 ∷ 0 ∷ 1 ∷ 0 ∷ 0 ∷ 0 ∷ 0 ∷ 0 ∷ 0 ∷ 0 ∷ [])) ∷
    fails (rank_rows jamming basin_ranks) ∷
    -- Judges: all three
    holds (judges basin (shown raise_keep at_high ∷ shown settle_keep at_low ∷ []) basin_ranks) ∷
    holds (judges jamming (shown raise_keep nowhere ∷ shown settle_keep nowhere ∷ []) jamming_ranks) ∷
    fails (judges basin (shown settle_keep at_high ∷ shown settle_keep at_low ∷ []) basin_ranks) ∷
    fails (judges basin (shown raise_keep nowhere ∷ shown settle_keep at_low ∷ []) basin_ranks) ∷
    fails (judges basin (shown raise_keep at_high ∷ shown settle_keep at_low ∷ []) jamming_ranks) ∷
    fails (judges jamming (shown raise_keep at_high ∷ shown settle_keep at_low ∷ []) jamming_ranks) ∷
    []

-- whatever allocator holds the rows
abbrev pub VerdictsSay : Type 0
VerdictsSay = (heap : Global) → AllSay (Means heap) rows
