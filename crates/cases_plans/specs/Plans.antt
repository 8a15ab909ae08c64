-- Examples of the definitions of plans, over the moves of a small lock.
use Rattle.std.specs.Prelude.{◌≡◌, ℕ, Bool, List, [], ◌∷◌}
use Rattle.port.specs.declared.Move.{Move}
use Rattle.plans.specs.Plans.{Plan, stop, Within, Can, Possible, IsRun, end, Works, Attains}
use Rattle.cases_plans.specs.Rows.{Row, holds, fails, AllSay}
use Rattle.cases_plans.specs.Basin.{move, lift, jam, haul, lower, stay, moves, lifting, hauling, up_and_down, try_and_lower, lift_and_lower, any, none, is, isnt}

pub data Claim : Type 0 where
  -- moves lead from conditions below a number to such
  within : ℕ → List Move → Claim
  -- in a condition an operation may make a move; an operation is possible in a condition
  can : (c o : ℕ) → Move → Claim
  possible : (c o : ℕ) → Claim
  -- moves are a run of a plan from a condition; they end in a condition
  run : Plan → ℕ → List Move → Claim
  ends : ℕ → List Move → ℕ → Claim
  -- a plan can be worked from a condition; it keeps to one test there and attains another
  works : Plan → ℕ → Claim
  attains : (keep goal : ℕ → Bool) → Plan → ℕ → Claim

abbrev pub Means : Claim → Type 0
Means (within n ms) = Within n ms
Means (can c o m) = Can moves c o m
Means (possible c o) = Possible moves c o
Means (run plan c ms) = IsRun moves plan c ms
Means (ends c ms d) = end c ms ≡ d
Means (works plan c) = Works moves plan c
Means (attains keep goal plan c) = Attains moves keep goal plan c

abbrev pub rows : List (Row Claim)
rows =
    -- Within: both ends of each move are below the number
    holds (within 3 moves) ∷
    holds (within 0 []) ∷
    fails (within 2 moves) ∷
    fails (within 2 (move 0 0 2 1 ∷ [])) ∷
    fails (within 2 (move 2 0 0 1 ∷ [])) ∷
    fails (within 1 (stay ∷ lift ∷ [])) ∷
    -- Can: a move of the list, with the condition and the operation
    holds (can 0 0 lift) ∷
    holds (can 0 0 jam) ∷
    holds (can 2 0 stay) ∷
    fails (can 0 1 lift) ∷
    fails (can 1 0 lift) ∷
    fails (can 0 0 (move 0 0 1 6)) ∷
    fails (can 0 0 (move 0 0 0 5)) ∷
    -- Possible: some move has the condition and the operation
    holds (possible 0 0) ∷
    holds (possible 1 1) ∷
    fails (possible 1 0) ∷
    fails (possible 2 1) ∷
    fails (possible 3 0) ∷
    -- IsRun: one move for each operation worked, and no more at the end
    holds (run stop 0 []) ∷
    holds (run lifting 0 (lift ∷ [])) ∷
    holds (run lifting 0 (jam ∷ [])) ∷
    holds (run try_and_lower 0 (lift ∷ lower ∷ [])) ∷
    holds (run try_and_lower 0 (jam ∷ [])) ∷
    fails (run stop 0 (lift ∷ [])) ∷
    fails (run lifting 0 []) ∷
    fails (run lifting 0 (haul ∷ [])) ∷
    fails (run lifting 1 (lift ∷ [])) ∷
    fails (run lifting 0 (move 0 0 0 5 ∷ [])) ∷
    fails (run try_and_lower 0 (lift ∷ [])) ∷
    fails (run try_and_lower 0 (jam ∷ stay ∷ [])) ∷
    fails (run up_and_down 0 (haul ∷ stay ∷ [])) ∷
    -- end: the outcome of the last move, and where there is none the condition itself
    holds (ends 2 [] 2) ∷
    holds (ends 0 (lift ∷ lower ∷ []) 0) ∷
    holds (ends 0 (haul ∷ []) 1) ∷
    fails (ends 0 (haul ∷ []) 0) ∷
    fails (ends 2 [] 0) ∷
    -- Works: stop anywhere; an operation where it is possible, and the rest after each of its outcomes
    holds (works stop 9) ∷
    holds (works try_and_lower 0) ∷
    holds (works up_and_down 0) ∷
    holds (works up_and_down 1) ∷
    fails (works lifting 1) ∷
    fails (works lift_and_lower 0) ∷
    fails (works up_and_down 2) ∷
    -- Attains: the first test in every condition passed but the last, the second in the last alone, on every run
    holds (attains none (is 2) stop 2) ∷
    holds (attains any (isnt 0) lifting 0) ∷
    holds (attains (is 0) (is 1) hauling 0) ∷
    holds (attains (isnt 2) (isnt 1) try_and_lower 0) ∷
    holds (attains any (is 0) up_and_down 0) ∷
    fails (attains any (is 1) stop 2) ∷
    fails (attains any (is 1) lifting 0) ∷
    fails (attains none any lifting 0) ∷
    fails (attains (is 0) any up_and_down 0) ∷
    fails (attains any (is 1) up_and_down 0) ∷
    fails (attains any any lifting 1) ∷
    fails (attains any any lift_and_lower 0) ∷
    []

abbrev pub PlansSay : Type 0
PlansSay = AllSay Means rows
