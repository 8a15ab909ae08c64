-- Examples of what a policy and its ranks promise.
use Rattle.std.specs.Prelude.{ℕ, List, [], ◌∷◌}
use Rattle.plans.specs.Plans.{Plan, stop, work}
use Rattle.solver.specs.declared.Entry.{Entry}
use Rattle.solver.specs.declared.Entry.TheVariants.{None, There, Work}
use Rattle.solver.specs.Policy.{Safe, Price, Begins, Best, Right, Solved}
use Rattle.cases_plans.specs.Rows.{Row, holds, fails, AllSay}
use Rattle.cases_histories.specs.Sluice.{two, nought, entries, costs, ranks, with_tables, w, working}

pub data Claim : Type 0 where
  -- a plan meets a request from a condition, and ends in kept pairs; it costs so much from there
  safe : ℕ → Plan → ℕ → Claim
  price : Plan → ℕ → List ℕ → Claim
  -- for a request and in a condition: an operation begins a safe plan of that cost; it is the best one; the entry and its cost are right
  begins : (q c o : ℕ) → List ℕ → Claim
  best : (q c o : ℕ) → List ℕ → Claim
  right : (q c : ℕ) → Entry → List ℕ → Claim
  -- the sluice is solved by these tables
  solved : List Entry → List (List ℕ) → List ℕ → Claim

abbrev pub Means : Claim → Type 0
Means (safe q plan c) = Safe w q plan c
Means (price plan c f) = Price w plan c f
Means (begins q c o f) = Begins w q c o f
Means (best q c o f) = Best w q c o f
Means (right q c x f) = Right w q c x f
Means (solved es fs rs) = Solved (with_tables es fs rs)

-- operation 1, and then again
abbrev pub twice : Plan
twice = work 1 (λ c. working 1)

-- entries after the first, and ranks after the first four
abbrev others : List Entry
others = There ∷ There ∷ There ∷ None ∷ None ∷ There ∷ None ∷ None ∷ []

abbrev rest : List ℕ
rest = 1 ∷ 1 ∷ 0 ∷ 2 ∷ 2 ∷ 0 ∷ 0 ∷ 0 ∷ []

abbrev idle : List (List ℕ)
idle = nought ∷ nought ∷ nought ∷ nought ∷ nought ∷ nought ∷ nought ∷ nought ∷ []

abbrev pub rows : List (Row Claim)
rows =
    -- Safe: keep before the end, reach at the end, and the pair with the to-stage kept
    holds (safe 0 (working 1) 0) ∷
    holds (safe 0 (working 0) 0) ∷
    holds (safe 0 stop 2) ∷
    holds (safe 2 stop 0) ∷
    fails (safe 0 stop 0) ∷
    fails (safe 0 (working 1) 1) ∷
    fails (safe 0 twice 0) ∷
    fails (safe 2 stop 1) ∷
    fails (safe 2 (working 1) 0) ∷
    fails (safe 1 stop 1) ∷
    -- Price: the greatest of the runs' costs
    holds (price (working 1) 0 (two 3 1)) ∷
    holds (price (working 0) 0 (two 7 1)) ∷
    holds (price stop 1 nought) ∷
    fails (price (working 0) 0 (two 5 1)) ∷
    fails (price (working 1) 0 (two 7 1)) ∷
    fails (price (working 1) 0 (two 3 0)) ∷
    fails (price twice 0 (two 6 2)) ∷
    -- Begins: some plan that begins so is safe, and costs just that
    holds (begins 0 0 0 (two 7 1)) ∷
    holds (begins 0 0 2 (two 3 1)) ∷
    fails (begins 0 0 0 (two 5 1)) ∷
    fails (begins 0 0 3 (two 3 1)) ∷
    fails (begins 0 1 1 (two 3 1)) ∷
    fails (begins 2 0 1 (two 3 1)) ∷
    -- Best: of the least cost, and the lowest of those; where no plan is safe there is none
    holds (best 0 0 1 (two 3 1)) ∷
    fails (best 0 0 0 (two 7 1)) ∷
    fails (best 0 0 2 (two 3 1)) ∷
    fails (best 0 0 1 (two 2 1)) ∷
    fails (best 0 0 1 (two 4 1)) ∷
    fails (best 1 1 0 (two 7 1)) ∷
    -- Right: There where stopping is safe, None where nothing is, both at no cost; else the best operation
    holds (right 0 0 (Work 1) (two 3 1)) ∷
    holds (right 0 1 There nought) ∷
    holds (right 1 2 None nought) ∷
    holds (right 2 1 None nought) ∷
    fails (right 0 0 (Work 0) (two 7 1)) ∷
    fails (right 0 0 (Work 2) (two 3 1)) ∷
    fails (right 0 0 (Work 1) (two 2 1)) ∷
    fails (right 0 0 None nought) ∷
    fails (right 0 0 There nought) ∷
    fails (right 0 1 There (two 1 0)) ∷
    fails (right 0 1 None nought) ∷
    fails (right 1 2 There nought) ∷
    fails (right 1 2 None (two 1 0)) ∷
    fails (right 2 0 (Work 1) (two 3 1)) ∷
    -- Solved: all ranks, entries and costs; what stands past the places does not count, and what is read past the end does
    holds (solved entries costs ranks) ∷
    holds (solved (Work 1 ∷ others) (two 3 1 ∷ []) (0 ∷ 0 ∷ 0 ∷ 0 ∷ rest)) ∷
    holds (solved entries (two 3 1 ∷ idle) (0 ∷ 0 ∷ 0 ∷ 0 ∷ 1 ∷ 1 ∷ 0 ∷ 2 ∷ 2 ∷ 0 ∷ 0 ∷ 0 ∷ 9 ∷ [])) ∷
    fails (solved (Work 0 ∷ others) costs ranks) ∷
    fails (solved (Work 2 ∷ others) costs ranks) ∷
    fails (solved entries (two 7 1 ∷ idle) ranks) ∷
    fails (solved entries costs (1 ∷ 0 ∷ 0 ∷ 0 ∷ rest)) ∷
    fails (solved entries costs (0 ∷ 0 ∷ 0 ∷ 2 ∷ rest)) ∷
    fails (solved entries costs []) ∷
    fails (solved [] costs ranks) ∷
    []

abbrev pub PoliciesSay : Type 0
PoliciesSay = AllSay Means rows
