-- Examples of the definitions of simulations and ranks, over small domains.
use Rattle.std.specs.Prelude.{◌≡◌, ℕ, Bool, true, List, [], ◌∷◌}
use Rattle.plans.specs.Plans.{Plan, stop}
use Rattle.plans.specs.Simulation.{Task, Domain, WellFormed, Meets, EndsIn, Serves, InRange, Holds, Simulation, Kept, ServesRow, Rank}
use Rattle.cases_plans.specs.Rows.{Row, holds, fails, AllSay}
use Rattle.cases_plans.specs.Basin.{jam, lifting, hauling, up_and_down, try_and_lower, none, is, isnt, raise, settle, basin, jamming, stranding, Pair, pair, among, everywhere}

pub data Claim : Type 0 where
  well_formed : Domain → Claim
  -- a plan meets a request from a condition; its runs from there end in a set of conditions
  meets : Domain → Task → Plan → ℕ → Claim
  ends_in : Domain → Plan → ℕ → (ℕ → Bool) → Claim
  -- at a stage and a condition each request is served, inside a set of pairs
  serves : Domain → (ℕ → ℕ → Bool) → (s c : ℕ) → Claim
  in_range : Domain → (s c : ℕ) → Claim
  has : (ℕ → ℕ → Bool) → (s c : ℕ) → Claim
  -- these pairs and no others are a simulation
  simulates : Domain → List Pair → Claim
  kept : Domain → (s c : ℕ) → Claim
  -- a pair serves k requests in a row; it has rank k
  serves_row : Domain → (k s c : ℕ) → Claim
  rank : Domain → (s c k : ℕ) → Claim

abbrev pub Means : Claim → Type 0
Means (well_formed D) = WellFormed D
Means (meets D q plan c) = Meets D q plan c
Means (ends_in D plan c X) = EndsIn D plan c (λ d. X d ≡ true)
Means (serves D R s c) = Serves D (Holds R) s c
Means (in_range D s c) = InRange D s c
Means (has R s c) = Holds R s c
Means (simulates D ps) = Simulation D (among ps)
Means (kept D s c) = Kept D s c
Means (serves_row D k s c) = ServesRow D k s c
Means (rank D s c k) = Rank D s c k

abbrev pub rows : List (Row Claim)
rows =
    -- WellFormed: the conditions of the moves and the stages of the requests are there
    holds (well_formed basin) ∷
    holds (well_formed (record { conditions = 0; stages = 0; moves = []; tasks = [] })) ∷
    fails (well_formed (record { conditions = 2; stages = 1; moves = jam ∷ []; tasks = [] })) ∷
    fails (well_formed (record { conditions = 3; stages = 1; moves = jam ∷ []; tasks = raise ∷ [] })) ∷
    fails (well_formed (record { conditions = 3; stages = 1; moves = []; tasks = settle ∷ [] })) ∷
    -- Meets: keep before the end, reach at the end
    holds (meets basin raise lifting 0) ∷
    holds (meets basin raise stop 2) ∷
    holds (meets basin settle hauling 1) ∷
    fails (meets basin raise stop 0) ∷
    fails (meets basin raise lifting 1) ∷
    fails (meets basin settle lifting 2) ∷
    fails (meets basin settle try_and_lower 0) ∷
    -- EndsIn: every run of the plan; of one that cannot be worked there is none
    holds (ends_in basin lifting 0 (isnt 0)) ∷
    holds (ends_in basin hauling 0 (is 1)) ∷
    holds (ends_in basin stop 2 (is 2)) ∷
    holds (ends_in basin lifting 1 none) ∷
    fails (ends_in basin lifting 0 (is 1)) ∷
    fails (ends_in basin up_and_down 0 (is 1)) ∷
    fails (ends_in basin stop 2 (is 0)) ∷
    -- Serves: each request of the stage, and at the end the pair with its to-stage in the set
    holds (serves basin everywhere 0 0) ∷
    holds (serves basin (among (pair 1 1 ∷ [])) 0 0) ∷
    holds (serves basin (among (pair 1 2 ∷ [])) 0 2) ∷
    holds (serves basin (among []) 2 0) ∷
    holds (serves stranding everywhere 0 2) ∷
    fails (serves basin (among []) 0 0) ∷
    fails (serves basin (among (pair 0 1 ∷ [])) 0 0) ∷
    fails (serves basin (among (pair 1 0 ∷ [])) 0 0) ∷
    fails (serves basin (among (pair 1 2 ∷ [])) 0 0) ∷
    fails (serves jamming (among (pair 1 1 ∷ [])) 0 0) ∷
    fails (serves basin everywhere 1 2) ∷
    fails (serves stranding everywhere 0 0) ∷
    -- InRange: there are such a stage and such a condition
    holds (in_range basin 0 0) ∷
    holds (in_range basin 2 2) ∷
    holds (in_range basin 3 0) ∷
    fails (in_range basin 4 0) ∷
    fails (in_range basin 0 3) ∷
    -- Holds: the set has the pair
    holds (has everywhere 7 7) ∷
    holds (has (among (pair 0 1 ∷ pair 2 0 ∷ [])) 2 0) ∷
    fails (has (among (pair 0 1 ∷ pair 2 0 ∷ [])) 1 0) ∷
    fails (has (among []) 0 0) ∷
    -- Simulation: pairs that there are, each served inside the set again
    holds (simulates basin []) ∷
    holds (simulates basin (pair 0 0 ∷ pair 1 1 ∷ [])) ∷
    holds (simulates basin (pair 1 0 ∷ pair 0 1 ∷ pair 1 1 ∷ pair 0 0 ∷ [])) ∷
    holds (simulates basin (pair 2 2 ∷ [])) ∷
    fails (simulates basin (pair 0 0 ∷ [])) ∷
    fails (simulates basin (pair 0 0 ∷ pair 1 2 ∷ [])) ∷
    fails (simulates basin (pair 0 0 ∷ pair 1 1 ∷ pair 1 2 ∷ [])) ∷
    fails (simulates jamming (pair 0 0 ∷ pair 1 1 ∷ [])) ∷
    fails (simulates basin (pair 2 3 ∷ [])) ∷
    fails (simulates basin (pair 4 0 ∷ [])) ∷
    -- Kept: in some simulation, so that it is a pair that there is
    holds (kept basin 0 0) ∷
    holds (kept basin 1 1) ∷
    holds (kept jamming 2 2) ∷
    fails (kept basin 0 2) ∷
    fails (kept basin 1 2) ∷
    fails (kept jamming 0 1) ∷
    fails (kept basin 4 0) ∷
    fails (kept basin 2 3) ∷
    -- ServesRow: so many requests, whichever they are
    holds (serves_row basin 0 1 2) ∷
    holds (serves_row basin 5 0 0) ∷
    holds (serves_row basin 1 0 2) ∷
    holds (serves_row jamming 3 0 1) ∷
    fails (serves_row basin 1 1 2) ∷
    fails (serves_row basin 2 0 2) ∷
    fails (serves_row jamming 4 0 1) ∷
    fails (serves_row stranding 1 0 0) ∷
    -- Rank: 0 where the pair is kept, otherwise the least number of requests that it does not serve, and no other
    holds (rank basin 0 0 0) ∷
    holds (rank basin 1 2 1) ∷
    holds (rank basin 0 2 2) ∷
    holds (rank jamming 1 0 3) ∷
    holds (rank jamming 0 1 4) ∷
    fails (rank basin 0 0 1) ∷
    fails (rank basin 1 2 0) ∷
    fails (rank basin 0 2 1) ∷
    fails (rank basin 0 2 3) ∷
    fails (rank jamming 0 1 0) ∷
    fails (rank jamming 0 1 3) ∷
    []

abbrev pub SimulationsSay : Type 0
SimulationsSay = AllSay Means rows
