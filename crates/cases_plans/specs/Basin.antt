-- A small lock: condition 0 is low, condition 1 is high, and condition 2 is stuck.
use Rattle.std.specs.Prelude.{ℕ, Bool, true, false, cond, not, ◌&&◌, List, [], ◌∷◌, ◌==◌}
use Rattle.port.specs.declared.Move.{Move}
use Rattle.plans.specs.Plans.{Plan, stop, work}
use Rattle.plans.specs.Reach.{any_of}
use Rattle.plans.specs.Simulation.{Task, Domain}

abbrev pub move : ℕ → ℕ → ℕ → ℕ → Move
move condition operation outcome minutes = record { condition = condition; operation = operation; outcome = outcome; minutes = minutes }

-- Operation 0 lifts, and may jam; operation 1 hauls where it is low, and lowers where it is high; a stuck lock only stays so.
abbrev pub lift : Move
lift = move 0 0 1 5

abbrev pub jam : Move
jam = move 0 0 2 3

abbrev pub haul : Move
haul = move 0 1 1 9

abbrev pub lower : Move
lower = move 1 1 0 2

abbrev pub stay : Move
stay = move 2 0 2 0

abbrev pub moves : List Move
moves = lift ∷ jam ∷ haul ∷ lower ∷ stay ∷ []

-- plans: work operation 0, or 1, and stop
abbrev pub lifting : Plan
lifting = work 0 (λ c. stop)

abbrev pub hauling : Plan
hauling = work 1 (λ c. stop)

-- operation 1, and then again
abbrev pub up_and_down : Plan
up_and_down = work 1 (λ c. hauling)

-- operation 0, and then, if the lock is high, operation 1
abbrev pub try_and_lower : Plan
try_and_lower = work 0 (λ c. cond (c == 1) hauling stop)

-- operation 0, and then operation 1 whatever came
abbrev pub lift_and_lower : Plan
lift_and_lower = work 0 (λ c. hauling)

-- tests on a condition
abbrev pub any : ℕ → Bool
any c = true

abbrev pub none : ℕ → Bool
none c = false

abbrev pub is : ℕ → ℕ → Bool
is d c = c == d

abbrev pub isnt : ℕ → ℕ → Bool
isnt d c = not (c == d)

-- requests: at stage 0 to leave low, to stage 1; at stage 1 to come back to low without being stuck, to stage 0; at stage 0 to be stuck
abbrev pub raise : Task
raise = record { from = 0; to = 1; keep = any; reach = isnt 0 }

abbrev pub settle : Task
settle = record { from = 1; to = 0; keep = isnt 2; reach = is 0 }

abbrev pub strand : Task
strand = record { from = 0; to = 0; keep = any; reach = is 2 }

-- the lock with the first two requests, and stages 2 and 3 that have none
abbrev pub basin : Domain
basin = record { conditions = 3; stages = 4; moves = moves; tasks = raise ∷ settle ∷ [] }

-- the same without hauling, so that a lift may always jam
abbrev pub jamming : Domain
jamming = record { conditions = 3; stages = 4; moves = lift ∷ jam ∷ lower ∷ stay ∷ []; tasks = raise ∷ settle ∷ [] }

-- with all three requests
abbrev pub stranding : Domain
stranding = record { conditions = 3; stages = 4; moves = moves; tasks = raise ∷ settle ∷ strand ∷ [] }

-- a pair, and a set of pairs from a list
pub record Pair : Type 0 where
  pub stage : ℕ
  pub condition : ℕ

abbrev pub pair : ℕ → ℕ → Pair
pair s c = record { stage = s; condition = c }

abbrev pub among : List Pair → ℕ → ℕ → Bool
among ps s c = any_of (λ p. s == p.stage && c == p.condition) ps

abbrev pub everywhere : ℕ → ℕ → Bool
everywhere s c = true
