-- Examples of what a lock tells, and what it does when it is worked.
use Rattle.std.specs.Prelude.{ℕ, Bool, true, false, cond, Some, None, Option, List, [], ◌∷◌, ◌==◌}
use Rattle.port.specs.Model.{Model}
use Rattle.locks.specs.Places.{next, place_of, IsAt, Leads, fits, possible}
use Rattle.locks.specs.Works.{TellsCondition, LockWorked, outcomes, InOrder, WorkedNth, change, Before, WorkedLeast}
use Rattle.locks.specs.Targets.{Goes, GoesNth, GoesLeast, named_by, Nearest}
use Rattle.cases_plans.specs.Rows.{Row, holds, fails, AllSay}
use Rattle.cases_plans.specs.Values as values
use Rattle.cases_plans.specs.Values.{number, flag, numbers, place}
use Rattle.cases_plans.specs.Basin.{move, moves, haul, stay}
use Rattle.cases_plans.specs.Domains.{port}

-- a port with three outcomes of one operation, which change two marks, one, and one
abbrev pub fork : Model
fork = record port { conditions = 0 ∷ 3 ∷ 4 ∷ 8 ∷ []; moves = move 0 0 1 0 ∷ move 0 0 2 0 ∷ move 0 0 3 0 ∷ [] }

-- no ports: moves out of their order, and one that stands twice
abbrev pub turned : Model
turned = record port { moves = move 0 0 2 0 ∷ move 0 0 1 0 ∷ move 1 0 0 0 ∷ [] }

abbrev pub twice : Model
twice = record port { moves = move 0 0 1 0 ∷ move 0 0 1 5 ∷ [] }

-- ── what is computed ──

abbrev pub lookups : List (Row values.Claim)
lookups =
    -- next: one further on
    holds (place (next (Some 3)) (Some 4)) ∷
    holds (place (next None) None) ∷
    fails (place (next (Some 3)) (Some 3)) ∷
    fails (place (next None) (Some 0)) ∷
    -- place_of: the number of the first condition with the marks
    holds (place (place_of (0 ∷ 1 ∷ 3 ∷ []) 3) (Some 2)) ∷
    holds (place (place_of (0 ∷ 1 ∷ 3 ∷ []) 2) None) ∷
    holds (place (place_of (0 ∷ 4 ∷ 4 ∷ []) 4) (Some 1)) ∷
    fails (place (place_of (0 ∷ 1 ∷ 3 ∷ []) 3) (Some 3)) ∷
    fails (place (place_of (0 ∷ 1 ∷ 3 ∷ []) 2) (Some 2)) ∷
    fails (place (place_of [] 0) (Some 0)) ∷
    -- fits: the move's condition and operation
    holds (flag (fits 0 1 haul) true) ∷
    holds (flag (fits 2 0 stay) true) ∷
    fails (flag (fits 1 1 haul) true) ∷
    fails (flag (fits 0 0 haul) true) ∷
    -- possible: some move fits
    holds (flag (possible moves 0 1) true) ∷
    holds (flag (possible moves 2 0) true) ∷
    fails (flag (possible moves 1 0) true) ∷
    fails (flag (possible [] 0 0) true) ∷
    -- outcomes: of the moves that fit, in their order
    holds (numbers (outcomes moves 0 0) (1 ∷ 2 ∷ [])) ∷
    holds (numbers (outcomes moves 1 0) []) ∷
    holds (numbers (outcomes turned.moves 0 0) (2 ∷ 1 ∷ [])) ∷
    fails (numbers (outcomes moves 0 0) (2 ∷ 1 ∷ [])) ∷
    fails (numbers (outcomes moves 0 1) (1 ∷ 2 ∷ [])) ∷
    -- change: how many marks differ, and not how far apart the numbers are
    holds (number (change port 0 2) 2) ∷
    holds (number (change port 2 1) 1) ∷
    holds (number (change fork 1 2) 3) ∷
    holds (number (change port 1 1) 0) ∷
    fails (number (change port 0 2) 3) ∷
    fails (number (change port 1 2) 2) ∷
    -- named_by: a byte modulo the number of outcomes
    holds (place (named_by 5 (1 ∷ 2 ∷ [])) (Some 2)) ∷
    holds (place (named_by 3 (7 ∷ 8 ∷ 9 ∷ [])) (Some 7)) ∷
    holds (place (named_by 0 []) None) ∷
    fails (place (named_by 5 (1 ∷ 2 ∷ [])) (Some 1)) ∷
    fails (place (named_by 0 []) (Some 0)) ∷
    []

abbrev pub LookupsSay : Type 0
LookupsSay = AllSay values.Means lookups

-- ── what is said of locks ──

pub data Claim : Type 0 where
  -- a condition has the marks; an operation may lead from it to another
  is_at : Model → (c m : ℕ) → Claim
  leads : Model → (c o d : ℕ) → Claim
  in_order : Model → (c o : ℕ) → Claim
  -- whether marks are a condition's is told
  told : Model → ℕ → Bool → Claim
  -- a lock with the marks m, worked with operation o, accepts or not and then has the marks m'
  worked : Model → (m o : ℕ) → Bool → (m' : ℕ) → Claim
  worked_nth : Model → (m o byte m' : ℕ) → Claim
  worked_least : Model → (m o m' : ℕ) → Claim
  -- so many marks change towards one condition, so many towards another
  before : (x d y e : ℕ) → Claim
  -- where the operation leads before the lock goes there
  goes : Model → (m o : ℕ) → Option ℕ → Claim
  goes_nth : Model → (m o byte : ℕ) → Option ℕ → Claim
  goes_least : Model → (m o : ℕ) → Option ℕ → Claim
  nearest : (ℕ → ℕ) → List ℕ → Option ℕ → Claim

abbrev pub Means : Claim → Type 0
Means (is_at M c m) = IsAt M c m
Means (leads M c o d) = Leads M c o d
Means (in_order M c o) = InOrder M c o
Means (told M m r) = TellsCondition M m r
Means (worked M m o accepted m') = LockWorked M m o accepted m'
Means (worked_nth M m o byte m') = WorkedNth M m o byte m'
Means (worked_least M m o m') = WorkedLeast M m o m'
Means (before x d y e) = Before x d y e
Means (goes M m o target) = Goes M m o target
Means (goes_nth M m o byte target) = GoesNth M m o byte target
Means (goes_least M m o target) = GoesLeast M m o target
Means (nearest changes ds target) = Nearest changes ds target

-- towards condition 1 two marks change, and towards each other condition one
abbrev changes : ℕ → ℕ
changes d = cond (d == 1) 2 1

abbrev pub rows : List (Row Claim)
rows =
    -- IsAt: a condition that there is, by its marks
    holds (is_at port 0 0) ∷
    holds (is_at port 2 3) ∷
    fails (is_at port 2 2) ∷
    fails (is_at port 1 3) ∷
    fails (is_at port 3 0) ∷
    -- Leads: some move of the condition and the operation has the outcome, which is a number of a condition
    holds (leads port 0 0 1) ∷
    holds (leads port 0 0 2) ∷
    fails (leads port 0 1 2) ∷
    fails (leads port 0 0 3) ∷
    fails (leads port 1 0 1) ∷
    -- InOrder: the outcomes rise strictly
    holds (in_order port 0 0) ∷
    holds (in_order port 1 0) ∷
    holds (in_order turned 1 0) ∷
    fails (in_order turned 0 0) ∷
    fails (in_order twice 0 0) ∷
    -- TellsCondition: true where some condition has the marks, false where none has
    holds (told port 3 true) ∷
    holds (told port 2 false) ∷
    fails (told port 2 true) ∷
    fails (told port 3 false) ∷
    -- LockWorked: accepted where the operation is possible, and then with the marks of an outcome
    holds (worked port 0 0 true 1) ∷
    holds (worked port 0 0 true 3) ∷
    fails (worked port 0 0 true 0) ∷
    fails (worked port 0 0 true 2) ∷
    fails (worked port 3 1 true 3) ∷
    fails (worked port 2 0 true 3) ∷
    -- and refused elsewhere, with the marks as they were
    holds (worked port 3 1 false 3) ∷
    holds (worked port 2 0 false 2) ∷
    fails (worked port 0 0 false 0) ∷
    fails (worked port 3 1 false 0) ∷
    -- WorkedNth: the outcome that the byte names; where there is none, it says no more than condition 0 does
    holds (worked_nth port 0 0 0 1) ∷
    holds (worked_nth port 0 0 255 3) ∷
    holds (worked_nth port 1 0 7 0) ∷
    fails (worked_nth port 0 0 1 1) ∷
    fails (worked_nth port 0 0 2 3) ∷
    fails (worked_nth port 2 0 0 1) ∷
    -- WorkedLeast: the fewest marks, and among equals the lowest number
    holds (worked_least port 0 0 1) ∷
    holds (worked_least fork 0 0 4) ∷
    fails (worked_least port 0 0 3) ∷
    fails (worked_least fork 0 0 3) ∷
    fails (worked_least fork 0 0 8) ∷
    fails (worked_least port 1 0 0) ∷
    -- Before: fewer marks, or as many and no higher a number
    holds (before 1 5 2 0) ∷
    holds (before 2 1 2 3) ∷
    holds (before 2 3 2 3) ∷
    fails (before 3 0 2 9) ∷
    fails (before 2 4 2 3) ∷
    -- Goes: to the marks of an outcome, and to none where there is no outcome
    holds (goes port 0 0 (Some 3)) ∷
    holds (goes port 3 1 None) ∷
    holds (goes port 2 0 None) ∷
    fails (goes port 0 0 None) ∷
    fails (goes port 0 0 (Some 0)) ∷
    fails (goes port 3 1 (Some 3)) ∷
    -- GoesNth, GoesLeast: of a target that there is; of none they say nothing
    holds (goes_nth port 0 0 1 (Some 3)) ∷
    holds (goes_nth port 0 0 1 None) ∷
    fails (goes_nth port 0 0 1 (Some 1)) ∷
    fails (goes_nth port 0 0 0 (Some 3)) ∷
    holds (goes_least fork 0 0 (Some 4)) ∷
    holds (goes_least fork 0 0 None) ∷
    fails (goes_least fork 0 0 (Some 3)) ∷
    fails (goes_least fork 0 0 (Some 8)) ∷
    -- Nearest: one of the outcomes, before all others; none where there is none
    holds (nearest changes (1 ∷ 2 ∷ 3 ∷ []) (Some 2)) ∷
    holds (nearest changes (1 ∷ []) (Some 1)) ∷
    holds (nearest changes [] None) ∷
    fails (nearest changes (1 ∷ 2 ∷ 3 ∷ []) (Some 1)) ∷
    fails (nearest changes (1 ∷ 2 ∷ 3 ∷ []) (Some 3)) ∷
    fails (nearest changes (1 ∷ 3 ∷ []) (Some 2)) ∷
    fails (nearest changes (1 ∷ []) None) ∷
    fails (nearest changes [] (Some 0)) ∷
    []

abbrev pub LocksSay : Type 0
LocksSay = AllSay Means rows
