-- Examples of what the search keeps, and of what each group of moves comes to.
use Rattle.std.specs.Prelude.{ℕ, Bool, true, false, List, [], ◌∷◌, Some, None, Option}
use Rattle.port.specs.declared.Move.{Move}
use Rattle.plans.specs.Flags.{has}
use Rattle.plans.specs.Plans.{Can}
use Rattle.costs.specs.Costs.{most_joined}
use Rattle.costs.specs.declared.models.Time.{Time}
use Rattle.costs.specs.Models.{minutes_model, time_list}
use Rattle.tables.specs.Tables.{looked}
use Rattle.search.specs.Labels.{After, Worst, Greatest, Cheapest, By, Offered, done}
use Rattle.search.specs.Groups.{Same, Splits, Lowest, Topped, Below, Left, Lowered, Unmet}
use Rattle.cases_plans.specs.Rows.{Row, holds, fails, AllSay}
use Rattle.cases_plans.specs.Values as values
use Rattle.cases_plans.specs.Values.{number}
use Rattle.cases_search.specs.Sluice.{moves, fill, lift, hoist, jam, heave, drop, two, four}

pub data Claim : Type 0 where
  -- by the costs of a table: what follows a move costs so much; what an operation comes to in a condition
  after : List (Option Time) → Move → List ℕ → Claim
  worst : List (Option Time) → (c o : ℕ) → List ℕ → Claim
  -- the greatest of these moves; the least over the operations of a condition; what is on offer for it, where work is allowed
  greatest : List (Option Time) → List Move → Option (List ℕ) → Claim
  cheapest : List (Option Time) → ℕ → Option (List ℕ) → Claim
  offered : List (Option Time) → List Bool → ℕ → Option (List ℕ) → Claim
  -- a move of the list by an operation
  by : List Move → ℕ → Move → Claim
  -- the first n moves are by an operation; a group and the rest
  same : List Move → (o n : ℕ) → Claim
  splits : (ms group rest : List Move) → Claim
  -- the lowest operation that comes to a cost; the greatest of the first moves
  lowest : List (Option Time) → List Move → List ℕ → Option ℕ → Claim
  topped : List (Option Time) → List Move → ℕ → Option (List ℕ) → Claim
  -- an operation is below the moves; which moves are left; the least of the operations below them; and none of these comes to a cost
  under : List Move → ℕ → Claim
  left : (ms rest : List Move) → Claim
  lowered : List (Option Time) → (ms rest : List Move) → Option (List ℕ) → Claim
  unmet : List (Option Time) → (ms rest : List Move) → List ℕ → Claim

abbrev pub costs_in : List (Option Time) → ℕ → Option (List ℕ)
costs_in t = looked time_list t

abbrev pub Means : Claim → Type 0
Means (after t m a) = After (costs_in t) m a
Means (worst t c o f) = Worst minutes_model (After (costs_in t)) (Can moves c o) f
Means (greatest t ms x) = Greatest minutes_model (costs_in t) ms x
Means (cheapest t c x) = Cheapest minutes_model (costs_in t) (Can moves c) x
Means (offered t keep c x) = Offered minutes_model moves (has keep) (costs_in t) c x
Means (by ms o m) = By ms o m
Means (same ms o n) = Same ms o n
Means (splits ms group rest) = Splits ms group rest
Means (lowest t ms f x) = Lowest minutes_model (costs_in t) ms f x
Means (topped t ms i x) = Topped minutes_model (costs_in t) ms i x
Means (under rest o) = Below rest o
Means (left ms rest) = Left ms rest
Means (lowered t ms rest x) = Lowered minutes_model (costs_in t) ms rest x
Means (unmet t ms rest f) = Unmet minutes_model (costs_in t) ms rest f

abbrev pub time : ℕ → ℕ → Option Time
time minutes moves = Some (record { minutes = minutes; moves = moves })

-- tables on the way to be high: at first, and when half full is final too; and one where stuck will do as well
abbrev pub first : List (Option Time)
first = None ∷ None ∷ time 0 0 ∷ None ∷ []

abbrev pub second : List (Option Time)
second = None ∷ time 2 1 ∷ time 0 0 ∷ None ∷ []

abbrev pub stuck_too : List (Option Time)
stuck_too = None ∷ None ∷ time 0 0 ∷ time 0 0 ∷ []

-- the moves from low
abbrev from_low : List Move
from_low = fill ∷ lift ∷ hoist ∷ jam ∷ heave ∷ []

abbrev all : List Bool
all = four true true true true

abbrev not_low : List Bool
not_low = four false true true true

abbrev pub rows : List (Row Claim)
rows =
    -- After: the table's cost of the outcome
    holds (after first lift (two 0 0)) ∷
    holds (after second fill (two 2 1)) ∷
    fails (after first fill (two 0 0)) ∷
    fails (after second fill (two 4 2)) ∷
    -- Worst: of all its moves the greatest, and each of them leads to a cost
    holds (worst first 0 1 (two 5 1)) ∷
    holds (worst second 0 0 (two 4 2)) ∷
    holds (worst stuck_too 0 2 (two 4 1)) ∷
    fails (worst first 0 2 (two 4 1)) ∷
    fails (worst stuck_too 0 2 (two 1 1)) ∷
    fails (worst stuck_too 0 2 (two 5 1)) ∷
    fails (worst first 3 0 (two 0 0)) ∷
    -- Greatest: the same of listed moves; none where there is no move, or one leads to no cost
    holds (greatest stuck_too (hoist ∷ jam ∷ []) (Some (two 4 1))) ∷
    holds (greatest first (hoist ∷ jam ∷ []) None) ∷
    holds (greatest first [] None) ∷
    fails (greatest first (lift ∷ hoist ∷ []) None) ∷
    fails (greatest first (lift ∷ hoist ∷ []) (Some (two 4 1))) ∷
    fails (greatest first [] (Some (two 0 0))) ∷
    -- Cheapest: the least over the operations
    holds (cheapest second 0 (Some (two 4 2))) ∷
    holds (cheapest first 0 (Some (two 5 1))) ∷
    holds (cheapest first 3 None) ∷
    fails (cheapest second 0 (Some (two 5 1))) ∷
    fails (cheapest second 0 None) ∷
    fails (cheapest first 0 (Some (two 4 1))) ∷
    fails (cheapest first 3 (Some (two 0 0))) ∷
    -- By: a move of the list, and by the operation
    holds (by moves 2 jam) ∷
    holds (by moves 2 drop) ∷
    fails (by moves 1 jam) ∷
    fails (by (lift ∷ []) 2 jam) ∷
    -- Offered: the cheapest, where a condition is not final and may be worked in; nothing where it is final, may not, or nothing leads on
    holds (offered first all 0 (Some (two 5 1))) ∷
    holds (offered second all 0 (Some (two 4 2))) ∷
    holds (offered first all 2 None) ∷
    holds (offered first not_low 0 None) ∷
    holds (offered first all 3 None) ∷
    fails (offered first all 0 None) ∷
    fails (offered first not_low 0 (Some (two 5 1))) ∷
    fails (offered second all 1 (Some (two 2 1))) ∷
    fails (offered second all 0 (Some (two 5 1))) ∷
    -- Same: the first are by the operation, and the next is not
    holds (same (hoist ∷ jam ∷ heave ∷ []) 2 2) ∷
    holds (same (hoist ∷ jam ∷ []) 2 2) ∷
    holds (same (heave ∷ []) 2 0) ∷
    fails (same (hoist ∷ jam ∷ heave ∷ []) 2 1) ∷
    fails (same (hoist ∷ jam ∷ heave ∷ []) 2 3) ∷
    fails (same (hoist ∷ jam ∷ []) 2 3) ∷
    fails (same (hoist ∷ jam ∷ []) 3 1) ∷
    -- Splits: the moves by the lowest operation, and the others
    holds (splits from_low (fill ∷ []) (lift ∷ hoist ∷ jam ∷ heave ∷ [])) ∷
    holds (splits (hoist ∷ jam ∷ heave ∷ []) (hoist ∷ jam ∷ []) (heave ∷ [])) ∷
    fails (splits from_low (lift ∷ []) (fill ∷ hoist ∷ jam ∷ heave ∷ [])) ∷
    fails (splits (hoist ∷ jam ∷ heave ∷ []) (hoist ∷ []) (jam ∷ heave ∷ [])) ∷
    fails (splits (hoist ∷ jam ∷ heave ∷ []) (hoist ∷ jam ∷ []) []) ∷
    fails (splits (hoist ∷ jam ∷ []) (hoist ∷ jam ∷ []) (heave ∷ [])) ∷
    fails (splits (heave ∷ []) [] (heave ∷ [])) ∷
    fails (splits [] [] []) ∷
    -- Lowest: the lowest operation that comes to the cost, or that none does
    holds (lowest first from_low (two 5 1) (Some 1)) ∷
    holds (lowest first from_low (two 4 1) None) ∷
    holds (lowest second from_low (two 4 2) (Some 0)) ∷
    fails (lowest first from_low (two 5 1) (Some 3)) ∷
    fails (lowest first from_low (two 5 1) None) ∷
    fails (lowest first from_low (two 4 1) (Some 2)) ∷
    -- Topped: the greatest of the first moves, and of no moves none
    holds (topped stuck_too (jam ∷ hoist ∷ []) 0 None) ∷
    holds (topped stuck_too (jam ∷ hoist ∷ []) 1 (Some (two 1 1))) ∷
    holds (topped stuck_too (jam ∷ hoist ∷ []) 2 (Some (two 4 1))) ∷
    fails (topped stuck_too (jam ∷ hoist ∷ []) 1 None) ∷
    fails (topped stuck_too (jam ∷ hoist ∷ []) 2 (Some (two 1 1))) ∷
    fails (topped stuck_too (jam ∷ hoist ∷ []) 1 (Some (two 4 1))) ∷
    -- Below: less than the operation of each
    holds (under (hoist ∷ heave ∷ []) 1) ∷
    holds (under [] 9) ∷
    fails (under (hoist ∷ heave ∷ []) 2) ∷
    fails (under (heave ∷ lift ∷ []) 2) ∷
    -- Left: moves of the list, and what is gone is by an operation below them
    holds (left from_low (hoist ∷ jam ∷ heave ∷ [])) ∷
    holds (left from_low []) ∷
    fails (left from_low (hoist ∷ heave ∷ [])) ∷
    fails (left (lift ∷ []) (heave ∷ lift ∷ [])) ∷
    -- Lowered: the least of the operations that are gone
    holds (lowered second from_low from_low None) ∷
    holds (lowered second from_low (lift ∷ hoist ∷ jam ∷ heave ∷ []) (Some (two 4 2))) ∷
    holds (lowered second from_low [] (Some (two 4 2))) ∷
    holds (lowered first from_low (lift ∷ hoist ∷ jam ∷ heave ∷ []) None) ∷
    fails (lowered second from_low [] None) ∷
    fails (lowered second from_low [] (Some (two 5 1))) ∷
    fails (lowered first from_low [] (Some (two 4 1))) ∷
    -- Unmet: none of those comes to the cost
    holds (unmet first from_low (lift ∷ hoist ∷ jam ∷ heave ∷ []) (two 5 1)) ∷
    holds (unmet first from_low [] (two 4 1)) ∷
    fails (unmet first from_low [] (two 5 1)) ∷
    fails (unmet first from_low (heave ∷ []) (two 5 1)) ∷
    []

abbrev pub LabelsSay : Type 0
LabelsSay = AllSay Means rows

-- done: how many conditions have a cost
abbrev pub counts : List (Row values.Claim)
counts =
    holds (number (done first) 1) ∷
    holds (number (done second) 2) ∷
    fails (number (done second) 4) ∷
    fails (number (done first) 0) ∷
    -- most_joined: a constant
    holds (number most_joined 255) ∷
    fails (number most_joined 256) ∷
    []

abbrev pub CountsSay : Type 0
CountsSay = AllSay values.Means counts
