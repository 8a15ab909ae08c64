-- Examples of how costs are compared, with none where there is no cost.
use Rattle.std.specs.Prelude.{ℕ, true, Some, None, List, [], ◌∷◌}
use Rattle.costs.specs.Compare.{shown, topped, either, under_of}
use Rattle.costs.specs.Models.{count_list, minutes_model}
use Rattle.cases_plans.specs.Rows.{Row, holds, fails, AllSay}
use Rattle.cases_plans.specs.Values.{Claim, flag, numbers, price, Means}

-- a cost of minutes and moves
abbrev cost : ℕ → ℕ → List ℕ
cost minutes moves = minutes ∷ moves ∷ []

abbrev pub rows : List (Row Claim)
rows =
    -- shown: the exact cost, where there is one
    holds (price (shown count_list None) None) ∷
    holds (price (shown count_list (Some (record { moves = 3 }))) (Some (3 ∷ []))) ∷
    fails (price (shown count_list None) (Some (0 ∷ []))) ∷
    fails (price (shown count_list (Some (record { moves = 3 }))) None) ∷
    -- topped: the greater
    holds (numbers (topped minutes_model (cost 4 1) None) (cost 4 1)) ∷
    holds (numbers (topped minutes_model (cost 4 1) (Some (cost 4 2))) (cost 4 2)) ∷
    holds (numbers (topped minutes_model (cost 4 2) (Some (cost 4 1))) (cost 4 2)) ∷
    fails (numbers (topped minutes_model (cost 4 1) (Some (cost 5 0))) (cost 4 1)) ∷
    fails (numbers (topped minutes_model (cost 5 0) (Some (cost 4 9))) (cost 4 9)) ∷
    -- either: the less of those that are there
    holds (price (either minutes_model None None) None) ∷
    holds (price (either minutes_model None (Some (cost 4 1))) (Some (cost 4 1))) ∷
    holds (price (either minutes_model (Some (cost 4 1)) None) (Some (cost 4 1))) ∷
    holds (price (either minutes_model (Some (cost 5 0)) (Some (cost 4 9))) (Some (cost 4 9))) ∷
    holds (price (either minutes_model (Some (cost 4 1)) (Some (cost 4 2))) (Some (cost 4 1))) ∷
    fails (price (either minutes_model (Some (cost 4 1)) None) None) ∷
    fails (price (either minutes_model (Some (cost 4 1)) (Some (cost 4 2))) (Some (cost 4 2))) ∷
    -- under_of: there is a first, and it is less or alone
    holds (flag (under_of minutes_model (Some (cost 4 1)) None) true) ∷
    holds (flag (under_of minutes_model (Some (cost 4 1)) (Some (cost 4 2))) true) ∷
    fails (flag (under_of minutes_model None None) true) ∷
    fails (flag (under_of minutes_model None (Some (cost 4 1))) true) ∷
    fails (flag (under_of minutes_model (Some (cost 4 1)) (Some (cost 4 1))) true) ∷
    fails (flag (under_of minutes_model (Some (cost 5 0)) (Some (cost 4 9))) true) ∷
    []

abbrev pub CompareSay : Type 0
CompareSay = AllSay Means rows
