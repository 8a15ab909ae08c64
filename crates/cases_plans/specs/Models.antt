-- Examples of the two cost models.
use Rattle.std.specs.Prelude.{ℕ, true, List, [], ◌∷◌}
use Rattle.costs.specs.Models.{count_list, time_list, moves_model, minutes_model, lexb, Lex}
use Rattle.cases_plans.specs.Rows.{Row, holds, fails, AllSay}
use Rattle.cases_plans.specs.Values as values
use Rattle.cases_plans.specs.Values.{number, flag, numbers}
use Rattle.cases_plans.specs.Basin.{haul}

abbrev pub rows : List (Row values.Claim)
rows =
    -- count_list, time_list: the numbers of a cost in the order of the columns
    holds (numbers (count_list (record { moves = 3 })) (3 ∷ [])) ∷
    holds (numbers (count_list (record { moves = 0 })) (0 ∷ [])) ∷
    fails (numbers (count_list (record { moves = 3 })) []) ∷
    fails (numbers (count_list (record { moves = 3 })) (4 ∷ [])) ∷
    holds (numbers (time_list (record { minutes = 16; moves = 2 })) (16 ∷ 2 ∷ [])) ∷
    holds (numbers (time_list (record { minutes = 0; moves = 2 })) (0 ∷ 2 ∷ [])) ∷
    fails (numbers (time_list (record { minutes = 16; moves = 2 })) (2 ∷ 16 ∷ [])) ∷
    fails (numbers (time_list (record { minutes = 16; moves = 2 })) (16 ∷ [])) ∷
    -- moves_model: one column, and each move costs one
    holds (number moves_model.columns 1) ∷
    holds (numbers moves_model.zero (0 ∷ [])) ∷
    holds (numbers (moves_model.join haul (4 ∷ [])) (5 ∷ [])) ∷
    holds (flag (moves_model.within (4 ∷ []) (4 ∷ [])) true) ∷
    fails (number moves_model.columns 2) ∷
    fails (numbers moves_model.zero (1 ∷ [])) ∷
    fails (numbers (moves_model.join haul (4 ∷ [])) (13 ∷ [])) ∷
    fails (flag (moves_model.within (5 ∷ []) (4 ∷ [])) true) ∷
    -- minutes_model: minutes, and where those tie moves
    holds (number minutes_model.columns 2) ∷
    holds (numbers minutes_model.zero (0 ∷ 0 ∷ [])) ∷
    holds (numbers (minutes_model.join haul (4 ∷ 1 ∷ [])) (13 ∷ 2 ∷ [])) ∷
    holds (flag (minutes_model.within (4 ∷ 9 ∷ []) (5 ∷ 1 ∷ [])) true) ∷
    holds (flag (minutes_model.within (4 ∷ 1 ∷ []) (4 ∷ 1 ∷ [])) true) ∷
    fails (number minutes_model.columns 1) ∷
    fails (numbers minutes_model.zero (0 ∷ [])) ∷
    fails (numbers (minutes_model.join haul (4 ∷ 1 ∷ [])) (5 ∷ 10 ∷ [])) ∷
    fails (flag (minutes_model.within (5 ∷ 1 ∷ []) (4 ∷ 9 ∷ [])) true) ∷
    fails (flag (minutes_model.within (4 ∷ 2 ∷ []) (4 ∷ 1 ∷ [])) true) ∷
    -- lexb: as Lex
    holds (flag (lexb 1 9 2 0) true) ∷
    holds (flag (lexb 2 3 2 3) true) ∷
    fails (flag (lexb 2 4 2 3) true) ∷
    fails (flag (lexb 3 0 2 9) true) ∷
    []

abbrev pub ModelsSay : Type 0
ModelsSay = AllSay values.Means rows

-- two costs of two columns
pub record Two : Type 0 where
  pub minutes : ℕ
  pub moves : ℕ
  pub minutes' : ℕ
  pub moves' : ℕ

abbrev two : (minutes moves minutes' moves' : ℕ) → Two
two x x' y y' = record { minutes = x; moves = x'; minutes' = y; moves' = y' }

abbrev pub Ordered : Two → Type 0
Ordered t = Lex t.minutes t.moves t.minutes' t.moves'

abbrev pub orders : List (Row Two)
orders =
    -- Lex: the first column counts, and where it ties the second
    holds (two 1 9 2 0) ∷
    holds (two 2 3 2 3) ∷
    holds (two 2 3 2 4) ∷
    fails (two 2 4 2 3) ∷
    fails (two 3 0 2 9) ∷
    []

abbrev pub OrdersSay : Type 0
OrdersSay = AllSay Ordered orders
