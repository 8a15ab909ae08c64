-- A small lock for the search: condition 0 is low, 1 is half full, 2 is high, and 3 is stuck.
use Rattle.std.specs.Prelude.{ℕ, Bool, true, false, List, [], ◌∷◌}
use Rattle.port.specs.declared.Move.{Move}
use Rattle.costs.specs.Costs.{Model}
use Rattle.costs.specs.Models.{moves_model, minutes_model}
use Rattle.search.specs.declared.Choice.{Choice}
use Rattle.search.specs.declared.Choice.TheVariants.{None, There, Work}
use Rattle.cases_plans.specs.Basin.{move}

-- Operation 0 fills a half, where it is not high. From low, operations 1 and 3 lift in one, and operation 2 hoists, which is quicker and may
-- jam. From half full, operation 2 drops; from high, operation 0 draws.
abbrev pub fill : Move
fill = move 0 0 1 2

abbrev pub lift : Move
lift = move 0 1 2 5

abbrev pub hoist : Move
hoist = move 0 2 2 4

abbrev pub jam : Move
jam = move 0 2 3 1

abbrev pub heave : Move
heave = move 0 3 2 5

abbrev pub top : Move
top = move 1 0 2 2

abbrev pub drop : Move
drop = move 1 2 0 1

abbrev pub draw : Move
draw = move 2 0 0 3

abbrev pub moves : List Move
moves = fill ∷ lift ∷ hoist ∷ jam ∷ heave ∷ top ∷ drop ∷ draw ∷ []

-- costs of minutes and moves, and of moves alone
abbrev pub two : ℕ → ℕ → List ℕ
two minutes moves = minutes ∷ moves ∷ []

abbrev pub one : ℕ → List ℕ
one moves = moves ∷ []

-- flags for the four conditions
abbrev pub four : Bool → Bool → Bool → Bool → List Bool
four a b c d = a ∷ b ∷ c ∷ d ∷ []

-- what counts
pub data Measure : Type 0 where
  by_minutes : Measure
  by_moves : Measure

abbrev pub model_of : Measure → Model
model_of by_minutes = minutes_model
model_of by_moves = moves_model

-- where work is allowed and what the goal is, with the right answer for each condition
pub record Quest : Type 0 where
  pub measure : Measure
  pub keep : List Bool
  pub goal : List Bool
  pub answers : List (Choice (List ℕ))

abbrev all : List Bool
all = four true true true true

-- to be high: in the fewest minutes it is filled in two halves, and with the fewest moves it is lifted
abbrev pub high : Quest
high = record { measure = by_minutes; keep = all; goal = four false false true false; answers = Work 0 (two 4 2) ∷ Work 0 (two 2 1) ∷ There ∷ None ∷ [] }

abbrev pub high_soon : Quest
high_soon = record { measure = by_moves; keep = all; goal = four false false true false; answers = Work 1 (one 1) ∷ Work 0 (one 1) ∷ There ∷ None ∷ [] }

-- to be high, with no work where it is half full
abbrev pub high_at_once : Quest
high_at_once = record { measure = by_minutes; keep = four true false true true; goal = four false false true false; answers = Work 1 (two 5 1) ∷ None ∷ There ∷ None ∷ [] }

-- to be high or stuck: now hoisting will do, at what it costs where it does not jam
abbrev pub high_or_stuck : Quest
high_or_stuck = record { measure = by_minutes; keep = all; goal = four false false true true; answers = Work 2 (two 4 1) ∷ Work 0 (two 2 1) ∷ There ∷ There ∷ [] }
