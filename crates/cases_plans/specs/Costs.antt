-- Examples of cost models with their laws, and of what runs cost.
use Rattle.std.specs.Prelude.{ℕ, ◌+◌, ◌-◌, ◌*◌, Bool, cond, ◌&&◌, ◌||◌, List, [], ◌∷◌, ◌==◌, nat_le, nat_lt, slice_index}
use Rattle.port.specs.declared.Move.{Move}
use Rattle.costs.specs.Costs.{Model, Sized, Le, Laws, WeakLaws, cost, Small, Reached}
use Rattle.costs.specs.Models.{moves_model, minutes_model}
use Rattle.cases_plans.specs.Rows.{Row, holds, fails, AllSay}
use Rattle.cases_plans.specs.Values as values
use Rattle.cases_plans.specs.Values.{numbers}
use Rattle.cases_plans.specs.Basin.{move, lift, lower}

-- ── laws, each broken by a model ──

-- zero without a number for the column, and a join with one too many
abbrev pub bare_zero : Model
bare_zero = record moves_model { zero = [] }

abbrev pub long_join : Model
long_join = record moves_model { join = λ m a. (slice_index a 0 + 1) ∷ 0 ∷ [] }

-- in order only where minutes and moves both are
abbrev pub split : Model
split = record minutes_model { within = λ a b. nat_le (slice_index a 0) (slice_index b 0) && nat_le (slice_index a 1) (slice_index b 1) }

-- more minutes weigh less than fewer moves, but only up to 3: (0, 2) is within (2, 1), and that within (4, 0)
abbrev winds : (x x' y y' : ℕ) → Bool
winds x x' y y' = cond (nat_le x y) (nat_le x' y' || (nat_lt x y && nat_le y (x + 3))) (nat_lt x' y' && nat_lt (y + 3) x)

abbrev pub winding : Model
winding = record minutes_model { within = λ a b. winds (slice_index a 0) (slice_index a 1) (slice_index b 0) (slice_index b 1) }

-- costs that differ only in their minutes tie
abbrev pub blind : Model
blind = record minutes_model { within = λ a b. nat_le (slice_index a 1) (slice_index b 1) }

-- a cost of 0 is below that of no move
abbrev pub raised : Model
raised = record moves_model { zero = 1 ∷ [] }

-- a move joined onto 0 costs more than one joined onto 1
abbrev pub jumping : Model
jumping = record moves_model { join = λ m a. cond (slice_index a 0 == 0) 5 (slice_index a 0 + 1) ∷ [] }

-- a move makes a run cheaper
abbrev pub falling : Model
falling = record moves_model { join = λ m a. (slice_index a 0 - 1) ∷ [] }

-- a move of no minutes costs nothing: this breaks the strict law alone
abbrev pub free : Model
free = record moves_model { join = λ m a. (slice_index a 0 + m.minutes) ∷ [] }

-- Laws: a model for each law that it breaks
abbrev pub lawful : List (Row Model)
lawful =
    holds moves_model ∷
    holds minutes_model ∷
    -- zero_sized, join_sized
    fails bare_zero ∷
    fails long_join ∷
    -- total, chain, tie
    fails split ∷
    fails winding ∷
    fails blind ∷
    -- least, keeps
    fails raised ∷
    fails jumping ∷
    -- grows
    fails falling ∷
    fails free ∷
    []

abbrev pub LawfulSay : Type 0
LawfulSay = AllSay Laws lawful

-- WeakLaws: the same, with rises in the place of grows
abbrev pub weak : List (Row Model)
weak =
    holds moves_model ∷
    holds minutes_model ∷
    holds free ∷
    fails bare_zero ∷
    fails long_join ∷
    fails split ∷
    fails winding ∷
    fails blind ∷
    fails raised ∷
    fails jumping ∷
    fails falling ∷
    []

abbrev pub WeakSay : Type 0
WeakSay = AllSay WeakLaws weak

-- ── costs ──

pub data Claim : Type 0 where
  sized : Model → List ℕ → Claim
  at_most : Model → (a b : List ℕ) → Claim
  small : List Move → Claim

abbrev pub Means : Claim → Type 0
Means (sized k a) = Sized k a
Means (at_most k a b) = Le k a b
Means (small ms) = Small ms

abbrev pub rows : List (Row Claim)
rows =
    -- Sized: a number for each column
    holds (sized moves_model (3 ∷ [])) ∷
    holds (sized minutes_model (9 ∷ 1 ∷ [])) ∷
    fails (sized moves_model []) ∷
    fails (sized minutes_model (9 ∷ [])) ∷
    -- Le: at most, in the model's order
    holds (at_most moves_model (2 ∷ []) (2 ∷ [])) ∷
    holds (at_most minutes_model (7 ∷ 9 ∷ []) (8 ∷ 1 ∷ [])) ∷
    fails (at_most moves_model (3 ∷ []) (2 ∷ [])) ∷
    fails (at_most minutes_model (7 ∷ 2 ∷ []) (7 ∷ 1 ∷ [])) ∷
    -- Small: the numbers of each move are within the limits of every port
    holds (small []) ∷
    holds (small (lift ∷ move 0 0 1 65535 ∷ [])) ∷
    holds (small (move 255 31 255 65535 ∷ [])) ∷
    fails (small (move 256 31 255 65535 ∷ [])) ∷
    fails (small (move 255 32 255 65535 ∷ [])) ∷
    fails (small (move 255 31 256 65535 ∷ [])) ∷
    fails (small (move 0 0 1 65536 ∷ [])) ∷
    fails (small (lift ∷ move 0 0 1 70000 ∷ [])) ∷
    []

abbrev pub CostsSay : Type 0
CostsSay = AllSay Means rows

-- a model in which the order of the moves counts
abbrev doubling : Model
doubling = record moves_model { join = λ m a. (2 * slice_index a 0 + m.minutes) ∷ [] }

-- cost: the moves of a run joined onto zero, from the last to the first
abbrev pub runs : List (Row values.Claim)
runs =
    holds (numbers (cost moves_model []) (0 ∷ [])) ∷
    holds (numbers (cost moves_model (lift ∷ lower ∷ [])) (2 ∷ [])) ∷
    holds (numbers (cost minutes_model (lift ∷ lower ∷ [])) (7 ∷ 2 ∷ [])) ∷
    holds (numbers (cost doubling (lift ∷ lower ∷ [])) (9 ∷ [])) ∷
    fails (numbers (cost moves_model (lift ∷ lower ∷ [])) (7 ∷ [])) ∷
    fails (numbers (cost minutes_model (lift ∷ lower ∷ [])) (2 ∷ 7 ∷ [])) ∷
    fails (numbers (cost minutes_model (lift ∷ lower ∷ [])) (5 ∷ 1 ∷ [])) ∷
    fails (numbers (cost doubling (lift ∷ lower ∷ [])) (12 ∷ [])) ∷
    []

abbrev pub RunsSay : Type 0
RunsSay = AllSay values.Means runs

-- ── what some run costs ──

pub record Price : Type 0 where
  pub model : Model
  pub steps : ℕ
  pub price : List ℕ

abbrev price : Model → ℕ → List ℕ → Price
price k n c = record { model = k; steps = n; price = c }

abbrev pub IsReached : Price → Type 0
IsReached p = Reached p.model p.steps p.price

abbrev pub prices : List (Row Price)
prices =
    -- Reached: of at most so many moves, whichever they are
    holds (price moves_model 2 (2 ∷ [])) ∷
    holds (price moves_model 2 (0 ∷ [])) ∷
    holds (price minutes_model 1 (65535 ∷ 1 ∷ [])) ∷
    fails (price moves_model 2 (3 ∷ [])) ∷
    fails (price minutes_model 3 (0 ∷ 4 ∷ [])) ∷
    -- with the minutes of so many moves, and no more than a move can take
    fails (price minutes_model 3 (5 ∷ 0 ∷ [])) ∷
    fails (price minutes_model 1 (65536 ∷ 1 ∷ [])) ∷
    []

abbrev pub PricesSay : Type 0
PricesSay = AllSay IsReached prices
