-- Examples of what each plan costs at least.
use Rattle.std.specs.Prelude.{ℕ, List, [], ◌∷◌}
use Rattle.plans.specs.Flags.{has}
use Rattle.search.specs.Labels.{AtLeast}
use Rattle.cases_plans.specs.Rows.{Row, holds, fails, AllSay}
use Rattle.cases_search.specs.Sluice.{moves, two, model_of, Quest, high, high_at_once, high_or_stuck}

pub record Claim : Type 0 where
  pub quest : Quest
  pub condition : ℕ
  pub cost : List ℕ

abbrev at_least : Quest → ℕ → List ℕ → Claim
at_least w c f = record { quest = w; condition = c; cost = f }

abbrev pub Means : Claim → Type 0
Means x = AtLeast (model_of x.quest.measure) moves (has x.quest.keep) (has x.quest.goal) x.condition x.cost

abbrev pub rows : List (Row Claim)
rows =
    -- AtLeast: each plan to the goal has a run of this cost or more; where there is no plan, of any cost
    holds (at_least high 0 (two 4 2)) ∷
    holds (at_least high 0 (two 3 9)) ∷
    holds (at_least high 3 (two 99 9)) ∷
    holds (at_least high_at_once 0 (two 5 1)) ∷
    holds (at_least high 2 (two 0 0)) ∷
    fails (at_least high 0 (two 4 3)) ∷
    fails (at_least high 0 (two 5 1)) ∷
    fails (at_least high 2 (two 0 1)) ∷
    fails (at_least high_or_stuck 0 (two 4 2)) ∷
    []

abbrev pub LeastSay : Type 0
LeastSay = AllSay Means rows
