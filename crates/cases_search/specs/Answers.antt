-- Examples of what the search answers.
use Rattle.std.specs.Prelude.{ℕ, Bool, List, [], ◌∷◌}
use Rattle.plans.specs.Flags.{has}
use Rattle.plans.specs.Plans.{Plan, stop, work}
use Rattle.search.specs.Answers.{Costs, Prices, BestToGoal, RightChoice, Answers}
use Rattle.search.specs.declared.Choice.{Choice}
use Rattle.search.specs.declared.Choice.TheVariants.{None, There, Work}
use Rattle.cases_plans.specs.Rows.{Row, holds, fails, AllSay}
use Rattle.cases_plans.specs.Basin.{any, is}
use Rattle.cases_search.specs.Sluice.{moves, two, one, Measure, by_minutes, by_moves, model_of, Quest, high, high_soon, high_at_once, high_or_stuck}

pub data Claim : Type 0 where
  -- a plan costs so much from a condition, and it attains a goal at that price
  costs : Measure → Plan → ℕ → List ℕ → Claim
  prices : Measure → (keep goal : ℕ → Bool) → ℕ → List ℕ → Plan → Claim
  -- an operation is the one to begin with, at the least cost
  best : Quest → (c o : ℕ) → List ℕ → Claim
  -- what is said of a condition, and of the first n of them
  answer : Quest → ℕ → Choice (List ℕ) → Claim
  answers : Quest → (n : ℕ) → List (Choice (List ℕ)) → Claim

-- costs are told as they are
abbrev pub as_told : List ℕ → List ℕ
as_told x = x

abbrev pub Means : Claim → Type 0
Means (costs u plan c f) = Costs (model_of u) moves plan c f
Means (prices u keep goal c f plan) = Prices (model_of u) moves keep goal c f plan
Means (best w c o f) = BestToGoal (model_of w.measure) moves (has w.keep) (has w.goal) c o f
Means (answer w c x) = RightChoice (model_of w.measure) as_told moves (has w.keep) (has w.goal) c x
Means (answers w n r) = Answers n (model_of w.measure) as_told moves w.keep w.goal r

-- plans: one operation, two, and to hoist and then draw whatever came
abbrev pub once : ℕ → Plan
once o = work o (λ c. stop)

abbrev pub twice : ℕ → ℕ → Plan
twice o p = work o (λ c. once p)

abbrev pub rows : List (Row Claim)
rows =
    -- Costs: what the costliest of the plan's runs costs
    holds (costs by_minutes stop 3 (two 0 0)) ∷
    holds (costs by_minutes (once 2) 0 (two 4 1)) ∷
    holds (costs by_moves (twice 0 0) 0 (one 2)) ∷
    fails (costs by_minutes (once 2) 0 (two 1 1)) ∷
    fails (costs by_minutes (once 2) 0 (two 5 1)) ∷
    fails (costs by_minutes (once 1) 1 (two 0 0)) ∷
    fails (costs by_moves stop 0 (one 1)) ∷
    -- Prices: the plan attains the goal too
    holds (prices by_minutes any (is 2) 0 (two 4 2) (twice 0 0)) ∷
    holds (prices by_moves (is 0) (is 2) 0 (one 1) (once 3)) ∷
    fails (prices by_minutes any (is 2) 0 (two 4 1) (once 2)) ∷
    fails (prices by_minutes (is 0) (is 2) 0 (two 4 2) (twice 0 0)) ∷
    fails (prices by_minutes any (is 2) 0 (two 4 1) (twice 0 0)) ∷
    -- BestToGoal: of all plans to the goal, in the model's order, with the lowest operation
    holds (best high 0 0 (two 4 2)) ∷
    holds (best high_soon 0 1 (one 1)) ∷
    holds (best high_at_once 0 1 (two 5 1)) ∷
    holds (best high_or_stuck 0 2 (two 4 1)) ∷
    fails (best high 0 1 (two 5 1)) ∷
    fails (best high 0 0 (two 3 2)) ∷
    fails (best high 0 2 (two 4 1)) ∷
    fails (best high_soon 0 3 (one 1)) ∷
    fails (best high_soon 0 0 (one 2)) ∷
    fails (best high_at_once 0 0 (two 4 2)) ∷
    fails (best high_at_once 0 3 (two 5 1)) ∷
    fails (best high_or_stuck 0 2 (two 1 1)) ∷
    fails (best high 3 0 (two 0 0)) ∷
    -- RightChoice: None where there is no plan, There where the goal is, and elsewhere the best
    holds (answer high 3 None) ∷
    holds (answer high_at_once 1 None) ∷
    holds (answer high 2 There) ∷
    holds (answer high_or_stuck 3 There) ∷
    holds (answer high 0 (Work 0 (two 4 2))) ∷
    holds (answer high 1 (Work 0 (two 2 1))) ∷
    fails (answer high 0 None) ∷
    fails (answer high 2 None) ∷
    fails (answer high 0 There) ∷
    fails (answer high 3 There) ∷
    fails (answer high 0 (Work 1 (two 5 1))) ∷
    fails (answer high 0 (Work 0 (two 5 1))) ∷
    fails (answer high 3 (Work 0 (two 0 0))) ∷
    fails (answer high 2 (Work 0 (two 7 3))) ∷
    -- Answers: one for each condition, and no more
    holds (answers high 4 high.answers) ∷
    holds (answers high_soon 4 high_soon.answers) ∷
    holds (answers high_at_once 4 high_at_once.answers) ∷
    holds (answers high_or_stuck 4 high_or_stuck.answers) ∷
    holds (answers high 0 []) ∷
    fails (answers high 4 high_soon.answers) ∷
    fails (answers high 4 high_or_stuck.answers) ∷
    fails (answers high 3 high.answers) ∷
    fails (answers high 4 []) ∷
    fails (answers high 4 (Work 0 (two 4 2) ∷ Work 0 (two 2 1) ∷ None ∷ None ∷ [])) ∷
    fails (answers high 4 (Work 0 (two 4 2) ∷ Work 0 (two 2 1) ∷ There ∷ There ∷ [])) ∷
    []

abbrev pub AnswersSay : Type 0
AnswersSay = AllSay Means rows
