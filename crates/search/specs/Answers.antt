-- What plans cost, and what the search answers.
use Rattle.std.specs.Prelude.{◌≡◌, ℕ, ◌<◌, ◌≤◌, Bool, true, false, List, length, slice_index_or}
use Rattle.port.specs.declared.Move.{Move}
use Rattle.plans.specs.Flags.{has}
use Rattle.plans.specs.Plans.{Plan, work, IsRun, Attains}
use Rattle.costs.specs.Costs.{Model, Le, cost}
use Rattle.search.specs.declared.Choice.{Choice}
use Rattle.search.specs.declared.Choice.TheVariants.{None, There, Work}

-- f is what the plan costs from c: some run costs it, and none costs more
pub record Costs (k : Model) (moves : List Move) (p : Plan) (c : ℕ) (f : List ℕ) : Type 0 where
  pub some : (ms : List Move) × IsRun moves p c ms × (cost k ms ≡ f)
  pub most : (ms : List Move) → IsRun moves p c ms → Le k (cost k ms) f

-- the plan attains the goal from c, and costs f
abbrev pub Prices : Model → List Move → (ℕ → Bool) → (ℕ → Bool) → ℕ → List ℕ → Plan → Type 0
Prices k moves keep goal c f p = Attains moves keep goal p c × Costs k moves p c f

-- f is the least that a plan from c to the goal costs, and o is the lowest operation that begins a plan of that cost
pub record BestToGoal (k : Model) (moves : List Move) (keep goal : ℕ → Bool) (c o : ℕ) (f : List ℕ) : Type 0 where
  pub next : ℕ → Plan
  pub prices : Prices k moves keep goal c f (work o next)
  pub least : (p : Plan) → Attains moves keep goal p c → (g : List ℕ) × Costs k moves p c g × Le k f g
  pub lowest : (p : ℕ) (after : ℕ → Plan) → Prices k moves keep goal c f (work p after) → o ≤ p

-- what the search may say of the condition c
abbrev pub RightChoice : {A : Type 0} → Model → (A → List ℕ) → List Move → (ℕ → Bool) → (ℕ → Bool) → ℕ → Choice A → Type 0
RightChoice k e moves keep goal c None = (p : Plan) → Attains moves keep goal p c → ⊥
RightChoice k e moves keep goal c There = goal c ≡ true
RightChoice k e moves keep goal c (Work o x) = (goal c ≡ false) × BestToGoal k moves keep goal c o (e x)

-- an answer for each of n conditions
pub record Answers {A : Type 0} (n : ℕ) (k : Model) (e : A → List ℕ) (moves : List Move) (keep goal : List Bool) (r : List (Choice A)) : Type 0 where
  pub sized : length r ≡ n
  pub each : (c : ℕ) → c < n → RightChoice k e moves (has keep) (has goal) c (slice_index_or r c None)
