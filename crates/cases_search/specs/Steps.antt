-- Examples of what the steps of the search do.
use Rattle.std.specs.Prelude.{ℕ, Bool, true, false, List, [], ◌∷◌, Some, None, Option}
use Rattle.plans.specs.Flags.{has}
use Rattle.costs.specs.declared.models.Time.{Time}
use Rattle.costs.specs.Models.{minutes_model, time_list}
use Rattle.search.specs.declared.Choice.{Choice}
use Rattle.search.specs.declared.Choice.TheVariants.{None as Nothing, There, Work}
use Rattle.search.specs.Steps.{start, Started, AllOffered, Above, LowestAt, Picked, AllPicked}
use Rattle.cases_plans.specs.Rows.{Row, holds, fails, AllSay}
use Rattle.cases_plans.specs.Values as values
use Rattle.cases_plans.specs.Values.{price}
use Rattle.cases_plans.specs.Basin.{is, isnt}
use Rattle.cases_search.specs.Sluice.{moves, two, four}
use Rattle.cases_search.specs.Labels.{costs_in, first, second, stuck_too, time}

-- start: at a goal nothing, and elsewhere no cost yet
abbrev pub starts : List (Row values.Claim)
starts =
    holds (price (start minutes_model (is 2) 2) (Some (two 0 0))) ∷
    holds (price (start minutes_model (is 2) 0) None) ∷
    fails (price (start minutes_model (isnt 2) 2) (Some (two 0 0))) ∷
    fails (price (start minutes_model (is 2) 2) None) ∷
    []

abbrev pub StartsSay : Type 0
StartsSay = AllSay values.Means starts

pub data Claim : Type 0 where
  -- a table as it is at first, for n conditions
  started : List Bool → ℕ → List (Option Time) → Claim
  -- by the costs of a table: offers for n conditions, where work is allowed; none of these is below a cost
  all_offered : List Bool → ℕ → (costs offers : List (Option Time)) → Claim
  above : ℕ → (costs offers : List (Option Time)) → Claim
  -- the operation that comes to a condition's cost, and what is chosen there
  worked : List (Option Time) → ℕ → Option (ℕ × Time) → Claim
  picked : List (Option Time) → List Bool → ℕ → Choice Time → Claim
  all_picked : List (Option Time) → List Bool → ℕ → List (Choice Time) → Claim

abbrev pub Means : Claim → Type 0
Means (started goal n t) = Started minutes_model time_list (has goal) n t
Means (all_offered keep n t u) = AllOffered minutes_model moves (has keep) n (costs_in t) (costs_in u)
Means (above n t u) = Above minutes_model n (costs_in t) (costs_in u)
Means (worked t c w) = LowestAt minutes_model time_list moves (costs_in t) c w
Means (picked t goal c x) = Picked minutes_model time_list moves (costs_in t) (has goal) c x
Means (all_picked t goal n r) = AllPicked minutes_model time_list moves (costs_in t) (has goal) n r

abbrev cost : ℕ → ℕ → Time
cost minutes n = record { minutes = minutes; moves = n }

abbrev all : List Bool
all = four true true true true

abbrev high : List Bool
high = four false false true false

-- all that is final, on the way to be high
abbrev last : List (Option Time)
last = time 4 2 ∷ time 2 1 ∷ time 0 0 ∷ None ∷ []

abbrev pub rows : List (Row Claim)
rows =
    -- Started: the goals cost nothing, and no other condition has a cost
    holds (started high 4 first) ∷
    holds (started (four false false true true) 4 stuck_too) ∷
    fails (started high 4 second) ∷
    fails (started high 4 stuck_too) ∷
    fails (started high 3 first) ∷
    -- AllOffered: what is on offer for each
    holds (all_offered all 4 first (time 5 1 ∷ time 2 1 ∷ None ∷ None ∷ [])) ∷
    holds (all_offered all 4 second (time 4 2 ∷ None ∷ None ∷ None ∷ [])) ∷
    holds (all_offered all 0 first []) ∷
    fails (all_offered all 4 first (time 5 1 ∷ None ∷ None ∷ None ∷ [])) ∷
    fails (all_offered all 4 second (time 5 1 ∷ None ∷ None ∷ None ∷ [])) ∷
    fails (all_offered all 4 second (time 4 2 ∷ time 2 1 ∷ None ∷ None ∷ [])) ∷
    -- Above: no cost is above an offer
    holds (above 4 second (time 4 2 ∷ None ∷ None ∷ None ∷ [])) ∷
    holds (above 1 second (time 2 1 ∷ time 0 0 ∷ [])) ∷
    fails (above 2 second (time 2 1 ∷ time 0 0 ∷ [])) ∷
    fails (above 4 second (time 1 9 ∷ [])) ∷
    -- LowestAt: the lowest operation that comes to the condition's cost, or that none does
    holds (worked last 0 (Some (0, cost 4 2))) ∷
    holds (worked last 1 (Some (0, cost 2 1))) ∷
    holds (worked (time 5 1 ∷ None ∷ time 0 0 ∷ []) 0 (Some (1, cost 5 1))) ∷
    holds (worked last 2 None) ∷
    holds (worked last 3 None) ∷
    fails (worked last 0 None) ∷
    fails (worked last 0 (Some (1, cost 5 1))) ∷
    fails (worked last 0 (Some (1, cost 4 2))) ∷
    fails (worked (time 5 1 ∷ None ∷ time 0 0 ∷ []) 0 (Some (3, cost 5 1))) ∷
    -- Picked: There at a goal alone, and elsewhere that operation
    holds (picked last high 2 There) ∷
    holds (picked last high 3 Nothing) ∷
    holds (picked last high 0 (Work 0 (cost 4 2))) ∷
    fails (picked last high 0 There) ∷
    fails (picked last high 2 Nothing) ∷
    fails (picked last high 0 Nothing) ∷
    fails (picked last high 0 (Work 1 (cost 5 1))) ∷
    fails (picked last all 0 (Work 0 (cost 4 2))) ∷
    -- AllPicked: that for each condition, and no more
    holds (all_picked last high 4 (Work 0 (cost 4 2) ∷ Work 0 (cost 2 1) ∷ There ∷ Nothing ∷ [])) ∷
    holds (all_picked last high 0 []) ∷
    fails (all_picked last high 4 (Work 0 (cost 4 2) ∷ Work 0 (cost 2 1) ∷ There ∷ [])) ∷
    fails (all_picked last high 4 (Work 0 (cost 4 2) ∷ There ∷ There ∷ Nothing ∷ [])) ∷
    fails (all_picked last high 3 (Work 0 (cost 4 2) ∷ Work 0 (cost 2 1) ∷ Nothing ∷ [])) ∷
    []

abbrev pub StepsSay : Type 0
StepsSay = AllSay Means rows
