-- Examples of costs that are final, of what the loop of the search keeps, and of what it ends with.
use Rattle.std.specs.Prelude.{ℕ, Bool, true, false, List, [], ◌∷◌, None, Option}
use Rattle.port.specs.declared.Move.{Move}
use Rattle.plans.specs.Flags.{has}
use Rattle.costs.specs.declared.models.Time.{Time}
use Rattle.costs.specs.Models.{minutes_model, time_list}
use Rattle.search.specs.declared.Choice.TheVariants.{None as Nothing, There, Work}
use Rattle.search.specs.Labels.{Final}
use Rattle.search.specs.Steps.{SearchState, Settled}
use Rattle.cases_plans.specs.Rows.{Row, holds, fails, AllSay}
use Rattle.cases_plans.specs.Basin.{move}
use Rattle.cases_search.specs.Sluice.{moves, two, four, by_minutes, Quest, high, high_at_once, high_or_stuck}
use Rattle.cases_search.specs.Labels.{costs_in, first, second, time}

-- of a lock with these moves, in minutes: where work is allowed and what the goal is, and how many conditions there are
pub data Claim : Type 0 where
  -- the costs of a table are final
  final : List Move → Quest → (n : ℕ) → List (Option Time) → Claim
  -- costs and offers on the way; and costs at the end
  state : List Move → Quest → (n : ℕ) → (costs offers : List (Option Time)) → Claim
  settled : List Move → Quest → (n : ℕ) → List (Option Time) → Claim

abbrev pub Means : Claim → Type 0
Means (final ms w n t) = Final minutes_model ms (has w.keep) (has w.goal) n (costs_in t)
Means (state ms w n t u) = SearchState minutes_model time_list ms (has w.keep) (has w.goal) n t u
Means (settled ms w n t) = Settled minutes_model time_list ms (has w.keep) (has w.goal) n t

abbrev all : List Bool
all = four true true true true

abbrev none : List (Option Time)
none = None ∷ None ∷ None ∷ None ∷ []

-- all that is final at the end, on the way to be high, and to be high or stuck
abbrev last : List (Option Time)
last = time 4 2 ∷ time 2 1 ∷ time 0 0 ∷ None ∷ []

abbrev last_or_stuck : List (Option Time)
last_or_stuck = time 4 1 ∷ time 2 1 ∷ time 0 0 ∷ time 0 0 ∷ []

-- a lock that no port has: to fill its second half takes more minutes than a move can say
abbrev slow : List Move
slow = move 0 0 1 1 ∷ move 1 0 2 70000 ∷ []

-- to be high or stuck there; to be high, with no work where it is low; and not to be half full
abbrev slow_high : Quest
slow_high = record {
  measure = by_minutes;
  keep = all;
  goal = four false false true true;
  answers = Work 0 (two 70001 2) ∷ Work 0 (two 70000 1) ∷ There ∷ There ∷ [];
}

abbrev slow_half : Quest
slow_half = record {
  measure = by_minutes;
  keep = four false true true true;
  goal = four false false true false;
  answers = Nothing ∷ Work 0 (two 70000 1) ∷ There ∷ Nothing ∷ [];
}

abbrev slow_not_half : Quest
slow_not_half = record {
  measure = by_minutes;
  keep = all;
  goal = four true false true true;
  answers = There ∷ Work 0 (two 70000 1) ∷ There ∷ There ∷ [];
}

abbrev pub rows : List (Row Claim)
rows =
    -- Final: each goal has its cost, and a cost is the least of all plans, and what an operation comes to by the costs of the table
    holds (final moves high 4 first) ∷
    holds (final moves high 4 second) ∷
    holds (final moves high 4 last) ∷
    holds (final moves high_at_once 4 (time 5 1 ∷ None ∷ time 0 0 ∷ None ∷ [])) ∷
    holds (final moves high_or_stuck 4 last_or_stuck) ∷
    -- a goal past the number need not have one
    holds (final moves high 2 none) ∷
    fails (final moves high 4 none) ∷
    fails (final moves high 4 (None ∷ None ∷ time 0 0 ∷ time 9 9 ∷ [])) ∷
    fails (final moves high 4 (time 5 1 ∷ None ∷ time 0 0 ∷ None ∷ [])) ∷
    fails (final moves high 4 (time 4 2 ∷ None ∷ time 0 0 ∷ None ∷ [])) ∷
    fails (final moves high_at_once 4 last) ∷
    -- SearchState: a row of costs and one of offers, for each condition; the costs are final, no offer is below them, and each is there
    holds (state moves high 4 first (time 5 1 ∷ time 2 1 ∷ None ∷ None ∷ [])) ∷
    holds (state moves high 4 second (time 4 2 ∷ None ∷ None ∷ None ∷ [])) ∷
    holds (state moves high 4 last none) ∷
    holds (state slow slow_half 4 first (None ∷ time 70000 1 ∷ None ∷ None ∷ [])) ∷
    fails (state moves high 4 (None ∷ None ∷ time 0 0 ∷ []) (time 5 1 ∷ time 2 1 ∷ None ∷ None ∷ [])) ∷
    fails (state moves high 4 first (time 5 1 ∷ time 2 1 ∷ None ∷ [])) ∷
    fails (state moves high 4 none none) ∷
    fails (state moves high_or_stuck 4 (time 4 1 ∷ None ∷ time 0 0 ∷ time 0 0 ∷ []) (None ∷ time 2 1 ∷ None ∷ None ∷ [])) ∷
    fails (state moves high 4 first (time 5 1 ∷ None ∷ None ∷ None ∷ [])) ∷
    fails (state moves high 4 second (time 5 1 ∷ None ∷ None ∷ None ∷ [])) ∷
    -- each cost is one of a run of fewer moves than there are costs, none of which takes more minutes than it can say
    fails (state slow slow_half 4 (None ∷ time 70000 1 ∷ time 0 0 ∷ None ∷ []) none) ∷
    -- Settled: the costs are final, and where there is none no plan leads to the goal
    holds (settled moves high 4 last) ∷
    holds (settled moves high_at_once 4 (time 5 1 ∷ None ∷ time 0 0 ∷ None ∷ [])) ∷
    holds (settled moves high_or_stuck 4 last_or_stuck) ∷
    fails (settled moves high 3 last) ∷
    fails (settled moves high 4 (time 5 1 ∷ time 2 1 ∷ time 0 0 ∷ None ∷ [])) ∷
    fails (settled moves high 4 second) ∷
    fails (settled moves high_or_stuck 4 last) ∷
    -- a cost that is none of such a run is so only where each condition has a cost, and none is above it
    holds (settled slow slow_not_half 4 (time 0 0 ∷ time 70000 1 ∷ time 0 0 ∷ time 0 0 ∷ [])) ∷
    fails (settled slow slow_high 4 (time 70001 2 ∷ time 70000 1 ∷ time 0 0 ∷ time 0 0 ∷ [])) ∷
    fails (settled slow slow_half 4 (None ∷ time 70000 1 ∷ time 0 0 ∷ None ∷ [])) ∷
    []

abbrev pub LoopsSay : Type 0
LoopsSay = AllSay Means rows
