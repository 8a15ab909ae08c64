-- Examples of what is read from lists of flags, numbers and tasks.
use Rattle.std.specs.Prelude.{ℕ, Bool, true, false, List, [], ◌∷◌, ◌==◌}
use Rattle.plans.specs.Flags.{has, rank_at, bit, raised, every, no_task, task_at, all_served}
use Rattle.cases_plans.specs.Rows.{Row, holds, fails, AllSay}
use Rattle.cases_plans.specs.Values as values
use Rattle.cases_plans.specs.Values.{number, flag}
use Rattle.cases_plans.specs.Basin.{none, isnt, basin}

-- the first request, or the condition 1, has its flag
abbrev first_alone : ℕ → ℕ → Bool
first_alone i c = i == 0

abbrev one_alone : ℕ → ℕ → Bool
one_alone i c = c == 1

abbrev pub readings : List (Row values.Claim)
readings =
    -- has: the flag at a place, and past the end none
    holds (flag (has (true ∷ false ∷ []) 0) true) ∷
    holds (flag (has (true ∷ []) 1) false) ∷
    fails (flag (has (true ∷ false ∷ []) 1) true) ∷
    fails (flag (has [] 0) true) ∷
    -- rank_at: the number of a pair, in rows of so many, a row for each stage
    holds (number (rank_at 2 (4 ∷ 5 ∷ 6 ∷ 7 ∷ []) 1 0) 6) ∷
    holds (number (rank_at 2 (4 ∷ 5 ∷ 6 ∷ 7 ∷ []) 0 1) 5) ∷
    fails (number (rank_at 2 (4 ∷ 5 ∷ 6 ∷ 7 ∷ []) 1 0) 5) ∷
    fails (number (rank_at 1 (4 ∷ 5 ∷ 6 ∷ 7 ∷ []) 1 0) 6) ∷
    -- bit, raised: how many flags are true
    holds (number (bit true) 1) ∷
    holds (number (bit false) 0) ∷
    fails (number (bit true) 0) ∷
    fails (number (bit false) 1) ∷
    holds (number (raised (true ∷ false ∷ true ∷ [])) 2) ∷
    holds (number (raised []) 0) ∷
    fails (number (raised (true ∷ false ∷ true ∷ [])) 3) ∷
    fails (number (raised (false ∷ [])) 1) ∷
    -- every: all numbers below one pass
    holds (flag (every (isnt 3) 3) true) ∷
    holds (flag (every none 0) true) ∷
    fails (flag (every (isnt 2) 3) true) ∷
    fails (flag (every (isnt 0) 3) true) ∷
    -- task_at: the task at a place, and past the end no_task, which is met nowhere
    holds (number (task_at basin 1).from 1) ∷
    holds (number (task_at basin 0).to 1) ∷
    holds (flag ((task_at basin 2).reach 0) false) ∷
    fails (number (task_at basin 0).to 0) ∷
    fails (flag ((task_at basin 2).keep 0) true) ∷
    holds (number no_task.from 0) ∷
    holds (flag (no_task.reach 0) false) ∷
    fails (number no_task.to 1) ∷
    fails (flag (no_task.reach 1) true) ∷
    -- all_served: of the first tasks, those of the stage have the condition in their rows; past the last, stage 0 asks for a row too
    holds (flag (all_served basin first_alone 2 0 0) true) ∷
    holds (flag (all_served basin first_alone 1 1 0) true) ∷
    holds (flag (all_served basin one_alone 2 1 1) true) ∷
    holds (flag (all_served basin one_alone 2 2 0) true) ∷
    fails (flag (all_served basin first_alone 2 1 0) true) ∷
    fails (flag (all_served basin one_alone 2 0 0) true) ∷
    fails (flag (all_served basin first_alone 3 0 0) true) ∷
    []

abbrev pub ReadingsSay : Type 0
ReadingsSay = AllSay values.Means readings
