-- Examples of the sets that a program computes: what is attainable, what grows, what is left, and the iteration.
use Rattle.std.specs.Prelude.{ℕ, suc, Bool, true, false, ◌&&◌, ◌||◌, ◌==◌, List, [], ◌∷◌}
use Rattle.plans.specs.Simulation.{Domain}
use Rattle.plans.specs.Iterate.{Iterates, Stable, cut}
use Rattle.plans.specs.Reach.{Attainable, Steps, Member, Closed, any_of, each, leads, steps, grown, attains, reached, aim, serves, left_after}
use Rattle.cases_plans.specs.Rows.{Row, holds, fails, AllSay}
use Rattle.cases_plans.specs.Values as values
use Rattle.cases_plans.specs.Values.{flag}
use Rattle.cases_plans.specs.Basin.{moves, any, none, is, isnt, raise, basin, jamming, stranding, pair, among, everywhere}

-- ── what is said of sets ──

pub data Claim : Type 0 where
  -- some plan keeps to one test and attains another from a condition
  attainable : (keep goal : ℕ → Bool) → ℕ → Claim
  -- a condition steps into a set
  steps_into : (keep G : ℕ → Bool) → ℕ → Claim
  member : (ℕ → Bool) → ℕ → Claim
  -- a set has the goals below a number and what steps into it
  closed : ℕ → (keep goal G : ℕ → Bool) → Claim
  -- a step drops no pair
  stable : Domain → (ℕ → ℕ → ℕ → Bool) → ℕ → Claim

abbrev pub Means : Claim → Type 0
Means (attainable keep goal c) = Attainable moves keep goal c
Means (steps_into keep G c) = Steps moves keep (Member G) c
Means (member G c) = Member G c
Means (closed n keep goal G) = Closed n moves keep goal G
Means (stable D W k) = Stable D W k

abbrev pub rows : List (Row Claim)
rows =
    -- Attainable: by some plan, on each of its runs, with the first test before the end
    holds (attainable any (is 1) 0) ∷
    holds (attainable none (is 2) 2) ∷
    holds (attainable (isnt 2) (is 0) 1) ∷
    fails (attainable any (is 2) 0) ∷
    fails (attainable (isnt 0) (is 1) 0) ∷
    fails (attainable any (isnt 2) 2) ∷
    -- Steps: the condition is kept to, and some operation leads only into the set
    holds (steps_into any (isnt 0) 0) ∷
    holds (steps_into (is 0) (is 1) 0) ∷
    fails (steps_into (isnt 0) (is 1) 0) ∷
    fails (steps_into any (is 2) 0) ∷
    fails (steps_into any (is 0) 2) ∷
    -- Member: the set has it
    holds (member (is 1) 1) ∷
    holds (member any 7) ∷
    fails (member (is 1) 0) ∷
    fails (member none 1) ∷
    -- Closed: the goals are in, and what steps in; both only below the number
    holds (closed 3 any (is 2) (is 2)) ∷
    holds (closed 3 any (is 1) (isnt 2)) ∷
    holds (closed 3 (isnt 0) (is 1) (is 1)) ∷
    holds (closed 1 any (is 2) none) ∷
    holds (closed 1 any (is 0) (is 0)) ∷
    fails (closed 3 any (is 2) none) ∷
    fails (closed 3 any (is 1) (is 1)) ∷
    fails (closed 2 any none (is 1)) ∷
    -- Stable: the set after a step is that before it, for the pairs that there are
    holds (stable basin (left_after basin) 2) ∷
    holds (stable jamming (left_after jamming) 4) ∷
    holds (stable basin (λ k s c. k == 0 && c == 3) 0) ∷
    fails (stable basin (left_after basin) 0) ∷
    fails (stable basin (left_after basin) 1) ∷
    fails (stable jamming (left_after jamming) 3) ∷
    []

-- ── what is computed ──

abbrev pub computed : List (Row values.Claim)
computed =
    -- any_of, each: one item of the list passes, or all do
    holds (flag (any_of (is 2) (1 ∷ 2 ∷ [])) true) ∷
    holds (flag (any_of any (0 ∷ [])) true) ∷
    fails (flag (any_of (is 3) (1 ∷ 2 ∷ [])) true) ∷
    fails (flag (any_of any []) true) ∷
    holds (flag (each (isnt 3) (1 ∷ 2 ∷ [])) true) ∷
    holds (flag (each none []) true) ∷
    fails (flag (each (is 2) (1 ∷ 2 ∷ [])) true) ∷
    fails (flag (each (is 1) (1 ∷ 2 ∷ [])) true) ∷
    -- leads: each outcome of an operation is in the set; where it has none, so is each
    holds (flag (leads moves (isnt 0) 0 0) true) ∷
    holds (flag (leads moves (is 1) 0 1) true) ∷
    holds (flag (leads moves none 1 0) true) ∷
    fails (flag (leads moves (is 1) 0 0) true) ∷
    fails (flag (leads moves (is 2) 0 0) true) ∷
    -- steps: as Steps
    holds (flag (steps moves (is 0) (is 1) 0) true) ∷
    holds (flag (steps moves any (is 2) 2) true) ∷
    fails (flag (steps moves any (is 2) 0) true) ∷
    fails (flag (steps moves none any 0) true) ∷
    fails (flag (steps moves any none 1) true) ∷
    -- grown: the goals, and so many times what steps in
    holds (flag (grown moves any (is 0) 0 0) true) ∷
    holds (flag (grown moves any (is 0) 1 1) true) ∷
    holds (flag (grown moves none (is 0) 9 0) true) ∷
    fails (flag (grown moves any (is 0) 0 1) true) ∷
    fails (flag (grown moves any (is 0) 9 2) true) ∷
    fails (flag (grown moves none (is 0) 9 1) true) ∷
    -- attains, reached: as Attainable
    holds (flag (attains 3 moves any (is 0) 1) true) ∷
    holds (flag (attains 3 moves none (is 2) 2) true) ∷
    fails (flag (attains 3 moves any (is 2) 0) true) ∷
    fails (flag (attains 0 moves any (is 0) 1) true) ∷
    holds (flag (reached basin any (is 1) 0) true) ∷
    holds (flag (reached jamming any (isnt 0) 0) true) ∷
    holds (flag (reached (record basin { stages = 0 }) any (is 1) 0) true) ∷
    fails (flag (reached jamming any (is 1) 0) true) ∷
    fails (flag (reached basin any (is 1) 2) true) ∷
    -- aim: the request's goal, where the set has the pair with its to-stage
    holds (flag (aim everywhere raise 1) true) ∷
    holds (flag (aim (among (pair 1 2 ∷ [])) raise 2) true) ∷
    fails (flag (aim everywhere raise 0) true) ∷
    fails (flag (aim (among (pair 0 1 ∷ [])) raise 1) true) ∷
    -- serves: as Serves
    holds (flag (serves basin (among (pair 1 1 ∷ [])) 0 0) true) ∷
    holds (flag (serves basin (among []) 2 1) true) ∷
    fails (flag (serves basin (among (pair 0 1 ∷ [])) 0 0) true) ∷
    fails (flag (serves stranding everywhere 0 0) true) ∷
    -- left_after: all pairs at first, and after each step those that the set before serves
    holds (flag (left_after basin 0 1 2) true) ∷
    holds (flag (left_after basin 1 0 2) true) ∷
    holds (flag (left_after basin 9 0 0) true) ∷
    fails (flag (left_after basin 1 1 2) true) ∷
    fails (flag (left_after basin 2 0 2) true) ∷
    fails (flag (left_after jamming 4 0 1) true) ∷
    -- cut: a set, within the domain
    holds (flag (cut basin everywhere 2 2) true) ∷
    holds (flag (cut basin (among (pair 0 1 ∷ [])) 0 1) true) ∷
    holds (flag (cut basin everywhere 3 0) true) ∷
    fails (flag (cut basin everywhere 4 0) true) ∷
    fails (flag (cut basin everywhere 0 3) true) ∷
    fails (flag (cut basin (among []) 0 1) true) ∷
    []

-- ── the iteration ──

-- Iterates: all pairs at first, and after each step those served and no others; outside the domain a set may hold what it likes
abbrev pub iterations : List (Row (ℕ → ℕ → ℕ → Bool))
iterations =
    holds (left_after basin) ∷
    holds (λ k s c. left_after basin k s c || (s == 4)) ∷
    fails (λ k s c. true) ∷
    fails (λ k s c. false) ∷
    fails (λ k s c. left_after basin (suc k) s c) ∷
    fails (λ k s c. left_after jamming k s c) ∷
    []

abbrev pub SetsSay : Type 0
SetsSay = AllSay Means rows

abbrev pub ComputedSay : Type 0
ComputedSay = AllSay values.Means computed

abbrev pub IterationsSay : Type 0
IterationsSay = AllSay (Iterates basin) iterations
