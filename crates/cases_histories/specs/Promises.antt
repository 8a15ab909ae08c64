-- Examples of what a controller promises: of quotes and openings, and over whole histories.
use Rattle.std.specs.Prelude.{ℕ, Bool, true, ◌&&◌, ◌==◌, List, [], ◌∷◌, Some, None}
use Rattle.plans.specs.Plans.{Plan, stop}
use Rattle.plans.specs.Simulation.{Domain}
use Rattle.costs.specs.Models.{minutes_model}
use Rattle.solver.specs.declared.Entry.TheVariants.{Work}
use Rattle.solver.specs.Policy.{World, world_of}
use Rattle.histories.specs.declared.Command.TheVariants.{Quote, Ask, Step, Close}
use Rattle.histories.specs.Calls.{At, quoted, granted, worked, closed, Event}
use Rattle.histories.specs.Promise.{Inside, LeastInSimulations, Promise, Promised, Opening}
use Rattle.cases_plans.specs.Rows.{Row, holds, fails, AllSay}
use Rattle.cases_histories.specs.Sluice.{move, any, is, isnt, lift, flood, two, nought, entries, costs, ranks, as_given, with_tables, w, working}
use Rattle.cases_histories.specs.Calls.{at}
use Rattle.cases_histories.specs.Errands.{event, leaving}

-- ── quotes and openings ──

pub data Claim : Type 0 where
  -- for a request and from a condition: a plan meets it and ends inside a set; a cost is the least over all simulations
  inside : (q c : ℕ) → (ℕ → ℕ → Bool) → Plan → Claim
  least : (q c : ℕ) → List ℕ → Claim
  -- with these ranks openings at a stage and a condition are as they should be
  opening : List ℕ → (s c : ℕ) → Claim

abbrev pub Means : Claim → Type 0
Means (inside q c R plan) = Inside w q c R plan
Means (least q c f) = LeastInSimulations w q c f
Means (opening rs s c) = Opening (with_tables entries costs rs) s c

-- sets of pairs: all of them, and one
abbrev pub everywhere : ℕ → ℕ → Bool
everywhere s c = true

abbrev pub only : ℕ → ℕ → ℕ → ℕ → Bool
only t d s c = s == t && c == d

abbrev pub rows : List (Row Claim)
rows =
    -- Inside: as Meets and EndsIn; the set need not be a simulation
    holds (inside 0 0 everywhere (working 0)) ∷
    holds (inside 0 0 (only 0 1) (working 1)) ∷
    holds (inside 2 0 (only 1 0) stop) ∷
    fails (inside 0 0 (only 0 1) (working 0)) ∷
    fails (inside 0 0 everywhere stop) ∷
    fails (inside 2 0 (only 2 0) stop) ∷
    -- LeastInSimulations: the least of what plans cost that end inside any simulation, where there is one
    holds (least 0 0 (two 3 1)) ∷
    holds (least 0 2 nought) ∷
    holds (least 2 0 nought) ∷
    fails (least 0 0 (two 7 1)) ∷
    fails (least 0 0 (two 2 1)) ∷
    fails (least 0 0 nought) ∷
    fails (least 1 1 nought) ∷
    fails (least 2 1 nought) ∷
    -- Opening: accepted where the pair is kept, refused by 24 where it is not, and so said only of pairs that there are
    holds (opening ranks 0 0) ∷
    holds (opening ranks 1 1) ∷
    holds (opening [] 0 0) ∷
    fails (opening [] 1 1) ∷
    fails (opening (1 ∷ []) 0 0) ∷
    fails (opening ranks 0 3) ∷
    []

abbrev pub PromisesSay : Type 0
PromisesSay = AllSay Means rows

-- ── least in simulations, and not merely the least ──

-- the same lock, that can gush too, and so flood in less time; with a request to leave low, and at its end one to be high
abbrev pub brink : Domain
brink = record {
  conditions = 3;
  stages = 2;
  moves = lift ∷ move 0 3 2 1 ∷ [];
  tasks = record { from = 0; to = 1; keep = any; reach = isnt 0 } ∷ record { from = 1; to = 1; keep = any; reach = is 1 } ∷ [];
}

abbrev pub edge : World
edge = world_of brink minutes_model as_given (Work 1 ∷ []) (two 3 1 ∷ []) []

abbrev pub IsLeast : List ℕ → Type 0
IsLeast f = LeastInSimulations edge 0 0 f

-- LeastInSimulations: a plan that gushes costs less, but no simulation has its end
abbrev pub brinks : List (Row (List ℕ))
brinks =
    holds (two 3 1) ∷
    fails (two 1 1) ∷
    fails nought ∷
    []

abbrev pub BrinksSay : Type 0
BrinksSay = AllSay IsLeast brinks

-- ── histories ──

-- calls, and where they have come to
pub record Lived : Type 0 where
  pub history : List Event
  pub end : At

abbrev lived : List Event → At → Lived
lived h b = record { history = h; end = b }

abbrev pub IsPromise : Lived → Type 0
IsPromise l = Promise w l.history l.end

abbrev pub low : At
low = at 0 (Some 0) (Some 0)

abbrev pub high : At
high = at 0 (Some 0) (Some 1)

abbrev pub idle : At
idle = at 0 None (Some 0)

-- Promise: histories that have it, and for each part of it one that breaks this part
abbrev pub lives : List (Row Lived)
lives =
    holds (lived leaving (at 0 None (Some 1))) ∷
    holds (lived (event idle (Ask 0) (granted (two 3 1)) low ∷ []) low) ∷
    holds (lived [] (at 2 None (Some 0))) ∷
    -- stands: the lock stands nowhere, or in a condition that is not there
    fails (lived [] (at 3 None None)) ∷
    fails (lived [] (at 3 None (Some 3))) ∷
    -- spends: a move that costs more than was quoted
    fails (lived (event idle (Ask 0) (granted (two 3 1)) low ∷ event low (Step 0) (worked flood) (at 0 (Some 0) (Some 2)) ∷ []) (at 0 (Some 0) (Some 2))) ∷
    -- grants: at a pair that is not kept a request has no plan
    fails (lived [] (at 1 None (Some 1))) ∷
    -- steps: and where it is out, no step
    fails (lived [] (at 1 (Some 1) (Some 1))) ∷
    -- closes: the request that is out is not one of the stage
    fails (lived [] (at 1 (Some 0) (Some 1))) ∷
    -- keeps: a step from high, where request 0 does not allow one
    fails (lived (event high (Step 0) (worked lift) high ∷ []) high) ∷
    -- reaches: a close at low, where request 0 has not been reached
    fails (lived (event low (Close 0) (closed 0) idle ∷ []) idle) ∷
    -- quotes: a quote that is not the least, told or granted
    fails (lived (event idle (Quote 0) (quoted (two 4 1)) idle ∷ []) idle) ∷
    fails (lived (event idle (Ask 0) (granted (two 4 1)) low ∷ []) low) ∷
    []

abbrev pub LivesSay : Type 0
LivesSay = AllSay IsPromise lives

-- Promised: of all histories from there
abbrev pub beginnings : List (Row At)
beginnings =
    holds idle ∷
    holds (at 2 None (Some 0)) ∷
    fails (at 1 None (Some 1)) ∷
    fails (at 3 None None) ∷
    []

abbrev pub BeginningsSay : Type 0
BeginningsSay = AllSay (Promised w) beginnings
