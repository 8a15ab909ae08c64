-- Simulation relations between a programme's stages and a lock's conditions, and how many requests in a row a pair serves.
use Rattle.std.specs.Prelude.{◌≡◌, ℕ, zero, suc, ◌<◌, ◌≤◌, Bool, true, List}
use Rattle.port.specs.Limits.{In}
use Rattle.port.specs.declared.Move.{Move}
use Rattle.plans.specs.Plans.{Plan, Within, IsRun, end, Attains}

-- A request, by where its texts hold.
pub record Task : Type 0 where
  pub from : ℕ
  pub to : ℕ
  pub keep : ℕ → Bool
  pub reach : ℕ → Bool

-- A planning domain with its programme: conditions and stages are the numbers below these.
pub record Domain : Type 0 where
  pub conditions : ℕ
  pub stages : ℕ
  pub moves : List Move
  pub tasks : List Task

pub record WellFormed (D : Domain) : Type 0 where
  pub within : Within D.conditions D.moves
  pub staged : (q : Task) → In q D.tasks → (q.from < D.stages) × (q.to < D.stages)

-- The plan meets the request from condition c.
abbrev pub Meets : Domain → Task → Plan → ℕ → Type 0
Meets D q plan c = Attains D.moves q.keep q.reach plan c

-- Every run of the plan from c ends in X.
abbrev pub EndsIn : Domain → Plan → ℕ → (ℕ → Type 0) → Type 0
EndsIn D plan c X = (ms : List Move) → IsRun D.moves plan c ms → X (end c ms)

-- At stage s and condition c each request of that stage has a plan that meets it and whose every end, with the request's to-stage, is in X.
abbrev pub Serves : Domain → (ℕ → ℕ → Type 0) → ℕ → ℕ → Type 0
Serves D X s c =
    (q : Task) → In q D.tasks → q.from ≡ s → (plan : Plan) × Meets D q plan c × EndsIn D plan c (X q.to)

-- A pair of stage and condition that there is.
abbrev pub InRange : Domain → ℕ → ℕ → Type 0
InRange D s c = (s < D.stages) × (c < D.conditions)

-- The set R holds the pair.
abbrev pub Holds : (ℕ → ℕ → Bool) → ℕ → ℕ → Type 0
Holds R s c = R s c ≡ true

-- A simulation relation: a set of pairs from each of which every request of its stage is served, inside the set again.
pub record Simulation (D : Domain) (R : ℕ → ℕ → Bool) : Type 0 where
  pub ranged : (s c : ℕ) → Holds R s c → InRange D s c
  pub closed : (s c : ℕ) → Holds R s c → Serves D (Holds R) s c

-- A pair is kept: some simulation holds it.
abbrev pub Kept : Domain → ℕ → ℕ → Type 0
Kept D s c = (R : ℕ → ℕ → Bool) × Simulation D R × Holds R s c

-- The pair serves k requests in a row.
abbrev pub ServesRow : Domain → ℕ → ℕ → ℕ → Type 0
ServesRow D zero s c = Unit {0}
ServesRow D (suc k) s c = Serves D (ServesRow D k) s c

-- The rank of a pair: 0 where it is kept (and then it serves every number of requests in a row); k + 1 where it is not kept, serves i
-- requests in a row for each i up to k, and for no i above k. So a rank that is not 0 is the least number of requests in a row that the
-- pair does not serve. Each pair that there is in a well-formed domain has one rank (`OneRank`). The same is stated of numbers that are
-- out of range: no simulation holds them, so that 0 is no rank of theirs, and they may have another rank or none. They have none where
-- the stage is out of range, in a well-formed domain: no request begins there, so that every number of requests is served.
abbrev pub Rank : Domain → ℕ → ℕ → ℕ → Type 0
Rank D s c zero = Kept D s c × ((i : ℕ) → ServesRow D i s c)
Rank D s c (suc k) =
    (Kept D s c → ⊥) × ((i : ℕ) → i ≤ k → ServesRow D i s c) × ((i : ℕ) → k < i → ServesRow D i s c → ⊥)
