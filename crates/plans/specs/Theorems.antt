-- What is proved of every well-formed domain.
use Rattle.std.specs.Prelude.{◌≡◌, ℕ, ◌*◌, ◌<◌, ◌≤◌, Bool, ◌↔◌}
use Rattle.plans.specs.Simulation.{Domain, WellFormed, InRange, Holds, Simulation, ServesRow, Rank}
use Rattle.plans.specs.Iterate.{cut}
use Rattle.plans.specs.Reach.{Attainable, Member, reached, left_after}

-- After at most as many steps as there are pairs, the pairs left are a simulation, and they hold every simulation.
abbrev pub LargestSimulation : Type 0
LargestSimulation =
    (D : Domain) → WellFormed D →
    (k : ℕ) × (k ≤ D.stages * D.conditions) × Simulation D (cut D (left_after D k))
    × ((R : ℕ → ℕ → Bool) → Simulation D R → (s c : ℕ) → Holds R s c → Holds (cut D (left_after D k)) s c)

-- Each pair has one rank, at most the number of pairs, and no other.
abbrev pub OneRank : Type 0
OneRank =
    (D : Domain) → WellFormed D → (s c : ℕ) → InRange D s c →
    (k : ℕ) × (k ≤ D.stages * D.conditions) × Rank D s c k × ((j : ℕ) → Rank D s c j → j ≡ k)

-- The pairs left after k steps are those that serve k requests in a row.
abbrev pub LeftServes : Type 0
LeftServes = (D : Domain) → WellFormed D → (k s c : ℕ) → InRange D s c → Holds (left_after D k) s c ↔ ServesRow D k s c

-- What is computed as reached are the conditions from which some plan attains the goal.
abbrev pub ReachedAttains : Type 0
ReachedAttains =
    (D : Domain) → WellFormed D → (keep goal : ℕ → Bool) (c : ℕ) → c < D.conditions →
    Member (reached D keep goal) c ↔ Attainable D.moves keep goal c
