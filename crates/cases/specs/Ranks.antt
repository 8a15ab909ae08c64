-- Ports with the ranks of their pairs.
use Rattle.std.specs.Prelude.{ℕ, List, [], ◌∷◌}
use Rattle.plans.specs.Domains.{domain_of}
use Rattle.plans.specs.Flags.{rank_at}
use Rattle.plans.specs.Simulation.{InRange, Rank}
use Rattle.port.specs.Limits.{In}
use Rattle.port.specs.Model.{Model}
use Rattle.cases.specs.Ports.{low_staithe, stuck_gate}

-- a port with its ranks, by stage and then by condition
pub record Row : Type 0 where
  pub port : Model
  pub ranks : List ℕ

abbrev pub staithe_ranks : List ℕ
staithe_ranks =
    0 ∷ 0 ∷ 0 ∷ 2 ∷
    0 ∷ 0 ∷ 1 ∷ 1 ∷
    []

abbrev pub gate_ranks : List ℕ
gate_ranks =
    1 ∷ 3 ∷ 3 ∷ 2 ∷
    2 ∷ 2 ∷ 1 ∷ 1 ∷
    []

abbrev pub rows : List Row
rows =
    record { port = low_staithe; ranks = staithe_ranks } ∷
    record { port = stuck_gate; ranks = gate_ranks } ∷
    []

-- each pair of stage and condition that there is has its rank
abbrev pub Holds : Row → Type 0
Holds r =
    (s c : ℕ) → InRange (domain_of r.port) s c → Rank (domain_of r.port) s c (rank_at (domain_of r.port).conditions r.ranks s c)

abbrev pub RanksHold : Type 0
RanksHold = (r : Row) → In r rows → Holds r
