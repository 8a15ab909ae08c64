-- The planning domain that a port tells.
use Rattle.std.specs.Prelude.{ℕ, Bool, List, map, length, slice_index}
use Rattle.formula.specs.Truth.{truth}
use Rattle.port.specs.Model.{Model, RequestModel}
use Rattle.plans.specs.Simulation.{Task, Domain}

-- the text holds in condition c of the port
abbrev pub holds_in : Model → List ℕ → ℕ → Bool
holds_in m text c = truth m.header.marks (slice_index m.conditions c) text

-- a request, by where its texts hold
abbrev pub task_of : Model → RequestModel → Task
task_of m q = record { from = q.from; to = q.to; keep = holds_in m q.keep; reach = holds_in m q.reach }

abbrev pub domain_of : Model → Domain
domain_of m =
    record { conditions = length m.conditions; stages = m.header.stages; moves = m.moves; tasks = map (task_of m) m.requests }
