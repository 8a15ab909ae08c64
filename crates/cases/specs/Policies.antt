-- Ports that are solved: the policy, its exact costs and the ranks, under a cost model.
use Rattle.std.specs.Prelude.{ℕ, List, [], ◌∷◌}
use Rattle.plans.specs.Domains.{domain_of}
use Rattle.port.specs.Limits.{In}
use Rattle.port.specs.Model.{Model as PortModel}
use Rattle.costs.specs.Costs.{Model, Laws}
use Rattle.costs.specs.Models.{moves_model, moves_laws, minutes_model, minutes_laws}
use Rattle.solver.specs.declared.Entry.{Entry}
use Rattle.solver.specs.declared.Entry.TheVariants.{None, There, Work}
use Rattle.solver.specs.Policy.{World, Solved, world_of}
use Rattle.cases.specs.Ports.{low_staithe, stuck_gate}
use Rattle.cases.specs.Ranks.{staithe_ranks, gate_ranks}
use Rattle.cases.specs.Tolls.{toll_model, toll_laws}

-- a port, a lawful cost model, entries and exact costs by request and condition, ranks by stage and condition
pub record Row : Type 0 where
  pub port : PortModel
  pub model : Model
  pub laws : Laws model
  pub entries : List Entry
  pub costs : List (List ℕ)
  pub ranks : List ℕ

-- the policy of Low Staithe, which is the same under each model
abbrev staithe_entries : List Entry
staithe_entries =
    Work 0 ∷ There ∷ Work 1 ∷ None ∷
    There ∷ Work 1 ∷ None ∷ None ∷
    []

-- where nothing is kept there is no plan
abbrev gate_entries : List Entry
gate_entries =
    None ∷ None ∷ None ∷ None ∷
    None ∷ None ∷ None ∷ None ∷
    []

-- costs of one column, and of two
abbrev one : ℕ → List ℕ
one a = a ∷ []

abbrev pub two : ℕ → ℕ → List ℕ
two a b = a ∷ b ∷ []

-- Low Staithe by minutes
abbrev pub staithe_minutes : Row
staithe_minutes = record {
  port = low_staithe;
  model = minutes_model;
  laws = minutes_laws;
  entries = staithe_entries;
  costs =
      two 16 2 ∷ two 0 0 ∷ two 10 1 ∷ two 0 0 ∷
      two 0 0 ∷ two 3 1 ∷ two 0 0 ∷ two 0 0 ∷
      [];
  ranks = staithe_ranks;
}

abbrev pub rows : List Row
rows =
    record {
      port = low_staithe;
      model = moves_model;
      laws = moves_laws;
      entries = staithe_entries;
      costs =
          one 2 ∷ one 0 ∷ one 1 ∷ one 0 ∷
          one 0 ∷ one 1 ∷ one 0 ∷ one 0 ∷
          [];
      ranks = staithe_ranks;
    } ∷
    staithe_minutes ∷
    record {
      port = low_staithe;
      model = toll_model;
      laws = toll_laws;
      entries = staithe_entries;
      costs =
          one 18 ∷ one 0 ∷ one 11 ∷ one 0 ∷
          one 0 ∷ one 4 ∷ one 0 ∷ one 0 ∷
          [];
      ranks = staithe_ranks;
    } ∷
    record {
      port = stuck_gate;
      model = moves_model;
      laws = moves_laws;
      entries = gate_entries;
      costs =
          one 0 ∷ one 0 ∷ one 0 ∷ one 0 ∷
          one 0 ∷ one 0 ∷ one 0 ∷ one 0 ∷
          [];
      ranks = gate_ranks;
    } ∷
    []

-- the world that a row tells
abbrev pub world : Row → World
world r = world_of (domain_of r.port) r.model (λ (cost : List ℕ). cost) r.entries r.costs r.ranks

abbrev pub PoliciesHold : Type 0
PoliciesHold = (r : Row) → In r rows → Solved (world r)
