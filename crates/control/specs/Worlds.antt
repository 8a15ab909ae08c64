-- A port with its policy, as a controller is handed them.
use Rattle.std.specs.Prelude.{ℕ, not, List, ◌∷◌, Option}
use Rattle.port.specs.Model.{model_of}
use Rattle.port.specs.declared.held.Port.{Port}
use Rattle.plans.specs.Domains.{domain_of}
use Rattle.costs.specs.Costs.{Model}
use Rattle.solver.specs.Policy.{World, world_of}
use Rattle.solver.specs.Solving.{enough}
use Rattle.locks.specs.Places.{place_of}
use Rattle.histories.specs.Calls.{Rule, rule, open_rules}
use Rattle.histories.specs.Refusals.{short}
use Rattle.control.specs.declared.policy.Policy.{Policy}
use Rattle.control.specs.declared.terms.Terms.{Terms}

-- The world that a port and a policy tell.
abbrev pub world : {K : Type 0} → Model → (K → List ℕ) → Port → Policy K → World
world k e p t = world_of (domain_of (model_of p)) k e t.entries.now t.costs.now t.ranks.now

-- The world that a controller's terms tell.
abbrev pub terms_world : {X K : Type 0} → Model → (K → List ℕ) → Terms X K → World
terms_world k e t = world k e t.port.now t.policy

-- The condition of the port with these marks, where there is one.
abbrev pub place_in : Port → ℕ → Option ℕ
place_in p m = place_of (model_of p).conditions m

-- The refusals of an opening over a lock with the marks m, in their order: a table is too short for the port, then those of the start
-- stage.
abbrev pub opening_rules : {K : Type 0} → Model → (K → List ℕ) → Port → Policy K → ℕ → List Rule
opening_rules k e p t m =
    rule short (not (enough (domain_of (model_of p)) t.entries.now t.costs.now t.ranks.now))
    ∷ open_rules (world k e p t) (model_of p).header.stage (place_in p m)
