-- A port's model is valid, and the domain that it tells is well formed.
use Rattle.std.proofs.Common.{◌≡◌, ℕ, ◌<◌, map, length, vec_items, sym, subst, arith}
use lib.ListN.{length-map}
use Rattle.port.specs.Limits.{In, MovesExist, TextOk, no_move}
use Rattle.port.specs.Model.{Model, RequestModel, request_model, model_of}
use Rattle.port.specs.Valid.{Valid}
use Rattle.port.specs.declared.Move.{Move}
use Rattle.port.specs.declared.held.Port.{Port}
use Rattle.plans.specs.Simulation.{Task, WellFormed}
use Rattle.plans.specs.Domains.{task_of, domain_of}
use Rattle.plans.proofs.Index.{at_all, of_map}

pub port_valid : (p : Port) → Valid (model_of p)
port_valid p = record {
  marks_some = p.marks_some;
  marks_few = p.marks_few;
  operations_some = p.operations_some;
  operations_few = p.operations_few;
  stages_some = p.stages_some;
  stages_few = p.stages_few;
  stage = p.start_stage;
  start = omega (arith, p.conditions.ok.0, p.start_condition);
  conditions_few = omega (arith, p.conditions.ok.0, p.conditions_few);
  conditions_marked = p.conditions_marked;
  conditions_rise = p.conditions_rise;
  moves_few = omega (arith, p.moves.ok.0, p.moves_few);
  moves_exist = subst (λ (n : ℕ). MovesExist n p.header.operations (vec_items p.moves)) p.conditions.ok.0 p.moves_exist;
  moves_rise = p.moves_rise;
  requests_few = omega (arith, p.requests.ok.0, p.requests_few, length-map (vec_items p.requests) request_model);
  requests_staged = staged;
  requests_worded = worded;
}
  where
    staged : (q : RequestModel) → In q (map request_model (vec_items p.requests)) → (q.from < p.header.stages) × (q.to < p.header.stages)
    staged q i =
        let t = of_map request_model q (vec_items p.requests) i in
        subst (λ (r : RequestModel). (r.from < p.header.stages) × (r.to < p.header.stages)) (sym t.2) (p.requests_staged t.0 t.1)

    worded : (q : RequestModel) → In q (map request_model (vec_items p.requests)) → TextOk p.header.marks q.keep × TextOk p.header.marks q.reach
    worded q i =
        let t = of_map request_model q (vec_items p.requests) i in
        let a = t.0 in
        subst (λ (r : RequestModel). TextOk p.header.marks r.keep × TextOk p.header.marks r.reach) (sym t.2) (
          (
            omega (arith, a.keep.bytes.ok.0, a.keep.some),
            omega (arith, a.keep.bytes.ok.0, a.keep.few),
            p.keeps_worded a t.1,
          ),
          (
            omega (arith, a.reach.bytes.ok.0, a.reach.some),
            omega (arith, a.reach.bytes.ok.0, a.reach.few),
            p.reaches_worded a t.1,
          ),
        )

pub domain_formed : (m : Model) → Valid m → WellFormed (domain_of m)
domain_formed m v = record { within = within; staged = staged }
  where
    within : (a : Move) → In a m.moves → (a.condition < length m.conditions) × (a.outcome < length m.conditions)
    within = at_all (λ (a : Move). (a.condition < length m.conditions) × (a.outcome < length m.conditions)) m.moves no_move
        (λ i l. let t = v.moves_exist i l in (t.0, t.2))

    staged : (q : Task) → In q (map (task_of m) m.requests) → (q.from < m.header.stages) × (q.to < m.header.stages)
    staged q i =
        let t = of_map (task_of m) q m.requests i in
        subst (λ (r : Task). (r.from < m.header.stages) × (r.to < m.header.stages)) (sym t.2) (v.requests_staged t.0 t.1)

pub port_formed : (p : Port) → WellFormed (domain_of (model_of p))
port_formed p = domain_formed (model_of p) (port_valid p)

pub tasks_length : (m : Model) → length (domain_of m).tasks ≡ length m.requests
tasks_length m = length-map m.requests (task_of m)
