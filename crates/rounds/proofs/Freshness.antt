-- The tasks of a port tell those of its domain, and rows that are up to date say from where each can be served.
use Rattle.std.proofs.Common.{◌≡◌, ℕ, ◌<◌, Bool, true, false, ◌&&◌, ◌↔◌, List, map, length, get_or, vec_items, sym, refl, ap, ◌∙◌, subst, ap₂, arith}
use mathlib.Core.Bool.{false≢true}
use Rattle.std.proofs.Math.Logic.{∥∥₁_elim}
use Rattle.std.proofs.Props.{props}
use Rattle.std.proofs.lemmas.List.{get_or-map, length-map}
use Rattle.std.proofs.lemmas.Slice.Zip.{AllZip-long}
use Rattle.formula.specs.Truth.{truth}
use Rattle.port.specs.Model.{Model, RequestModel, model_of, request_model}
use Rattle.port.specs.declared.Move.{Move}
use Rattle.port.specs.declared.Request.{Request}
use Rattle.port.specs.declared.held.Port.{Port}
use Rattle.plans.specs.Domains.{domain_of, task_of}
use Rattle.plans.specs.Plans.{stop, work}
use Rattle.plans.specs.Simulation.{Domain, Task as Asked, WellFormed}
use Rattle.plans.specs.Reach.{Attainable, aim, reached}
use Rattle.plans.specs.Flags.{has, task_at, no_task}
use Rattle.plans.proofs.Attain.{stop_attains, attainable_wider}
use Rattle.plans.proofs.Decide.{alike, reached_attains}
use Rattle.plans.proofs.Formed.{tasks_length}
use Rattle.plans.proofs.Index.{in_at}
use Rattle.costs.specs.Costs.{Model as Costing}
use Rattle.search.specs.Answers.{Answers, RightChoice}
use Rattle.search.specs.declared.Choice.{Choice}
use Rattle.search.specs.declared.Choice.TheVariants.{None, There, Work}
use Rattle.rounds.specs.Rounds.{serving}
use Rattle.rounds.specs.Tasks.{DomainTasks, Fresh, IsDomainTask, IsTask, SameTexts, TasksOf, planned}
use Rattle.rounds.specs.declared.tasks.Task.{Task}
use Rattle.rounds.proofs.Lists.{all_zip_at, an_element}

-- a choice has a plan exactly where some plan attains the goal
pub planned_iff : {A : Type 0} (k : Costing) (e : A → List ℕ) (moves : List Move) (keep goal : ℕ → Bool) (c : ℕ) (x : Choice A) →
    RightChoice k e moves keep goal c x → (planned x ≡ true) ↔ Attainable moves keep goal c
planned_iff k e moves keep goal c None a = (λ t. absurd (false≢true t), λ p. absurd (a p.0 p.1))
planned_iff k e moves keep goal c There a = (λ t. (stop, stop_attains moves keep goal c a), λ p. refl)
planned_iff k e moves keep goal c (Work o x) a = (λ t. (work o a.1.next, a.1.prices.0), λ p. refl)

-- the stages of a task exist
pub task_staged : (D : Domain) → WellFormed D → (i : ℕ) → i < length D.tasks → ((task_at D i).from < D.stages) × ((task_at D i).to < D.stages)
task_staged D wf i l = wf.staged (task_at D i) (in_at D.tasks i no_task l)

-- ── rows that are up to date ──

-- the rows that a search leaves
pub searched : {A : Type 0} (k : Costing) (e : A → List ℕ) (D : Domain) (alive : List Bool) (choices : List (Choice A)) (t : Task) →
    length (vec_items t.goal) ≡ D.conditions → ((c : ℕ) → has (vec_items t.goal) c ≡ (has (vec_items t.reach) c && has alive c)) →
    Answers D.conditions k e D.moves (vec_items t.keep) (vec_items t.goal) choices → vec_items t.served ≡ map planned choices → Fresh D alive t
searched k e D alive choices t long goal a served = record {
  goal_long = long;
  served_long = ap length served ∙ length-map choices planned ∙ a.sized;
  goal = λ c l. goal c;
  served = λ c l.
      let here : has (vec_items t.served) c ≡ planned (get_or choices c None) =
      ap (λ fs. has fs c) served ∙ get_or-map planned choices c None false (omega (arith, a.sized)) in
      let iff = planned_iff k e D.moves (has (vec_items t.keep)) (has (vec_items t.goal)) c (get_or choices c None) (a.each c l) in
      (λ b. ∣ iff.0 (sym here ∙ b) ∣₁, λ p. here ∙ ∥∥₁_elim p (search props) iff.1);
}

-- rows that are up to date with a set's pairs say from where the task can be served with these to end in
pub fresh_serving : (D : Domain) → WellFormed D → (R : ℕ → ℕ → Bool) (i : ℕ) (alive : List Bool) (t : Task) → IsDomainTask D.conditions (task_at D i) t →
    Fresh D alive t → ((c : ℕ) → has alive c ≡ R (task_at D i).to c) →
    (c : ℕ) → c < D.conditions → has (vec_items t.served) c ≡ serving D R i c
fresh_serving D wf R i alive t told f same c l =
    let iff = reached_attains D wf (task_at D i).keep (aim R (task_at D i)) c l in
    alike (has (vec_items t.served) c) (reached D (task_at D i).keep (aim R (task_at D i)) c)
    (λ b. ∥∥₁_elim ((f.served c l).0 b) (search props) (λ p.
    iff.1 (attainable_wider D.conditions D.moves wf.within (has (vec_items t.keep)) (has (vec_items t.goal)) (task_at D i).keep (aim R (task_at D i))
    (λ y h e. sym (told.keep y h) ∙ e) (λ y h e. sym (goals y h) ∙ e) c l p)))
    (λ b. (f.served c l).1 ∣ attainable_wider D.conditions D.moves wf.within (task_at D i).keep (aim R (task_at D i)) (has (vec_items t.keep)) (has (vec_items t.goal))
    (λ y h e. told.keep y h ∙ e) (λ y h e. goals y h ∙ e) c l (iff.0 b) ∣₁)
  where
    goals : (y : ℕ) → y < D.conditions → has (vec_items t.goal) y ≡ aim R (task_at D i) y
    goals y h = f.goal y h ∙ ap₂ ◌&&◌ (told.reach y h) (same y)

-- what was made with the same texts tells the same
pub tells_same : (n : ℕ) (q : Asked) (t u : Task) → SameTexts t u → IsDomainTask n q t → IsDomainTask n q u
tells_same n q t u s h = record {
  from = s.from ∙ h.from;
  to = s.to ∙ h.to;
  keep_long = ap (λ v. length (vec_items v)) s.keep ∙ h.keep_long;
  reach_long = ap (λ v. length (vec_items v)) s.reach ∙ h.reach_long;
  keep = λ c l. ap (λ v. has (vec_items v) c) s.keep ∙ h.keep c l;
  reach = λ c l. ap (λ v. has (vec_items v) c) s.reach ∙ h.reach c l;
}

-- ── the tasks of a port ──

tells : (m : Model) (q : RequestModel) (t : Task) → IsTask m.header.marks m.conditions q t → IsDomainTask (length m.conditions) (task_of m q) t
tells m q t h = record {
  from = h.from;
  to = h.to;
  keep_long = ap length h.keep ∙ length-map m.conditions (λ x. truth m.header.marks x q.keep);
  reach_long = ap length h.reach ∙ length-map m.conditions (λ x. truth m.header.marks x q.reach);
  keep = λ c l. ap (λ fs. has fs c) h.keep ∙ get_or-map (λ x. truth m.header.marks x q.keep) m.conditions c 0 false l;
  reach = λ c l. ap (λ fs. has fs c) h.reach ∙ get_or-map (λ x. truth m.header.marks x q.reach) m.conditions c 0 false l;
}

pub tasks_told : (p : Port) (tasks : List Task) → TasksOf p tasks → DomainTasks (domain_of (model_of p)) tasks
tasks_told p tasks h = record { many = AllZip-long (λ (q : Request) (t : Task). IsTask p.header.marks (vec_items p.conditions) (request_model q) t) (vec_items p.requests) tasks h ∙ sym many; each = each }
  where
    many : length (domain_of (model_of p)).tasks ≡ length (vec_items p.requests)
    many = tasks_length (model_of p) ∙ length-map (vec_items p.requests) request_model

    each : (i : ℕ) (d : Task) → i < length (domain_of (model_of p)).tasks → IsDomainTask (length (vec_items p.conditions)) (task_at (domain_of (model_of p)) i) (get_or tasks i d)
    each i d l =
        let lr : i < length (vec_items p.requests) = omega (arith, many) in
        let r : Request = an_element (vec_items p.requests) i lr in
        let q : Request = get_or (vec_items p.requests) i r in
        let here : get_or (map request_model (vec_items p.requests)) i (request_model r) ≡ request_model q =
        get_or-map request_model (vec_items p.requests) i r (request_model r) lr in
        let is : task_at (domain_of (model_of p)) i ≡ task_of (model_of p) (request_model q) =
        get_or-map (task_of (model_of p)) (map request_model (vec_items p.requests)) i (request_model r) no_task (omega (arith, length-map (vec_items p.requests) request_model))
        ∙ ap (task_of (model_of p)) here in
        subst (λ (a : Asked). IsDomainTask (length (vec_items p.conditions)) a (get_or tasks i d)) (sym is)
        (tells (model_of p) (request_model q) (get_or tasks i d)
        (all_zip_at (λ (b : Request) (t : Task). IsTask p.header.marks (vec_items p.conditions) (request_model b) t) (vec_items p.requests) tasks h i r d lr))
