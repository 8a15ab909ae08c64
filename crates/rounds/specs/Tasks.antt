-- What a task of the rounds holds, for a request of a port and for a task of its domain.
use Rattle.std.specs.Prelude.{◌≡◌, ℕ, ◌<◌, Bool, true, false, ◌&&◌, ◌↔◌, List, length, vec_items, slice_index_or}
use Rattle.std.specs.List.{AllZip}
use Rattle.port.specs.Model.{RequestModel, request_model}
use Rattle.port.specs.declared.Request.{Request}
use Rattle.port.specs.declared.held.Port.{Port}
use Rattle.plans.specs.Simulation.{Domain, Task as Asked}
use Rattle.plans.specs.Reach.{Attainable}
use Rattle.plans.specs.Flags.{has, task_at}
use Rattle.search.specs.declared.Choice.{Choice}
use Rattle.search.specs.declared.Choice.TheVariants.{None, There, Work}
use Rattle.rounds.specs.Rows.{Agree, truths}
use Rattle.rounds.specs.declared.tasks.Task.{Task}

-- The choice has a plan.
abbrev pub planned : {K : Type 0} → Choice K → Bool
planned None = false
planned There = true
planned (Work o k) = true

-- The task has the stages of a request, and rows for where its two texts hold.
pub record IsTask (marks : ℕ) (conditions : List ℕ) (q : RequestModel) (t : Task) : Type 0 where
  pub from : t.from ≡ q.from
  pub to : t.to ≡ q.to
  pub keep : vec_items t.keep ≡ truths marks conditions q.keep
  pub reach : vec_items t.reach ≡ truths marks conditions q.reach

-- A task for each request of the port.
abbrev pub TasksOf : Port → List Task → Type 0
TasksOf p tasks =
    AllZip (λ (q : Request) (t : Task). IsTask p.header.marks (vec_items p.conditions) (request_model q) t) (vec_items p.requests) tasks

-- The task has the stages of q, a task of a domain of n conditions, and rows for where its keep and its reach hold.
pub record IsDomainTask (n : ℕ) (q : Asked) (t : Task) : Type 0 where
  pub from : t.from ≡ q.from
  pub to : t.to ≡ q.to
  pub keep_long : length (vec_items t.keep) ≡ n
  pub reach_long : length (vec_items t.reach) ≡ n
  pub keep : Agree n (has (vec_items t.keep)) q.keep
  pub reach : Agree n (has (vec_items t.reach)) q.reach

-- The tasks tell those of the domain, each the one at its place.
pub record DomainTasks (D : Domain) (tasks : List Task) : Type 0 where
  pub many : length tasks ≡ length D.tasks
  pub each : (i : ℕ) (d : Task) → i < length D.tasks → IsDomainTask D.conditions (task_at D i) (slice_index_or tasks i d)

-- What a task was made with stays.
pub record SameTexts (before after : Task) : Type 0 where
  pub from : after.from ≡ before.from
  pub to : after.to ≡ before.to
  pub keep : after.keep ≡ before.keep
  pub reach : after.reach ≡ before.reach

-- The task's rows are up to date with the pairs `alive` of its to-stage: it may end where its reach holds and the pair is left, and it
-- can be served from where there is a plan that attains that (∥ .. ∥₁), whichever it is.
pub record Fresh (D : Domain) (alive : List Bool) (t : Task) : Type 0 where
  pub goal_long : length (vec_items t.goal) ≡ D.conditions
  pub served_long : length (vec_items t.served) ≡ D.conditions
  pub goal : Agree D.conditions (has (vec_items t.goal)) (λ c. has (vec_items t.reach) c && has alive c)
  pub served : (c : ℕ) → c < D.conditions → (has (vec_items t.served) c ≡ true) ↔ ∥ Attainable D.moves (has (vec_items t.keep)) (has (vec_items t.goal)) c ∥₁
