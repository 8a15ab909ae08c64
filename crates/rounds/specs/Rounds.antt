-- What the rounds over pairs work with. D is the planning domain of the port in hand.
use Rattle.std.specs.Prelude.{◌≡◌, ℕ, ◌+◌, ◌*◌, ◌<◌, ◌≤◌, Bool, true, false, ◌&&◌, List, [], ◌∷◌, length, vec_items, slice_index_or}
use Rattle.port.specs.Model.{model_of}
use Rattle.plans.specs.Domains.{domain_of}
use Rattle.plans.specs.Simulation.{Domain, InRange, Kept, Rank}
use Rattle.plans.specs.Reach.{aim, left_after, reached}
use Rattle.plans.specs.Flags.{all_served, bit, raised, task_at}
use Rattle.index.specs.Indexed.{port_of}
use Rattle.index.specs.declared.MoveIndex.{MoveIndex}
use Rattle.rounds.specs.Stages.{left_in, next_in, rank_in}
use Rattle.rounds.specs.Tasks.{DomainTasks, Fresh}
use Rattle.rounds.specs.declared.tasks.Task.{Task}
use Rattle.rounds.specs.declared.stages.Stage.{Stage}

-- The planning domain of an indexed port.
abbrev pub domain_in : MoveIndex → Domain
domain_in index = domain_of (model_of (port_of index))

-- Task i can be served from condition c, with the pairs of R to end in.
abbrev pub serving : Domain → (ℕ → ℕ → Bool) → ℕ → ℕ → Bool
serving D R i c = reached D (task_at D i).keep (aim R (task_at D i)) c

-- A stage's rows have a flag or a number for each of n conditions.
pub record Wide (n : ℕ) (s : Stage) : Type 0 where
  pub alive : length (vec_items s.alive) ≡ n
  pub next : length (vec_items s.next) ≡ n
  pub ranks : length (vec_items s.ranks) ≡ n

-- The rows of the tasks before i are up to date with the pairs that are left, and those from i on whose to-stage lost nothing.
abbrev pub FreshFrom : Domain → List Task → List Stage → ℕ → Type 0
FreshFrom D tasks stages i =
    (j : ℕ) (d : Task) (e : Stage) → j < length D.tasks → (i ≤ j → (slice_index_or stages (task_at D j).to e).lost ≡ false) →
    Fresh D (vec_items (slice_index_or stages (task_at D j).to e).alive) (slice_index_or tasks j d)

-- A round may begin: the tasks and stages are those of the domain, each stage's next set begins as what is left, and a task's rows
-- are out of date only where its to-stage lost a pair.
pub record RoundReady (D : Domain) (tasks : List Task) (stages : List Stage) : Type 0 where
  pub told : DomainTasks D tasks
  pub high : length stages ≡ D.stages
  pub wide : (s : ℕ) (d : Stage) → s < D.stages → Wide D.conditions (slice_index_or stages s d)
  pub level : (s : ℕ) (d : Stage) → s < D.stages → vec_items (slice_index_or stages s d).next ≡ vec_items (slice_index_or stages s d).alive
  pub fresh : FreshFrom D tasks stages 0

-- A stage but for what the round leaves of it.
pub record SameLeft (before after : Stage) : Type 0 where
  pub alive : after.alive ≡ before.alive
  pub ranks : after.ranks ≡ before.ranks
  pub lost : after.lost ≡ before.lost

-- The first i tasks have had their turn in the round: their rows are up to date with the pairs that were left before it, and what they
-- do not serve with these to end in is taken out of the next set.
pub record Turned (D : Domain) (before : List Stage) (tasks : List Task) (stages : List Stage) (i : ℕ) : Type 0 where
  pub told : DomainTasks D tasks
  pub high : length stages ≡ D.stages
  pub same : (s : ℕ) (d : Stage) → s < D.stages → SameLeft (slice_index_or before s d) (slice_index_or stages s d)
  pub wide : (s : ℕ) (d : Stage) → s < D.stages → Wide D.conditions (slice_index_or stages s d)
  pub fresh : FreshFrom D tasks before i
  pub left : (s c : ℕ) → InRange D s c → next_in stages s c ≡ (left_in before s c && all_served D (serving D (left_in before)) i s c)

-- After some rounds, the last of which took a pair out or didn't: the pairs that are left, the ranks of all, and, once a round took none
-- out, that what is left is kept. Of a rank and of what is kept it says that there is a proof (∥ .. ∥₁), not which.
pub record Judged (D : Domain) (alive : ℕ → ℕ → Bool) (rank : ℕ → ℕ → ℕ) (rounds : ℕ) (changed : Bool) : Type 0 where
  pub alike : (s c : ℕ) → InRange D s c → alive s c ≡ left_after D rounds s c
  pub ranked : (s c : ℕ) → InRange D s c → alive s c ≡ false → ∥ Rank D s c (rank s c) ∥₁
  pub zeros : (s c : ℕ) → InRange D s c → alive s c ≡ true → rank s c ≡ 0
  pub lasts : changed ≡ false → (s c : ℕ) → InRange D s c → alive s c ≡ true → ∥ Kept D s c ∥₁

-- How many pairs are left.
abbrev pub count_left : List Stage → ℕ
count_left [] = 0
count_left (s ∷ stages) = raised (vec_items s.alive) + count_left stages

-- Between two rounds, after so many of them.
pub record Going (D : Domain) (tasks : List Task) (stages : List Stage) (rounds : ℕ) (changed : Bool) : Type 0 where
  pub ready : RoundReady D tasks stages
  pub judged : Judged D (left_in stages) (rank_in stages) rounds changed
  -- each round but the last takes a pair out
  pub few : rounds + count_left stages + bit changed ≤ D.stages * D.conditions + 1
  pub still : changed ≡ false → (s : ℕ) (d : Stage) → s < D.stages → (slice_index_or stages s d).lost ≡ false
