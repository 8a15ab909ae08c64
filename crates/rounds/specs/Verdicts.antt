-- What a verdict tells of a planning domain.
use Rattle.std.specs.Prelude.{◌≡◌, ℕ, ◌*◌, ◌<◌, true, ◌↔◌, List, length, vec_items, slice_index_or}
use Rattle.plans.specs.Simulation.{Domain, InRange, Kept, Rank}
use Rattle.plans.specs.Flags.{has, rank_at, task_at}
use Rattle.rounds.specs.declared.tasks.Task.{Task}

-- A row for each task of the domain: the conditions in which it may be worked, those where its keep holds.
pub record KeepRows (D : Domain) (tasks : List Task) : Type 0 where
  pub many : length tasks ≡ length D.tasks
  pub long : (i : ℕ) (d : Task) → i < length D.tasks → length (vec_items (slice_index_or tasks i d).keep) ≡ D.conditions
  pub each : (i c : ℕ) (d : Task) → i < length D.tasks → c < D.conditions → has (vec_items (slice_index_or tasks i d).keep) c ≡ (task_at D i).keep c

-- A row for each task of the domain: the conditions in which it may end, those where its reach holds and whose pair with its to-stage is kept.
pub record GoalRows (D : Domain) (tasks : List Task) : Type 0 where
  pub many : length tasks ≡ length D.tasks
  pub long : (i : ℕ) (d : Task) → i < length D.tasks → length (vec_items (slice_index_or tasks i d).goal) ≡ D.conditions
  pub each : (i c : ℕ) (d : Task) → i < length D.tasks → c < D.conditions →
      (has (vec_items (slice_index_or tasks i d).goal) c ≡ true) ↔ (((task_at D i).reach c ≡ true) × Kept D (task_at D i).to c)

-- A row for each stage: the ranks of its pairs.
pub record RankRows (D : Domain) (ranks : List ℕ) : Type 0 where
  pub long : length ranks ≡ D.stages * D.conditions
  pub each : (s c : ℕ) → InRange D s c → Rank D s c (rank_at D.conditions ranks s c)

-- The tasks and the ranks of a verdict are right for the domain.
pub record Judges (D : Domain) (tasks : List Task) (ranks : List ℕ) : Type 0 where
  pub works : KeepRows D tasks
  pub ends : GoalRows D tasks
  pub ranked : RankRows D ranks
