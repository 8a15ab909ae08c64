-- What is read from lists of flags, numbers and tasks.
use Rattle.std.specs.Prelude.{ℕ, zero, suc, ◌+◌, ◌*◌, Bool, true, false, not, ◌&&◌, ◌||◌, List, [], ◌∷◌, ◌==◌, slice_index, slice_index_or}
use Rattle.plans.specs.Simulation.{Domain, Task}

-- The set that a row of flags stands for.
abbrev pub has : List Bool → ℕ → Bool
has flags c = slice_index_or flags c false

-- The number noted for a pair, in rows of n.
abbrev pub rank_at : ℕ → List ℕ → ℕ → ℕ → ℕ
rank_at n ranks s c = slice_index ranks (s * n + c)

-- A flag as a number: 1 where it is true, else 0.
abbrev pub bit : Bool → ℕ
bit true = 1
bit false = 0

-- How many flags are true.
abbrev pub raised : List Bool → ℕ
raised [] = 0
raised (true ∷ flags) = suc (raised flags)
raised (false ∷ flags) = raised flags

-- Each number below m passes the test.
abbrev pub every : (ℕ → Bool) → ℕ → Bool
every p zero = true
every p (suc m) = every p m && p m

-- What is read past the end of a list of tasks, and the task at a place.
abbrev pub no_task : Task
no_task = record { from = 0; to = 0; keep = λ c. false; reach = λ c. false }

abbrev pub task_at : Domain → ℕ → Task
task_at D i = slice_index_or D.tasks i no_task

-- Of the first m tasks, each that begins at stage s has condition c in its row.
abbrev pub all_served : Domain → (ℕ → ℕ → Bool) → ℕ → ℕ → ℕ → Bool
all_served D served m s c = every (λ i. not ((task_at D i).from == s) || served i c) m
