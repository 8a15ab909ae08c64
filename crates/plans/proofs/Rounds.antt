-- A round over all pairs, by rows of what each task reaches.
use Rattle.std.proofs.Common.{◌≡◌, ℕ, ◌<◌, Bool, true, not, ◌||◌, eqb, length, sym, ap, ◌∙◌}
use Rattle.plans.specs.Simulation.{Domain, Task}
use Rattle.plans.specs.Reach.{each, reached, aim, serves}
use Rattle.plans.specs.Flags.{every, no_task, task_at, all_served}
use Rattle.plans.proofs.Decide.{alike, each_in, in_each}
use Rattle.plans.proofs.Index.{in_at, at_all}
use Rattle.plans.proofs.Flags.{every_at, at_every}

-- Rows of what each task reaches say which pairs are served.
pub served_rows : (D : Domain) (R served : ℕ → ℕ → Bool) →
    ((i c : ℕ) → i < length D.tasks → c < D.conditions → served i c ≡ reached D (task_at D i).keep (aim R (task_at D i)) c) →
    (s c : ℕ) → c < D.conditions → all_served D served (length D.tasks) s c ≡ serves D R s c
served_rows D R served rows s c l =
    alike (every row (length D.tasks)) (each test D.tasks)
    (λ e. in_each test D.tasks
    (at_all (λ (q : Task). test q ≡ true) D.tasks no_task (λ i h. sym (turn i h) ∙ every_at row (length D.tasks) e i h)))
    (λ e. at_every row (length D.tasks) (λ i h. turn i h ∙ each_in test D.tasks e (task_at D i) (in_at D.tasks i no_task h)))
  where
    row : ℕ → Bool
    row i = not (eqb (task_at D i).from s) || served i c

    test : Task → Bool
    test q = not (eqb q.from s) || reached D q.keep (aim R q) c

    turn : (i : ℕ) → i < length D.tasks → row i ≡ test (task_at D i)
    turn i h = ap (λ (b : Bool). not (eqb (task_at D i).from s) || b) (rows i c h l)
