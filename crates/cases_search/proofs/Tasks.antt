-- The rows of tasks, by one test.
use Rattle.std.proofs.Common.{◌≡◌, ℕ, ◌<◌, Bool, true, ◌&&◌, eqb, ◌↔◌, List, [], length, map, vec_items, slice_index_or, sym, refl, ◌∙◌, subst}
use Rattle.std.specs.Global.{Global}
use Rattle.std.proofs.Math.Logic.{∥∥₁_elim}
use Rattle.std.proofs.Props.{props}
use Rattle.std.proofs.lemmas.List.{get_or_default}
use Rattle.formula.specs.Truth.{read, truth}
use Rattle.port.specs.Model.{RequestModel}
use Rattle.plans.specs.Flags.{has, task_at, every}
use Rattle.plans.specs.Reach.{Attainable, each, attains}
use Rattle.plans.specs.Simulation.{Domain, Task as Asked, WellFormed}
use Rattle.plans.proofs.Decide.{attains_iff, alike as agree_iff}
use Rattle.rounds.specs.Rows.{Agree, truths}
use Rattle.rounds.specs.Tasks.{IsTask, IsDomainTask, DomainTasks, Fresh}
use Rattle.rounds.specs.declared.tasks.Task.{Task}
use Rattle.cases_plans.proofs.Kept.{formed_test, formed_decided}
use Rattle.cases_plans.proofs.Rows.{alike, right, all_say}
use Rattle.cases_plans.proofs.Tests.{both, equal}
use Rattle.cases_plans.proofs.Values.{alike_iff, same_list, list_tells, values_say}
use Rattle.cases_plans.proofs.Values as values
use Rattle.cases_search.specs.Held.{task_of}
use Rattle.cases_search.specs.Tasks.{computed, TasksComputedSay, marks, Claim, agree, is_task, tells, told, fresh, Means, rows, TasksSay}
use Rattle.cases_search.proofs.Combine.{every_iff}

all_told : values.told computed ≡ true
unfolding read truth
all_told = refl

pub tasks_computed_say : TasksComputedSay
tasks_computed_say = values_say computed all_told

abbrev agree_test : ℕ → (ℕ → Bool) → (ℕ → Bool) → Bool
agree_test n f g = every (λ c. alike (f c) (g c)) n

agree_decided : (n : ℕ) (f g : ℕ → Bool) → (agree_test n f g ≡ true) ↔ Agree n f g
agree_decided n f g = every_iff (λ c. alike (f c) (g c)) n (λ c l. alike_iff (f c) (g c))

-- four parts
four : {P Q R S : Type 0} (a b c d : Bool) → (a ≡ true) ↔ P → (b ≡ true) ↔ Q → (c ≡ true) ↔ R → (d ≡ true) ↔ S → ((a && (b && (c && d))) ≡ true) ↔ (P × (Q × (R × S)))
four a b c d p q r s = both a (b && (c && d)) p (both b (c && d) q (both c d r s))

module _ (n : ℕ) (conditions : List ℕ) (q : RequestModel) (t : Task) where
  abbrev pub is_task_test : Bool
  is_task_test =
      eqb t.from q.from && (eqb t.to q.to && (same_list alike (vec_items t.keep) (truths n conditions q.keep) && same_list alike (vec_items t.reach) (truths n conditions q.reach)))

  pub is_task_decided : (is_task_test ≡ true) ↔ IsTask n conditions q t
  is_task_decided = (
    λ e. let h = parts.0 e in record { from = h.0; to = h.1.0; keep = h.1.1.0; reach = h.1.1.1 },
    λ i. parts.1 (i.from, (i.to, (i.keep, i.reach))),
  )
    where
      parts : (is_task_test ≡ true) ↔ ((t.from ≡ q.from) × ((t.to ≡ q.to) × ((vec_items t.keep ≡ truths n conditions q.keep) × (vec_items t.reach ≡ truths n conditions q.reach))))
      parts =
          four (eqb t.from q.from) (eqb t.to q.to) (same_list alike (vec_items t.keep) (truths n conditions q.keep)) (same_list alike (vec_items t.reach) (truths n conditions q.reach))
          (equal t.from q.from) (equal t.to q.to) (list_tells alike alike_iff (vec_items t.keep) (truths n conditions q.keep))
          (list_tells alike alike_iff (vec_items t.reach) (truths n conditions q.reach))

abbrev rows_tell : ℕ → Asked → Task → Bool
rows_tell n q t =
    eqb (length (vec_items t.keep)) n && (eqb (length (vec_items t.reach)) n && (agree_test n (has (vec_items t.keep)) q.keep && agree_test n (has (vec_items t.reach)) q.reach))

abbrev tells_test : ℕ → Asked → Task → Bool
tells_test n q t = (eqb t.from q.from && eqb t.to q.to) && rows_tell n q t

tells_decided : (n : ℕ) (q : Asked) (t : Task) → (tells_test n q t ≡ true) ↔ IsDomainTask n q t
tells_decided n q t = (
  λ e. let h = parts.0 e in
      record { from = h.0.0; to = h.0.1; keep_long = h.1.0; reach_long = h.1.1.0; keep = h.1.1.1.0; reach = h.1.1.1.1 },
  λ i. parts.1 ((i.from, i.to), (i.keep_long, (i.reach_long, (i.keep, i.reach)))),
)
  where
    parts : (tells_test n q t ≡ true) ↔ (((t.from ≡ q.from) × (t.to ≡ q.to)) × ((length (vec_items t.keep) ≡ n) × ((length (vec_items t.reach) ≡ n) ×
        (Agree n (has (vec_items t.keep)) q.keep × Agree n (has (vec_items t.reach)) q.reach))))
    parts =
        both (eqb t.from q.from && eqb t.to q.to) (rows_tell n q t) (both (eqb t.from q.from) (eqb t.to q.to) (equal t.from q.from) (equal t.to q.to))
        (four (eqb (length (vec_items t.keep)) n) (eqb (length (vec_items t.reach)) n) (agree_test n (has (vec_items t.keep)) q.keep) (agree_test n (has (vec_items t.reach)) q.reach)
        (equal (length (vec_items t.keep)) n) (equal (length (vec_items t.reach)) n)
        (agree_decided n (has (vec_items t.keep)) q.keep) (agree_decided n (has (vec_items t.reach)) q.reach))

module _ (D : Domain) (tasks : List Task) (none : Task) where
  abbrev one_test : ℕ → Bool
  one_test i = tells_test D.conditions (task_at D i) (slice_index_or tasks i none)

  abbrev pub told_test : Bool
  told_test = eqb (length tasks) (length D.tasks) && every one_test (length D.tasks)

  pub told_decided : (told_test ≡ true) ↔ DomainTasks D tasks
  told_decided = (
    λ e.
        let h = parts.0 e in
        record {
          many = h.0;
          each = λ i d l. subst (IsDomainTask D.conditions (task_at D i)) (sym (get_or_default tasks i d none (subst (λ n. i < n) (sym h.0) l))) (h.1 i l);
        },
    λ t. parts.1 (t.many, λ i l. t.each i none l),
  )
    where
      parts : (told_test ≡ true) ↔ ((length tasks ≡ length D.tasks) × ((i : ℕ) → i < length D.tasks → IsDomainTask D.conditions (task_at D i) (slice_index_or tasks i none)))
      parts =
          both (eqb (length tasks) (length D.tasks)) (every one_test (length D.tasks)) (equal (length tasks) (length D.tasks))
          (every_iff one_test (length D.tasks) (λ i l. tells_decided D.conditions (task_at D i) (slice_index_or tasks i none)))

abbrev pub fresh_check : Domain → List Bool → Task → Bool
fresh_check D alive t =
    eqb (length (vec_items t.goal)) D.conditions
    && (eqb (length (vec_items t.served)) D.conditions
    && (agree_test D.conditions (has (vec_items t.goal)) (λ c. has (vec_items t.reach) c && has alive c)
    && every (λ c. alike (has (vec_items t.served) c) (attains D.conditions D.moves (has (vec_items t.keep)) (has (vec_items t.goal)) c)) D.conditions))

module _ (D : Domain) (wf : WellFormed D) (alive : List Bool) (t : Task) where
  abbrev aims : ℕ → Bool
  aims c = has (vec_items t.reach) c && has alive c

  abbrev plans : ℕ → Bool
  plans c = attains D.conditions D.moves (has (vec_items t.keep)) (has (vec_items t.goal)) c

  right_iff : (c : ℕ) → c < D.conditions → (alike (has (vec_items t.served) c) (plans c) ≡ true) ↔ ((has (vec_items t.served) c ≡ true) ↔ ∥ Attainable D.moves (has (vec_items t.keep)) (has (vec_items t.goal)) c ∥₁)
  right_iff c l =
      let plan = attains_iff D.conditions D.moves wf.within (has (vec_items t.keep)) (has (vec_items t.goal)) c l in
      let same = alike_iff (has (vec_items t.served) c) (plans c) in (
        λ e. (λ s. ∣ plan.0 (sym (same.0 e) ∙ s) ∣₁, λ p. same.0 e ∙ ∥∥₁_elim p (search props) plan.1),
        λ r. same.1 (agree_iff (has (vec_items t.served) c) (plans c) (λ s. ∥∥₁_elim (r.0 s) (search props) plan.1) (λ s. r.1 ∣ plan.0 s ∣₁)),
      )

  pub fresh_decided : (fresh_check D alive t ≡ true) ↔ Fresh D alive t
  fresh_decided =
      let parts =
      four (eqb (length (vec_items t.goal)) D.conditions) (eqb (length (vec_items t.served)) D.conditions) (agree_test D.conditions (has (vec_items t.goal)) aims)
      (every (λ c. alike (has (vec_items t.served) c) (plans c)) D.conditions)
      (equal (length (vec_items t.goal)) D.conditions) (equal (length (vec_items t.served)) D.conditions)
      (agree_decided D.conditions (has (vec_items t.goal)) aims)
      (every_iff (λ c. alike (has (vec_items t.served) c) (plans c)) D.conditions right_iff) in (
        λ e. let h = parts.0 e in record { goal_long = h.0; served_long = h.1.0; goal = h.1.1.0; served = h.1.1.1 },
        λ f. parts.1 (f.goal_long, (f.served_long, (f.goal, f.served))),
      )

-- ── the rows ──

module _ (heap : Global) where
  -- a task with no rows, which is read past the end
  abbrev none : Task
  none = task_of heap (record { from = 0; to = 0; keep = []; reach = []; goal = []; served = [] })

  abbrev decides : Claim → Bool
  decides (fresh D alive t) = formed_test D
  decides x = true

  abbrev test : Claim → Bool
  test (agree n f g) = agree_test n (has f) (has g)
  test (is_task q t) = is_task_test 2 marks q (task_of heap t)
  test (tells n q t) = tells_test n q (task_of heap t)
  test (told D ts) = told_test D (map (task_of heap) ts) none
  test (fresh D alive t) = fresh_check D alive (task_of heap t)

  decided : (x : Claim) → decides x ≡ true → (test x ≡ true) ↔ Means heap x
  decided (agree n f g) e = agree_decided n (has f) (has g)
  decided (is_task q t) e = is_task_decided 2 marks q (task_of heap t)
  decided (tells n q t) e = tells_decided n q (task_of heap t)
  decided (told D ts) e = told_decided D (map (task_of heap) ts) none
  decided (fresh D alive t) e = fresh_decided D ((formed_decided D).0 e) alive (task_of heap t)

  all_right : each (right decides test) rows ≡ true
  unfolding read truth
  all_right = refl

pub tasks_say : TasksSay
tasks_say heap = all_say (Means heap) (decides heap) (test heap) (decided heap) rows (all_right heap)
