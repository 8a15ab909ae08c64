-- The rows of verdicts, by one test.
use Rattle.std.proofs.Common.{◌≡◌, ℕ, ◌*◌, ◌<◌, Bool, true, ◌&&◌, eqb, ◌↔◌, List, [], length, map, vec_items, slice_index_or, sym, refl, ap, ◌∙◌, subst, eqb-true, eq-eqb}
use mathlib.Core.Bool.{and-eq-true_iff}
use Rattle.std.specs.Global.{Global}
use Rattle.std.proofs.lemmas.List.{get_or_default}
use Rattle.plans.specs.Flags.{has, rank_at, task_at, every}
use Rattle.plans.specs.Reach.{each}
use Rattle.plans.specs.Simulation.{Domain, WellFormed, Kept}
use Rattle.plans.proofs.Decide.{alike as agree}
use Rattle.plans.proofs.Flags.{every_at, at_every}
use Rattle.rounds.specs.declared.tasks.Task.{Task}
use Rattle.rounds.specs.Verdicts.{KeepRows, GoalRows, RankRows}
use Rattle.cases_plans.proofs.Kept.{formed_test, formed_decided, pairwise, pairwise_iff, kept_test, kept_decided, rank_test, rank_decided}
use Rattle.cases_plans.proofs.Rows.{alike, right, all_say}
use Rattle.cases_plans.proofs.Tests.{both}
use Rattle.cases_plans.proofs.Values.{alike_iff}
use Rattle.cases_search.specs.Held.{task_of}
use Rattle.cases_search.specs.Verdicts.{Claim, keep_rows, goal_rows, rank_rows, judges, Means, rows, VerdictsSay}

-- ── a row for each task, which passes for each condition ──

module _ (D : Domain) (tasks : List Task) (none : Task) (part : Task → List Bool) (passes : ℕ → ℕ → Bool → Bool) where
  abbrev at_task : ℕ → Task
  at_task i = slice_index_or tasks i none

  abbrev task_test : ℕ → Bool
  task_test i = eqb (length (part (at_task i))) D.conditions && every (λ c. passes i c (has (part (at_task i)) c)) D.conditions

  abbrev pub rows_test : Bool
  rows_test = eqb (length tasks) (length D.tasks) && every task_test (length D.tasks)

  abbrev AllRows : Type 0
  AllRows =
      (length tasks ≡ length D.tasks)
      × ((i : ℕ) (d : Task) → i < length D.tasks → length (part (slice_index_or tasks i d)) ≡ D.conditions)
      × ((i c : ℕ) (d : Task) → i < length D.tasks → c < D.conditions → passes i c (has (part (slice_index_or tasks i d)) c) ≡ true)

  pub rows_iff : (rows_test ≡ true) ↔ AllRows
  rows_iff = (λ e. forth ((and-eq-true_iff (eqb (length tasks) (length D.tasks)) (every task_test (length D.tasks))).0 e), back)
    where
      flags : ℕ → ℕ → Bool
      flags i c = passes i c (has (part (at_task i)) c)

      forth : (eqb (length tasks) (length D.tasks) ≡ true) × (every task_test (length D.tasks) ≡ true) → AllRows
      forth h =
          let many = eqb-true (length tasks) (length D.tasks) h.0 in
          let parts = λ (i : ℕ) (l : i < length D.tasks).
          (and-eq-true_iff (eqb (length (part (at_task i))) D.conditions) (every (λ c. flags i c) D.conditions)).0 (every_at task_test (length D.tasks) h.1 i l) in
          let same = λ (i : ℕ) (d : Task) (l : i < length D.tasks). get_or_default tasks i d none (subst (λ n. i < n) (sym many) l) in (
            many,
            λ i d l. ap (λ t. length (part t)) (same i d l) ∙ eqb-true (length (part (at_task i))) D.conditions (parts i l).0,
            λ i c d l m. ap (λ t. passes i c (has (part t) c)) (same i d l) ∙ every_at (λ c. flags i c) D.conditions (parts i l).1 c m,
          )

      back : AllRows → rows_test ≡ true
      back h =
          (and-eq-true_iff (eqb (length tasks) (length D.tasks)) (every task_test (length D.tasks))).1 (
            eq-eqb (length tasks) (length D.tasks) h.0,
            at_every task_test (length D.tasks) (λ i l. (and-eq-true_iff (eqb (length (part (at_task i))) D.conditions) (every (λ c. flags i c) D.conditions)).1 (
              eq-eqb (length (part (at_task i))) D.conditions (h.1 i none l),
              at_every (λ c. flags i c) D.conditions (λ c m. h.2 i c none l m),
            )),
          )

abbrev keep_part : Task → List Bool
keep_part t = vec_items t.keep

abbrev goal_part : Task → List Bool
goal_part t = vec_items t.goal

module _ (D : Domain) (tasks : List Task) (none : Task) where
  abbrev keeps : ℕ → ℕ → Bool → Bool
  keeps i c b = alike b ((task_at D i).keep c)

  abbrev goals : ℕ → ℕ → Bool → Bool
  goals i c b = alike b ((task_at D i).reach c && kept_test D (task_at D i).to c)

  abbrev pub keep_test : Bool
  keep_test = rows_test D tasks none keep_part keeps

  abbrev pub goal_test : Bool
  goal_test = rows_test D tasks none goal_part goals

  pub keep_iff : (keep_test ≡ true) ↔ KeepRows D tasks
  keep_iff = (
    λ e. let h = (rows_iff D tasks none keep_part keeps).0 e in
        record { many = h.0; long = h.1; each = λ i c d l m. (alike_iff (has (keep_part (slice_index_or tasks i d)) c) ((task_at D i).keep c)).0 (h.2 i c d l m) },
    λ r. (rows_iff D tasks none keep_part keeps).1
        (r.many, r.long, λ i c d l m. (alike_iff (has (keep_part (slice_index_or tasks i d)) c) ((task_at D i).keep c)).1 (r.each i c d l m)),
  )

  pub goal_iff : WellFormed D → (goal_test ≡ true) ↔ GoalRows D tasks
  goal_iff wf = (
    λ e. let h = (rows_iff D tasks none goal_part goals).0 e in record {
      many = h.0;
      long = h.1;
      each = λ i c d l m. (
        λ t. (ends i c).0 (sym ((alike_iff (has (goal_part (slice_index_or tasks i d)) c) (aims i c)).0 (h.2 i c d l m)) ∙ t),
        λ t. (alike_iff (has (goal_part (slice_index_or tasks i d)) c) (aims i c)).0 (h.2 i c d l m) ∙ (ends i c).1 t,
      );
    },
    λ r. (rows_iff D tasks none goal_part goals).1 (
      r.many,
      r.long,
      λ i c d l m.
          (alike_iff (has (goal_part (slice_index_or tasks i d)) c) (aims i c)).1
          (agree (has (goal_part (slice_index_or tasks i d)) c) (aims i c) (λ t. (ends i c).1 ((r.each i c d l m).0 t)) (λ t. (r.each i c d l m).1 ((ends i c).0 t))),
    ),
  )
    where
      aims : ℕ → ℕ → Bool
      aims i c = (task_at D i).reach c && kept_test D (task_at D i).to c

      ends : (i c : ℕ) → (aims i c ≡ true) ↔ (((task_at D i).reach c ≡ true) × Kept D (task_at D i).to c)
      ends i c = both ((task_at D i).reach c) (kept_test D (task_at D i).to c) (λ e. e, λ e. e) (kept_decided D wf (task_at D i).to c)

abbrev pub ranks_test : Domain → List ℕ → Bool
ranks_test D ranks = eqb (length ranks) (D.stages * D.conditions) && pairwise D (λ s c. rank_test D s c (rank_at D.conditions ranks s c))

pub ranks_iff : (D : Domain) → WellFormed D → (ranks : List ℕ) → (ranks_test D ranks ≡ true) ↔ RankRows D ranks
ranks_iff D wf ranks = (
  λ e.
      let h = (and-eq-true_iff (eqb (length ranks) (D.stages * D.conditions)) (pairwise D test)).0 e in record {
        long = eqb-true (length ranks) (D.stages * D.conditions) h.0;
        each = λ s c r. (rank_decided D wf s c (rank_at D.conditions ranks s c) r).0 ((pairwise_iff D test).0 h.1 s c r);
      },
  λ t. (and-eq-true_iff (eqb (length ranks) (D.stages * D.conditions)) (pairwise D test)).1 (
    eq-eqb (length ranks) (D.stages * D.conditions) t.long,
    (pairwise_iff D test).1 (λ s c r. (rank_decided D wf s c (rank_at D.conditions ranks s c) r).1 (t.each s c r)),
  ),
)
  where
    test : ℕ → ℕ → Bool
    test s c = rank_test D s c (rank_at D.conditions ranks s c)

-- ── the rows ──

module _ (heap : Global) where
  -- a task with no rows, which is read past the end
  abbrev none : Task
  none = task_of heap (record { from = 0; to = 0; keep = []; reach = []; goal = []; served = [] })

  abbrev decides : Claim → Bool
  decides (keep_rows D ts) = true
  decides (goal_rows D ts) = formed_test D
  decides (rank_rows D ranks) = formed_test D
  decides (judges D ts ranks) = formed_test D

  abbrev test : Claim → Bool
  test (keep_rows D ts) = keep_test D (map (task_of heap) ts) none
  test (goal_rows D ts) = goal_test D (map (task_of heap) ts) none
  test (rank_rows D ranks) = ranks_test D ranks
  test (judges D ts ranks) = keep_test D (map (task_of heap) ts) none && (goal_test D (map (task_of heap) ts) none && ranks_test D ranks)

  decided : (x : Claim) → decides x ≡ true → (test x ≡ true) ↔ Means heap x
  decided (keep_rows D ts) e = keep_iff D (map (task_of heap) ts) none
  decided (goal_rows D ts) e = goal_iff D (map (task_of heap) ts) none ((formed_decided D).0 e)
  decided (rank_rows D ranks) e = ranks_iff D ((formed_decided D).0 e) ranks
  decided (judges D ts ranks) e =
      let tasks = map (task_of heap) ts in
      let wf = (formed_decided D).0 e in
      let rest = both (goal_test D tasks none) (ranks_test D ranks) (goal_iff D tasks none wf) (ranks_iff D wf ranks) in
      let all = both (keep_test D tasks none) (goal_test D tasks none && ranks_test D ranks) (keep_iff D tasks none) rest in (
        λ t. let h = all.0 t in record { works = h.0; ends = h.1.0; ranked = h.1.1 },
        λ j. all.1 (j.works, (j.ends, j.ranked)),
      )

  all_right : each (right decides test) rows ≡ true
  all_right = refl

pub verdicts_say : VerdictsSay
verdicts_say heap = all_say (Means heap) (decides heap) (test heap) (decided heap) rows (all_right heap)
