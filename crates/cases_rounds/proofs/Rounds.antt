-- The rows of rounds, by one test.
use Rattle.std.proofs.Common.{◌≡◌, ℕ, ◌+◌, ◌*◌, ◌<◌, ◌≤◌, Bool, true, false, not, ◌&&◌, ◌||◌, eqb, leb, ◌↔◌, List, length, map, vec_items, get_or, sym, refl, subst, arith, eqb-true}
use mathlib.Core.Bool.{and-eq-true_iff}
use Rattle.std.specs.Global.{Global}
use Rattle.std.proofs.lemmas.List.{get_or_default}
use Rattle.plans.specs.Flags.{rank_at, bit, task_at, all_served, every}
use Rattle.plans.specs.Reach.{each, left_after}
use Rattle.plans.specs.Simulation.{Domain, WellFormed, InRange, Kept, Rank}
use Rattle.rounds.specs.Rounds.{serving, Wide, FreshFrom, RoundReady, SameLeft, Turned, Judged, count_left, Going}
use Rattle.rounds.specs.Stages.{left_in, next_in, rank_in}
use Rattle.rounds.specs.Tasks.{DomainTasks, Fresh}
use Rattle.rounds.specs.declared.tasks.Task.{Task}
use Rattle.rounds.proofs.Freshness.{task_staged}
use Rattle.cases_plans.proofs.Kept.{formed_test, formed_decided, pairwise, kept_test, kept_decided, rank_test, rank_decided}
use Rattle.cases_plans.proofs.Rows.{alike, right, all_say}
use Rattle.cases_plans.proofs.Tests.{both, equal}
use Rattle.cases_plans.proofs.Values.{alike_iff}
use Rattle.cases_search.specs.Held.{TaskRows, task_of}
use Rattle.cases_search.proofs.Combine.{every_iff, at_most, where_iff, unless_iff}
use Rattle.cases_search.proofs.Tasks.{told_test, told_decided, fresh_check, fresh_decided}
use Rattle.cases_rounds.specs.Held.{Stage, StageRows, stage_of}
use Rattle.cases_rounds.specs.Rounds.{Claim, fresh_from, ready, turned, judged, going, Means, rows, RoundsSay, pairs}
use Rattle.cases_rounds.proofs.Combine.{then_iff, some_proof, down_iff, places_iff, pairs_iff}
use Rattle.cases_rounds.proofs.Held.{bare, blank, at_place}
use Rattle.cases_rounds.proofs.Stages.{same_flags, flags_tell, wide_test, wide_decided, held, left_test, left_decided}

-- ── rows that are up to date ──

module _ (D : Domain) (tasks : List Task) (stages : List Stage) (lazy : Task) (nothing : Stage) where
  abbrev ending : ℕ → Stage
  ending j = get_or stages (task_at D j).to nothing

  abbrev due : ℕ → ℕ → Bool
  due i j = not (leb i j) || not (ending j).lost

  abbrev fresh_one : ℕ → ℕ → Bool
  fresh_one i j = not (due i j) || fresh_check D (vec_items (ending j).alive) (get_or tasks j lazy)

  abbrev fresh_test : ℕ → Bool
  fresh_test i = every (fresh_one i) (length D.tasks)

  abbrev Due : ℕ → ℕ → Type 0
  Due i j = i ≤ j → (ending j).lost ≡ false

  fresh_from_decided : WellFormed D → length tasks ≡ length D.tasks → length stages ≡ D.stages → (i : ℕ) → (fresh_test i ≡ true) ↔ FreshFrom D tasks stages i
  fresh_from_decided wf many high i = (λ e j d x l p. there j d x l (all.0 e j l) p, λ h. all.1 (λ j l. h j lazy nothing l))
    where
      all : (fresh_test i ≡ true) ↔ ((j : ℕ) → j < length D.tasks → Due i j → Fresh D (vec_items (ending j).alive) (get_or tasks j lazy))
      all =
          every_iff (fresh_one i) (length D.tasks) (λ j l. where_iff (due i j) (fresh_check D (vec_items (ending j).alive) (get_or tasks j lazy))
          (where_iff (leb i j) (not (ending j).lost) (at_most i j) (down_iff (ending j).lost))
          (fresh_decided D wf (vec_items (ending j).alive) (get_or tasks j lazy)))

      there : (j : ℕ) (d : Task) (x : Stage) → j < length D.tasks → (Due i j → Fresh D (vec_items (ending j).alive) (get_or tasks j lazy)) →
          (i ≤ j → (get_or stages (task_at D j).to x).lost ≡ false) → Fresh D (vec_items (get_or stages (task_at D j).to x).alive) (get_or tasks j d)
      there j d x l fresh p =
          let to : (task_at D j).to < length stages = let t = (task_staged D wf j l).1 in omega (arith, t, high) in
          let same = get_or_default stages (task_at D j).to x nothing to in
          let task = get_or_default tasks j d lazy (omega (arith, l, many)) in
          subst (λ (y : Stage). Fresh D (vec_items y.alive) (get_or tasks j d)) (sym same)
          (subst (Fresh D (vec_items (ending j).alive)) (sym task) (fresh (λ m. subst (λ (y : Stage). y.lost ≡ false) same (p m))))

-- ── what stands before a round ──

module _ (D : Domain) (tasks : List Task) (stages : List Stage) (lazy : Task) (nothing : Stage) where
  abbrev ready_test : Bool
  ready_test =
      told_test D tasks lazy
      && (eqb (length stages) D.stages
      && (every (λ s. wide_test D.conditions (get_or stages s nothing)) D.stages
      && (every (λ s. same_flags (vec_items (get_or stages s nothing).next) (vec_items (get_or stages s nothing).alive)) D.stages
      && fresh_test D tasks stages lazy nothing 0)))

  abbrev AllWide : Type 0
  AllWide = (s : ℕ) (d : Stage) → s < D.stages → Wide D.conditions (get_or stages s d)

  abbrev AllLevel : Type 0
  AllLevel = (s : ℕ) (d : Stage) → s < D.stages → vec_items (get_or stages s d).next ≡ vec_items (get_or stages s d).alive

  wide_iff : length stages ≡ D.stages → (every (λ s. wide_test D.conditions (get_or stages s nothing)) D.stages ≡ true) ↔ AllWide
  wide_iff high = places_iff (λ s x. wide_test D.conditions x) stages nothing D.stages (omega (arith, high)) (λ s l x. wide_decided D.conditions x)

  level_iff : length stages ≡ D.stages →
      (every (λ s. same_flags (vec_items (get_or stages s nothing).next) (vec_items (get_or stages s nothing).alive)) D.stages ≡ true) ↔ AllLevel
  level_iff high =
      places_iff (λ s (x : Stage). same_flags (vec_items x.next) (vec_items x.alive)) stages nothing D.stages (omega (arith, high))
      (λ s l x. flags_tell (vec_items x.next) (vec_items x.alive))

  ready_decided : WellFormed D → (ready_test ≡ true) ↔ RoundReady D tasks stages
  ready_decided wf = (
    λ e. let h = parts.0 e in record { told = h.0; high = h.1.0; wide = h.1.1.0; level = h.1.1.1.0; fresh = h.1.1.1.1 },
    λ r. parts.1 (r.told, (r.high, (r.wide, (r.level, r.fresh)))),
  )
    where
      parts : (ready_test ≡ true) ↔ (DomainTasks D tasks × ((length stages ≡ D.stages) × (AllWide × (AllLevel × FreshFrom D tasks stages 0))))
      parts =
          then_iff {P = DomainTasks D tasks} {Q = (length stages ≡ D.stages) × (AllWide × (AllLevel × FreshFrom D tasks stages 0))} (told_test D tasks lazy) _ (told_decided D tasks lazy)
          (λ told. then_iff {P = length stages ≡ D.stages} {Q = AllWide × (AllLevel × FreshFrom D tasks stages 0)} (eqb (length stages) D.stages) _ (equal (length stages) D.stages)
          (λ high. both (every (λ s. wide_test D.conditions (get_or stages s nothing)) D.stages) _ (wide_iff high)
          (both (every (λ s. same_flags (vec_items (get_or stages s nothing).next) (vec_items (get_or stages s nothing).alive)) D.stages)
          (fresh_test D tasks stages lazy nothing 0) (level_iff high) (fresh_from_decided D tasks stages lazy nothing wf told.many high 0))))

-- ── what stands in it ──

module _ (heap : Global) (D : Domain) (bs : List StageRows) (tasks : List Task) (ss : List StageRows) (lazy : Task) where
  abbrev nothing : Stage
  nothing = stage_of heap bare

  abbrev before : List Stage
  before = map (stage_of heap) bs

  abbrev stages : List Stage
  stages = map (stage_of heap) ss

  abbrev was : ℕ → StageRows
  was s = get_or bs s bare

  abbrev is : ℕ → StageRows
  is s = get_or ss s bare

  abbrev same_test : Bool
  same_test = every (λ s. left_test heap (was s) (is s)) D.stages

  abbrev leaves : ℕ → ℕ → ℕ → Bool
  leaves i s c = left_in before s c && all_served D (serving D (left_in before)) i s c

  abbrev leaves_test : ℕ → Bool
  leaves_test i = pairwise D (λ s c. alike (next_in stages s c) (leaves i s c))

  abbrev turned_test : ℕ → Bool
  turned_test i =
      told_test D tasks lazy
      && (eqb (length stages) D.stages
      && (same_test
      && (every (λ s. wide_test D.conditions (get_or stages s nothing)) D.stages
      && (fresh_test D tasks before lazy nothing i && leaves_test i))))

  abbrev rows_held : Bool
  rows_held = every (λ s. held (was s) && held (is s)) D.stages

  abbrev AllSame : Type 0
  AllSame = (s : ℕ) (d : Stage) → s < D.stages → SameLeft (get_or before s d) (get_or stages s d)

  abbrev Leaves : ℕ → Type 0
  Leaves i = (s c : ℕ) → InRange D s c → next_in stages s c ≡ leaves i s c

  same_iff : rows_held ≡ true → length before ≡ D.stages → length stages ≡ D.stages → (same_test ≡ true) ↔ AllSame
  same_iff short deep high = (
    λ e s d l. subst (λ x. SameLeft x (get_or stages s d)) (sym (past s d l)) (subst (λ y. SameLeft (stage_of heap (was s)) y) (sym (now s d l)) (all.0 e s l)),
    λ h. all.1 (λ s l. subst (λ x. SameLeft x (stage_of heap (is s))) (past s nothing l) (subst (λ y. SameLeft (get_or before s nothing) y) (now s nothing l) (h s nothing l))),
  )
    where
      past : (s : ℕ) (d : Stage) → s < D.stages → get_or before s d ≡ stage_of heap (was s)
      past s d l = at_place (stage_of heap) bs bare s d (omega (arith, l, deep))

      now : (s : ℕ) (d : Stage) → s < D.stages → get_or stages s d ≡ stage_of heap (is s)
      now s d l = at_place (stage_of heap) ss bare s d (omega (arith, l, high))

      all : (same_test ≡ true) ↔ ((s : ℕ) → s < D.stages → SameLeft (stage_of heap (was s)) (stage_of heap (is s)))
      all = every_iff (λ s. left_test heap (was s) (is s)) D.stages (λ s l.
          let h = (and-eq-true_iff (held (was s)) (held (is s))).0 ((every_iff (λ s. held (was s) && held (is s)) D.stages (λ s l. (λ e. e, λ e. e))).0 short s l) in
          left_decided heap (was s) (is s) h.0 h.1)

  abbrev Wides : Type 0
  Wides = (s : ℕ) (d : Stage) → s < D.stages → Wide D.conditions (get_or stages s d)

  turned_decided : WellFormed D → rows_held ≡ true → length before ≡ D.stages → (i : ℕ) → (turned_test i ≡ true) ↔ Turned D before tasks stages i
  turned_decided wf short deep i = (
    λ e. let h = parts.0 e in record { told = h.0; high = h.1.0; same = h.1.1.0; wide = h.1.1.1.0; fresh = h.1.1.1.1.0; left = h.1.1.1.1.1 },
    λ t. parts.1 (t.told, (t.high, (t.same, (t.wide, (t.fresh, t.left))))),
  )
    where
      parts : (turned_test i ≡ true) ↔ (DomainTasks D tasks × ((length stages ≡ D.stages) × (AllSame × (Wides × (FreshFrom D tasks before i × Leaves i)))))
      parts =
          then_iff {P = DomainTasks D tasks} {Q = (length stages ≡ D.stages) × (AllSame × (Wides × (FreshFrom D tasks before i × Leaves i)))} (told_test D tasks lazy) _ (told_decided D tasks lazy)
          (λ told. then_iff {P = length stages ≡ D.stages} {Q = AllSame × (Wides × (FreshFrom D tasks before i × Leaves i))} (eqb (length stages) D.stages) _ (equal (length stages) D.stages)
          (λ high. both same_test _ (same_iff short deep high)
          (both (every (λ s. wide_test D.conditions (get_or stages s nothing)) D.stages) _
          (places_iff (λ s x. wide_test D.conditions x) stages nothing D.stages (omega (arith, high)) (λ s l x. wide_decided D.conditions x))
          (both (fresh_test D tasks before lazy nothing i) (leaves_test i) (fresh_from_decided D tasks before lazy nothing wf told.many deep i)
          (pairs_iff D (λ s c. alike (next_in stages s c) (leaves i s c)) (λ s c r. alike_iff (next_in stages s c) (leaves i s c)))))))

-- ── what stands after some ──

module _ (D : Domain) (alive : ℕ → ℕ → Bool) (rank : ℕ → ℕ → ℕ) where
  abbrev alive_test : ℕ → Bool
  alive_test k = pairwise D (λ s c. alike (alive s c) (left_after D k s c))

  abbrev ranks_test : Bool
  ranks_test = pairwise D (λ s c. alive s c || rank_test D s c (rank s c))

  abbrev zeros_test : Bool
  zeros_test = pairwise D (λ s c. not (alive s c) || eqb (rank s c) 0)

  abbrev lasts_test : Bool
  lasts_test = pairwise D (λ s c. not (alive s c) || kept_test D s c)

  abbrev judged_test : ℕ → Bool → Bool
  judged_test k b = (alive_test k && ranks_test) && (zeros_test && (b || lasts_test))

  judged_decided : WellFormed D → (k : ℕ) (b : Bool) → (judged_test k b ≡ true) ↔ Judged D alive rank k b
  judged_decided wf k b = (
    λ e. let h = parts.0 e in record { alike = h.0.0; ranked = h.0.1; zeros = h.1.0; lasts = h.1.1 },
    λ j. parts.1 ((j.alike, j.ranked), (j.zeros, j.lasts)),
  )
    where
      parts : (judged_test k b ≡ true) ↔ ((((s c : ℕ) → InRange D s c → alive s c ≡ left_after D k s c) × ((s c : ℕ) → InRange D s c → alive s c ≡ false → ∥ Rank D s c (rank s c) ∥₁))
          × (((s c : ℕ) → InRange D s c → alive s c ≡ true → rank s c ≡ 0) × (b ≡ false → (s c : ℕ) → InRange D s c → alive s c ≡ true → ∥ Kept D s c ∥₁)))
      parts =
          both (alive_test k && ranks_test) (zeros_test && (b || lasts_test))
          (both (alive_test k) ranks_test (pairs_iff D (λ s c. alike (alive s c) (left_after D k s c)) (λ s c r. alike_iff (alive s c) (left_after D k s c)))
          (pairs_iff D (λ s c. alive s c || rank_test D s c (rank s c))
          (λ s c r. unless_iff (alive s c) (rank_test D s c (rank s c)) (some_proof (rank_test D s c (rank s c)) (rank_decided D wf s c (rank s c) r)))))
          (both zeros_test (b || lasts_test)
          (pairs_iff D (λ s c. not (alive s c) || eqb (rank s c) 0) (λ s c r. where_iff (alive s c) (eqb (rank s c) 0) (λ e. e, λ e. e) (equal (rank s c) 0)))
          (unless_iff b lasts_test
          (pairs_iff D (λ s c. not (alive s c) || kept_test D s c)
          (λ s c r. where_iff (alive s c) (kept_test D s c) (λ e. e, λ e. e) (some_proof (kept_test D s c) (kept_decided D wf s c))))))

module _ (D : Domain) (tasks : List Task) (stages : List Stage) (lazy : Task) (nothing : Stage) where
  abbrev few_test : ℕ → Bool → Bool
  few_test k b = leb (k + count_left stages + bit b) (D.stages * D.conditions + 1)

  abbrev still_test : Bool → Bool
  still_test b = b || every (λ s. not (get_or stages s nothing).lost) D.stages

  abbrev going_test : ℕ → Bool → Bool
  going_test k b = ready_test D tasks stages lazy nothing && ((judged_test D (left_in stages) (rank_in stages) k b && few_test k b) && still_test b)

  abbrev Still : Bool → Type 0
  Still b = b ≡ false → (s : ℕ) (d : Stage) → s < D.stages → (get_or stages s d).lost ≡ false

  abbrev Counted : ℕ → Bool → Type 0
  Counted k b = Judged D (left_in stages) (rank_in stages) k b × (k + count_left stages + bit b ≤ D.stages * D.conditions + 1)

  going_decided : WellFormed D → (k : ℕ) (b : Bool) → (going_test k b ≡ true) ↔ Going D tasks stages k b
  going_decided wf k b = (
    λ e. let h = parts.0 e in record { ready = h.0; judged = h.1.0.0; few = h.1.0.1; still = h.1.1 },
    λ g. parts.1 (g.ready, ((g.judged, g.few), g.still)),
  )
    where
      parts : (going_test k b ≡ true) ↔ (RoundReady D tasks stages × (Counted k b × Still b))
      parts =
          then_iff {P = RoundReady D tasks stages} {Q = Counted k b × Still b} (ready_test D tasks stages lazy nothing) _ (ready_decided D tasks stages lazy nothing wf)
          (λ r. both {P = Counted k b} {Q = Still b} (judged_test D (left_in stages) (rank_in stages) k b && few_test k b) (still_test b)
          (both (judged_test D (left_in stages) (rank_in stages) k b) (few_test k b) (judged_decided D (left_in stages) (rank_in stages) wf k b)
          (at_most (k + count_left stages + bit b) (D.stages * D.conditions + 1)))
          (unless_iff b (every (λ s. not (get_or stages s nothing).lost) D.stages)
          (places_iff (λ s (x : Stage). not x.lost) stages nothing D.stages (let h = r.high in omega arith) (λ s l (x : Stage). down_iff x.lost))))

-- ── the rows ──

module _ (heap : Global) where
  abbrev no_task : Task
  no_task = task_of heap blank

  abbrev no_stage : Stage
  no_stage = stage_of heap bare

  abbrev tasks_in : List TaskRows → List Task
  tasks_in ts = map (task_of heap) ts

  abbrev stages_in : List StageRows → List Stage
  stages_in ss = map (stage_of heap) ss

  -- what the test decides: claims of domains that are well formed, with a task or a stage for each
  abbrev decides : Claim → Bool
  decides (fresh_from D ts ss i) = formed_test D && (eqb (length (tasks_in ts)) (length D.tasks) && eqb (length (stages_in ss)) D.stages)
  decides (ready D ts ss) = formed_test D
  decides (turned D bs ts ss i) = formed_test D && (every (λ s. held (get_or bs s bare) && held (get_or ss s bare)) D.stages && eqb (length (stages_in bs)) D.stages)
  decides (judged D alive ranks k b) = formed_test D
  decides (going D ts ss k b) = formed_test D

  abbrev test : Claim → Bool
  test (fresh_from D ts ss i) = fresh_test D (tasks_in ts) (stages_in ss) no_task no_stage i
  test (ready D ts ss) = ready_test D (tasks_in ts) (stages_in ss) no_task no_stage
  test (turned D bs ts ss i) = turned_test heap D bs (tasks_in ts) ss no_task i
  test (judged D alive ranks k b) = judged_test D (pairs D.conditions alive) (rank_at D.conditions ranks) k b
  test (going D ts ss k b) = going_test D (tasks_in ts) (stages_in ss) no_task no_stage k b

  decided : (x : Claim) → decides x ≡ true → (test x ≡ true) ↔ Means heap x
  decided (fresh_from D ts ss i) e =
      let h = (and-eq-true_iff (formed_test D) (eqb (length (tasks_in ts)) (length D.tasks) && eqb (length (stages_in ss)) D.stages)).0 e in
      let g = (and-eq-true_iff (eqb (length (tasks_in ts)) (length D.tasks)) (eqb (length (stages_in ss)) D.stages)).0 h.1 in
      fresh_from_decided D (tasks_in ts) (stages_in ss) no_task no_stage ((formed_decided D).0 h.0)
      (eqb-true (length (tasks_in ts)) (length D.tasks) g.0) (eqb-true (length (stages_in ss)) D.stages g.1) i
  decided (ready D ts ss) e = ready_decided D (tasks_in ts) (stages_in ss) no_task no_stage ((formed_decided D).0 e)
  decided (turned D bs ts ss i) e =
      let h = (and-eq-true_iff (formed_test D) (every (λ s. held (get_or bs s bare) && held (get_or ss s bare)) D.stages && eqb (length (stages_in bs)) D.stages)).0 e in
      let g = (and-eq-true_iff (every (λ s. held (get_or bs s bare) && held (get_or ss s bare)) D.stages) (eqb (length (stages_in bs)) D.stages)).0 h.1 in
      turned_decided heap D bs (tasks_in ts) ss no_task ((formed_decided D).0 h.0) g.0 (eqb-true (length (stages_in bs)) D.stages g.1) i
  decided (judged D alive ranks k b) e = judged_decided D (pairs D.conditions alive) (rank_at D.conditions ranks) ((formed_decided D).0 e) k b
  decided (going D ts ss k b) e = going_decided D (tasks_in ts) (stages_in ss) no_task no_stage ((formed_decided D).0 e) k b

  all_right : each (right decides test) rows ≡ true
  all_right = refl

pub rounds_say : RoundsSay
rounds_say heap = all_say (Means heap) (decides heap) (test heap) (decided heap) rows (all_right heap)
