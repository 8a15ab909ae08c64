-- The turns of the tasks in a round.
use Rattle.std.proofs.Common.{◌≡◌, ℕ, suc, ◌+◌, ◌<◌, ◌≤◌, Bool, true, false, not, ◌&&◌, ◌||◌, List, [], length, get_or, set, vec_items, sym, refl, ap, ◌∙◌, subst, add-one, arith, length-set, get_or-set_other, get_or-set_same, eq-eqb, ne_eqb}
use native.Mathlib.Decide.{ℕ_discrete}
use Rattle.std.proofs.lemmas.List.{get_or-map, get_or_default}
use Rattle.plans.specs.Simulation.{Domain, WellFormed, InRange}
use Rattle.plans.proofs.Formed.{port_formed}
use Rattle.index.specs.Indexed.{port_of}
use Rattle.index.specs.declared.MoveIndex.{MoveIndex}
use Rattle.plans.specs.Flags.{all_served, has, task_at}
use Rattle.rounds.specs.Rounds.{domain_in, FreshFrom, RoundReady, SameLeft, Turned, Wide, serving}
use Rattle.rounds.specs.Stages.{NarrowedBy, left_in, next_in, rank_in}
use Rattle.rounds.specs.Tasks.{Fresh, IsDomainTask, SameTexts}
use Rattle.rounds.specs.declared.stages.Stage.{Stage}
use Rattle.rounds.specs.declared.tasks.Task.{Task}
use Rattle.rounds.proofs.Lists.{an_element, both_has, both_long, each_set}
use Rattle.rounds.proofs.Freshness.{fresh_serving, task_staged, tells_same}

-- ── the rows of a stage ──

pub left_at : (stages : List Stage) (s c : ℕ) (d : Stage) → s < length stages → left_in stages s c ≡ has (vec_items (get_or stages s d).alive) c
left_at stages s c d l = ap (λ fs. has fs c) (get_or-map (λ (x : Stage). vec_items x.alive) stages s d [] l)

pub next_at : (stages : List Stage) (s c : ℕ) (d : Stage) → s < length stages → next_in stages s c ≡ has (vec_items (get_or stages s d).next) c
next_at stages s c d l = ap (λ fs. has fs c) (get_or-map (λ (x : Stage). vec_items x.next) stages s d [] l)

pub rank_at_stage : (stages : List Stage) (s c : ℕ) (d : Stage) → s < length stages → rank_in stages s c ≡ get_or (vec_items (get_or stages s d).ranks) c 0
rank_at_stage stages s c d l = ap (λ rs. get_or rs c 0) (get_or-map (λ (x : Stage). vec_items x.ranks) stages s d [] l)

-- ── one task more ──

and_true : (a : Bool) → (a && true) ≡ a
and_true true = refl
and_true false = refl

and_assoc : (a b c : Bool) → ((a && b) && c) ≡ (a && (b && c))
and_assoc true b c = refl
and_assoc false b c = refl

-- one task more has narrowed the row of its stage
narrowed_more : (D : Domain) (V P N M : ℕ → ℕ → Bool) (i : ℕ) →
    ((s c : ℕ) → InRange D s c → N s c ≡ (P s c && all_served D V i s c)) →
    ((c : ℕ) → c < D.conditions → M (task_at D i).from c ≡ (N (task_at D i).from c && V i c)) →
    ((s c : ℕ) → s < D.stages → (s ≡ (task_at D i).from → ⊥) → M s c ≡ N s c) →
    (s c : ℕ) → InRange D s c → M s c ≡ (P s c && all_served D V (i + 1) s c)
narrowed_more D V P N M i old here other s c r =
    subst (λ (j : ℕ). M s c ≡ (P s c && all_served D V j s c)) (sym (add-one i)) (go (ℕ_discrete s (task_at D i).from))
  where
    go : Dec (s ≡ (task_at D i).from) → M s c ≡ (P s c && all_served D V (suc i) s c)
    go (yes e) =
        ap (λ (t : ℕ). M t c) e ∙ here c r.1 ∙ ap (λ (t : ℕ). N t c && V i c) (sym e)
        ∙ ap (λ (b : Bool). b && V i c) (old s c r) ∙ and_assoc (P s c) (all_served D V i s c) (V i c)
        ∙ ap (λ (b : Bool). P s c && (all_served D V i s c && (not b || V i c))) (sym (eq-eqb (task_at D i).from s (sym e)))
    go (no ne) =
        other s c r.0 ne ∙ old s c r
        ∙ ap (λ (b : Bool). P s c && b) (sym (and_true (all_served D V i s c)))
        ∙ ap (λ (b : Bool). P s c && (all_served D V i s c && (not b || V i c))) (sym (ne_eqb (task_at D i).from s (λ e. ne (sym e))))

-- before the first turn
pub turned_start : (D : Domain) (tasks : List Task) (stages : List Stage) → RoundReady D tasks stages → Turned D stages tasks stages 0
turned_start D tasks stages r = record {
  told = r.told;
  high = r.high;
  same = λ s d l. record { alive = refl; ranks = refl; lost = refl };
  wide = r.wide;
  fresh = r.fresh;
  left = λ s c h.
      let l : s < length stages = omega (arith, h.0, r.high) in
      let d : Stage = an_element stages s l in
      next_at stages s c d l ∙ ap (λ fs. has fs c) (r.level s d h.0) ∙ sym (left_at stages s c d l) ∙ sym (and_true (left_in stages s c));
}

module _ (index : MoveIndex) {before stages : List Stage} {first tasks : List Task} {i : ℕ} (ready : RoundReady (domain_in index) first before) (h : Turned (domain_in index) before tasks stages i) (li : i < length tasks) (a : Task) where
  abbrev D : Domain
  D = domain_in index

  wf : WellFormed D
  wf = port_formed (port_of index)

  high : length before ≡ D.stages
  high = ready.high

  l : i < length D.tasks
  l = omega (arith, li, h.told.many)

  -- the task at hand
  abbrev t : Task
  t = get_or tasks i a

  turn_tells : IsDomainTask D.conditions (task_at D i) t
  turn_tells = h.told.each i a l

  turn_to : t.to < D.stages
  turn_to = subst (λ (s : ℕ). s < D.stages) (sym turn_tells.to) (task_staged D wf i l).1

  turn_from : t.from < D.stages
  turn_from = subst (λ (s : ℕ). s < D.stages) (sym turn_tells.from) (task_staged D wf i l).0

  -- its stages are among those there are, of which there are few
  pub turn_ends : (t.to < length stages) × (length stages ≤ 16)
  turn_ends = (subst (λ (n : ℕ). t.to < n) (sym h.high) turn_to, omega (arith, h.high, (port_of index).stages_few))

  pub turn_leaves : t.from < length stages
  turn_leaves = subst (λ (n : ℕ). t.from < n) (sym h.high) turn_from

  module _ (b : Stage) where
    -- its to-stage
    abbrev e : Stage
    e = get_or stages t.to b

    same : SameLeft (get_or before (task_at D i).to b) e
    same = subst (λ (s : ℕ). SameLeft (get_or before s b) (get_or stages t.to b)) turn_tells.to (h.same t.to b turn_to)

    pub turn_wide : Wide D.conditions e
    turn_wide = h.wide t.to b turn_to

    -- it is up to date where its to-stage lost nothing
    pub turn_fresh : e.lost ≡ false → Fresh D (vec_items e.alive) t
    turn_fresh kept =
        subst (λ (fs : List Bool). Fresh D fs t) (sym (ap vec_items same.alive))
        (h.fresh i a b l (λ le. sym same.lost ∙ kept))

    module _ (u : Task) (texts : SameTexts t u) (f : Fresh D (vec_items e.alive) u) (x : Stage) where
      abbrev s : Stage
      s = get_or stages u.from x

      told : IsDomainTask D.conditions (task_at D i) u
      told = tells_same D.conditions (task_at D i) t u texts turn_tells

      low : u.from < D.stages
      low = subst (λ (k : ℕ). k < D.stages) (sym texts.from) turn_from

      here : u.from < length stages
      here = subst (λ (k : ℕ). u.from < k) (sym h.high) low

      -- its row is as long as that of its from-stage
      pub turn_rows : length (vec_items u.served) ≡ length (vec_items s.next)
      turn_rows = f.served_long ∙ sym (h.wide u.from x low).next

      module _ (s' : Stage) (n : NarrowedBy (vec_items u.served) s s') where
        -- the pairs of its to-stage that are left
        ends : (c : ℕ) → has (vec_items e.alive) c ≡ left_in before (task_at D i).to c
        ends c =
            let lb : (task_at D i).to < length before = subst (λ (k : ℕ). (task_at D i).to < k) (sym high) (task_staged D wf i l).1 in
            ap (λ v. has (vec_items v) c) same.alive ∙ sym (left_at before (task_at D i).to c b lb)

        wide : Wide D.conditions s'
        wide =
            let w : Wide D.conditions s = h.wide u.from x low in
            record {
              alive = ap (λ v. length (vec_items v)) n.alive ∙ w.alive;
              next = ap length n.next ∙ both_long (vec_items s.next) (vec_items u.served) D.conditions w.next f.served_long;
              ranks = ap (λ v. length (vec_items v)) n.ranks ∙ w.ranks;
            }

        pub turned_more : Turned D before (set tasks i u) (set stages u.from s') (i + 1)
        turned_more = record {
          told = record {
            many = length-set tasks i u ∙ h.told.many;
            each = λ j d lj. each_set (λ (k : ℕ) (y : Task). k < length D.tasks → IsDomainTask D.conditions (task_at D k) y) tasks i u li (λ lk. told)
                (λ k y ne lk. h.told.each k y lk) j d lj;
          };
          high = length-set stages u.from s' ∙ h.high;
          same = λ k d lk.
              each_set (λ (j : ℕ) (y : Stage). j < D.stages → SameLeft (get_or before j d) y) stages u.from s' here
              (λ lj.
              let old : SameLeft (get_or before u.from d) s = subst (SameLeft (get_or before u.from d)) (alike d) (h.same u.from d low) in
              record { alive = n.alive ∙ old.alive; ranks = n.ranks ∙ old.ranks; lost = n.lost ∙ old.lost })
              (λ j y ne lj. subst (SameLeft (get_or before j d)) (defaults j d y lj) (h.same j d lj)) k d lk;
          wide = λ k d lk. each_set (λ (j : ℕ) (y : Stage). j < D.stages → Wide D.conditions y) stages u.from s' here (λ lj. wide) (λ j y ne lj. h.wide j y lj) k d lk;
          fresh = fresh;
          left = narrowed_more D (serving D (left_in before)) (left_in before) (next_in stages) (next_in (set stages u.from s')) i h.left mine others;
        }
          where
            -- what is read past the end doesn't matter within
            defaults : (j : ℕ) (d y : Stage) → j < D.stages → get_or stages j d ≡ get_or stages j y
            defaults j d y lj = get_or_default stages j d y (omega (arith, lj, h.high))

            alike : (d : Stage) → get_or stages u.from d ≡ s
            alike d = defaults u.from d x low

            fresh : FreshFrom D (set tasks i u) before (i + 1)
            fresh j d b' lj le =
                each_set (λ (k : ℕ) (y : Task). k ≡ j → Fresh D (vec_items (get_or before (task_at D j).to b').alive) y) tasks i u li
                (λ k. subst (λ (fs : List Bool). Fresh D fs u)
                (ap vec_items same.alive ∙ ap vec_items (ap (λ (y : Stage). y.alive) (get_or_default before (task_at D i).to b b' (omega (arith, high, (task_staged D wf i l).1)))
                ∙ ap (λ (m : ℕ). (get_or before (task_at D m).to b').alive) k)) f)
                (λ k y ne ek. subst (λ (m : ℕ). Fresh D (vec_items (get_or before (task_at D j).to b').alive) (get_or tasks m y)) (sym ek)
                (h.fresh j y b' lj (λ lk. le (past k ne ek lk)))) j d refl
              where
                past : (k : ℕ) → (k ≡ i → ⊥) → k ≡ j → i ≤ j → i + 1 ≤ j
                past k ne ek lk = omega arith

            mine : (c : ℕ) → c < D.conditions → next_in (set stages u.from s') (task_at D i).from c ≡ (next_in stages (task_at D i).from c && serving D (left_in before) i c)
            mine c lc =
                subst (λ (k : ℕ). next_in (set stages u.from s') k c ≡ (next_in stages k c && serving D (left_in before) i c)) told.from
                (next_at (set stages u.from s') u.from c s' (omega (arith, here, length-set stages u.from s'))
                ∙ ap (λ (y : Stage). has (vec_items y.next) c) (get_or-set_same stages u.from s' s' here)
                ∙ ap (λ fs. has fs c) n.next ∙ both_has (vec_items s.next) (vec_items u.served) c
                ∙ ap (λ (b : Bool). b && has (vec_items u.served) c) (sym (next_at stages u.from c x here))
                ∙ ap (λ (b : Bool). next_in stages u.from c && b) (fresh_serving D wf (left_in before) i (vec_items e.alive) u told f ends c lc))

            others : (k c : ℕ) → k < D.stages → (k ≡ (task_at D i).from → ⊥) → next_in (set stages u.from s') k c ≡ next_in stages k c
            others k c lk ne =
                next_at (set stages u.from s') k c s' (omega (arith, lk, h.high, length-set stages u.from s'))
                ∙ ap (λ (y : Stage). has (vec_items y.next) c) (get_or-set_other stages u.from k s' s' (λ p. ne (p ∙ told.from)))
                ∙ sym (next_at stages k c s' (omega (arith, lk, h.high)))
