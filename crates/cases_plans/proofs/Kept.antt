-- Tests that decide what is said of domains: what plans end in, what is served, what is kept, and ranks.
use Rattle.std.proofs.Common.{◌≡◌, ℕ, zero, suc, ◌*◌, ◌<◌, Bool, true, not, ◌&&◌, eqb, ltb, ◌↔◌, List, [], ◌∷◌, sym, refl, ap, subst, arith, eq-eqb, eqb-true}
use mathlib.Core.Bool.{and-eq-true_iff}
use Rattle.port.specs.Limits.{In}
use Rattle.port.specs.declared.Move.{Move}
use Rattle.plans.specs.Flags.{every}
use Rattle.plans.specs.Plans.{Plan, stop, work, Can, IsRun, end}
use Rattle.plans.specs.Reach.{each, serves, left_after}
use Rattle.plans.specs.Simulation.{Task, Domain, WellFormed, Serves, InRange, Holds, Simulation, Kept, Rank}
use Rattle.plans.proofs.Decide.{some_in, in_some, each_in, in_each, serves_decided, left_iterates, row_kept}
use Rattle.plans.proofs.Flags.{every_at, at_every}
use Rattle.plans.proofs.Index.{is_false}
use Rattle.plans.proofs.Ranks.{kept_rank, left_serves}
use Rattle.plans.proofs.Serve.{kept_row, kept_ranged}
use Rattle.plans.proofs.Shrink.{dropped_rank}
use Rattle.costs.proofs.Order.{not_true}
use Rattle.cases_plans.specs.Basin.{Pair, among}
use Rattle.cases_plans.proofs.Tests.{both, below, within_test, within_decided, all_fit, all_fit_iff}

abbrev pub range_test : Domain → ℕ → ℕ → Bool
range_test D s c = ltb s D.stages && ltb c D.conditions

pub range_decided : (D : Domain) (s c : ℕ) → (range_test D s c ≡ true) ↔ InRange D s c
range_decided D s c = both (ltb s D.stages) (ltb c D.conditions) (below s D.stages) (below c D.conditions)

-- a test for each pair of the domain
abbrev pub pairwise : Domain → (ℕ → ℕ → Bool) → Bool
pairwise D test = every (λ s. every (λ c. test s c) D.conditions) D.stages

pub pairwise_iff : (D : Domain) (test : ℕ → ℕ → Bool) → (pairwise D test ≡ true) ↔ ((s c : ℕ) → InRange D s c → test s c ≡ true)
pairwise_iff D test = (
  λ e s c r. every_at (λ c. test s c) D.conditions (every_at (λ s. every (λ c. test s c) D.conditions) D.stages e s r.0) c r.1,
  λ h. at_every (λ s. every (λ c. test s c) D.conditions) D.stages (λ s l. at_every (λ c. test s c) D.conditions (λ c m. h s c (l, m))),
)

abbrev staged : Domain → Task → Bool
staged D q = ltb q.from D.stages && ltb q.to D.stages

abbrev pub formed_test : Domain → Bool
formed_test D = within_test D.conditions D.moves && each (staged D) D.tasks

pub formed_decided : (D : Domain) → (formed_test D ≡ true) ↔ WellFormed D
formed_decided D = (
  λ e.
      let h = (and-eq-true_iff (within_test D.conditions D.moves) (each (staged D) D.tasks)).0 e in record {
        within = (within_decided D.conditions D.moves).0 h.0;
        staged = λ q i. (one q).0 (each_in (staged D) D.tasks h.1 q i);
      },
  λ wf.
      (and-eq-true_iff (within_test D.conditions D.moves) (each (staged D) D.tasks)).1 (
        (within_decided D.conditions D.moves).1 wf.within,
        in_each (staged D) D.tasks (λ q i. (one q).1 (wf.staged q i)),
      ),
)
  where
    one : (q : Task) → (staged D q ≡ true) ↔ ((q.from < D.stages) × (q.to < D.stages))
    one q = both (ltb q.from D.stages) (ltb q.to D.stages) (below q.from D.stages) (below q.to D.stages)

-- ── ends of plans ──

abbrev pub ends_test : List Move → (ℕ → Bool) → Plan → ℕ → Bool
ends_test moves X stop c = X c
ends_test moves X (work o next) c = all_fit moves c o (λ m. ends_test moves X (next m.outcome) m.outcome)

-- every run ends in X
abbrev Ends : List Move → (ℕ → Bool) → Plan → ℕ → Type 0
Ends moves X plan c = (ms : List Move) → IsRun moves plan c ms → X (end c ms) ≡ true

stop_ends : (moves : List Move) (X : ℕ → Bool) (c : ℕ) → X c ≡ true → Ends moves X stop c
stop_ends moves X c e [] r = e
stop_ends moves X c e (m ∷ ms) r = absurd r

work_ends : (moves : List Move) (X : ℕ → Bool) (o : ℕ) (next : ℕ → Plan) (c : ℕ) →
    ((m : Move) → Can moves c o m → Ends moves X (next m.outcome) m.outcome) → Ends moves X (work o next) c
work_ends moves X o next c h [] r = absurd r
work_ends moves X o next c h (m ∷ ms) r = h m r.0 ms r.1

pub ends_decided : (moves : List Move) (X : ℕ → Bool) (plan : Plan) (c : ℕ) → (ends_test moves X plan c ≡ true) ↔ Ends moves X plan c
ends_decided moves X stop c = (stop_ends moves X c, λ h. h [] tt)
ends_decided moves X (work o next) c = (
  λ e. work_ends moves X o next c (λ m can. (ends_decided moves X (next m.outcome) m.outcome).0 ((all_fit_iff moves c o rest).0 e m can)),
  λ h. (all_fit_iff moves c o rest).1 (λ m can. (ends_decided moves X (next m.outcome) m.outcome).1 (λ ms r. h (m ∷ ms) (can, r))),
)
  where
    rest : Move → Bool
    rest m = ends_test moves X (next m.outcome) m.outcome

-- ── sets of pairs ──

-- a pair that there is, and that is served inside the set
abbrev passes : Domain → List Pair → Pair → Bool
passes D ps p = range_test D p.stage p.condition && serves D (among ps) p.stage p.condition

abbrev pub simulates_test : Domain → List Pair → Bool
simulates_test D ps = each (passes D ps) ps

abbrev pub kept_test : Domain → ℕ → ℕ → Bool
kept_test D s c = range_test D s c && left_after D (D.stages * D.conditions) s c

abbrev pub rank_test : Domain → ℕ → ℕ → ℕ → Bool
rank_test D s c zero = kept_test D s c
rank_test D s c (suc k) = left_after D k s c && not (left_after D (suc k) s c)

module _ (D : Domain) (wf : WellFormed D) where
  module _ (ps : List Pair) where
    abbrev named : ℕ → ℕ → Pair → Bool
    named s c p = eqb s p.stage && eqb c p.condition

    has_pair : (p : Pair) → In p ps → Holds (among ps) p.stage p.condition
    has_pair p i =
        in_some (named p.stage p.condition) p ps i
        ((and-eq-true_iff (eqb p.stage p.stage) (eqb p.condition p.condition)).1 (eq-eqb p.stage p.stage refl, eq-eqb p.condition p.condition refl))

    pair_has : simulates_test D ps ≡ true → (s c : ℕ) → Holds (among ps) s c → InRange D s c × Serves D (Holds (among ps)) s c
    pair_has e s c h =
        let t = some_in (named s c) ps h in
        let p = t.0 in
        let n = (and-eq-true_iff (eqb s p.stage) (eqb c p.condition)).0 t.2 in
        let both = (and-eq-true_iff (range_test D p.stage p.condition) (serves D (among ps) p.stage p.condition)).0 (each_in (passes D ps) ps e p t.1) in
        let r = (range_decided D p.stage p.condition).0 both.0 in
        subst (λ (x : ℕ). InRange D x c × Serves D (Holds (among ps)) x c) (sym (eqb-true s p.stage n.0))
        (subst (λ (x : ℕ). InRange D p.stage x × Serves D (Holds (among ps)) p.stage x) (sym (eqb-true c p.condition n.1))
        (r, (serves_decided D wf (among ps) p.stage p.condition r.1).0 both.1))

    pub simulates_decided : (simulates_test D ps ≡ true) ↔ Simulation D (among ps)
    simulates_decided = (
      λ e. record { ranged = λ s c h. (pair_has e s c h).0; closed = λ s c h. (pair_has e s c h).1 },
      λ sim. in_each (passes D ps) ps (λ p i.
          let r = sim.ranged p.stage p.condition (has_pair p i) in
          (and-eq-true_iff (range_test D p.stage p.condition) (serves D (among ps) p.stage p.condition)).1 (
            (range_decided D p.stage p.condition).1 r,
            (serves_decided D wf (among ps) p.stage p.condition r.1).1 (sim.closed p.stage p.condition (has_pair p i)),
          )),
    )

  -- ── what is kept, and ranks ──

  pub kept_decided : (s c : ℕ) → (kept_test D s c ≡ true) ↔ Kept D s c
  kept_decided s c = (
    λ e.
        let h = (and-eq-true_iff (range_test D s c) (left_after D (D.stages * D.conditions) s c)).0 e in
        let r = (range_decided D s c).0 h.0 in
        row_kept D wf s c r ((left_serves D wf (D.stages * D.conditions) s c r).0 h.1),
    λ k.
        let r = kept_ranged D s c k in
        (and-eq-true_iff (range_test D s c) (left_after D (D.stages * D.conditions) s c)).1 (
          (range_decided D s c).1 r,
          (left_serves D wf (D.stages * D.conditions) s c r).1 (kept_row D s c k (D.stages * D.conditions)),
        ),
  )

  pub rank_decided : (s c k : ℕ) → InRange D s c → (rank_test D s c k ≡ true) ↔ Rank D s c k
  rank_decided s c zero r = (λ e. kept_rank D s c ((kept_decided s c).0 e), λ a. (kept_decided s c).1 a.0)
  rank_decided s c (suc k) r = (
    λ e.
        let h = (and-eq-true_iff (left_after D k s c) (not (left_after D (suc k) s c))).0 e in
        dropped_rank D wf (left_after D) (left_iterates D wf) k s c r h.0 (not_true (left_after D (suc k) s c) h.1),
    λ a.
        (and-eq-true_iff (left_after D k s c) (not (left_after D (suc k) s c))).1 (
          (left_serves D wf k s c r).1 (a.1 k (omega arith)),
          ap not (is_false (left_after D (suc k) s c) (λ e. a.2 (suc k) (omega arith) ((left_serves D wf (suc k) s c r).0 e))),
        ),
  )
