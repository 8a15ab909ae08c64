-- Tests that decide what plans cost.
use Rattle.std.proofs.Common.{◌≡◌, ℕ, Bool, true, false, ◌&&◌, eqb, T, ◌↔◌, List, [], ◌∷◌, refl}
use mathlib.Core.Bool.{and-eq-true_iff}
use Rattle.port.specs.declared.Move.{Move}
use Rattle.plans.specs.Plans.{Plan, stop, work, Can, IsRun}
use Rattle.plans.specs.Reach.{any_of}
use Rattle.plans.proofs.Decide.{some_in, in_some}
use Rattle.locks.specs.Places.{fits}
use Rattle.locks.proofs.Standing.{fits_true, fits_parts}
use Rattle.costs.specs.Costs.{Model, cost}
use Rattle.costs.proofs.Order.{was_true}
use Rattle.search.specs.Answers.{Costs, Prices}
use Rattle.cases_plans.proofs.Tests.{both, equal, all_fit, all_fit_iff, attains_test, attains_decided}
use Rattle.cases_plans.proofs.Values.{same_list, list_tells}

pub was_so : (b : Bool) → T b → b ≡ true
was_so true t = refl
was_so false t = absurd t

pub so_iff : (b : Bool) → (b ≡ true) ↔ T b
so_iff b = (λ e. was_true e, was_so b)

abbrev pub same_cost : List ℕ → List ℕ → Bool
same_cost a b = same_list eqb a b

pub costs_tell : (a b : List ℕ) → (same_cost a b ≡ true) ↔ (a ≡ b)
costs_tell a b = list_tells eqb equal a b

-- some move of the operation passes a test
abbrev pub some_fits : List Move → ℕ → ℕ → (Move → Bool) → Bool
some_fits moves c o p = any_of (λ (m : Move). fits c o m && p m) moves

pub some_fits_iff : (moves : List Move) (c o : ℕ) (p : Move → Bool) → (some_fits moves c o p ≡ true) ↔ ((m : Move) × Can moves c o m × (p m ≡ true))
some_fits_iff moves c o p = (
  λ e.
      let t = some_in test moves e in
      let h = (and-eq-true_iff (fits c o t.0) (p t.0)).0 t.2 in
      let f = fits_parts c o t.0 h.0 in
      (t.0, (t.1, f.0, f.1), h.1),
  λ t. in_some test t.0 moves t.1.0 ((and-eq-true_iff (fits c o t.0) (p t.0)).1 (fits_true c o t.0 t.1.1 t.1.2, t.2)),
)
  where
    test : Move → Bool
    test m = fits c o m && p m

-- each run of the plan passes, or some run does
abbrev pub each_run : List Move → (List Move → Bool) → Plan → ℕ → Bool
each_run moves p stop c = p []
each_run moves p (work o next) c = all_fit moves c o (λ m. each_run moves (λ ms. p (m ∷ ms)) (next m.outcome) m.outcome)

abbrev pub some_run : List Move → (List Move → Bool) → Plan → ℕ → Bool
some_run moves p stop c = p []
some_run moves p (work o next) c = some_fits moves c o (λ m. some_run moves (λ ms. p (m ∷ ms)) (next m.outcome) m.outcome)

pub each_run_iff : (moves : List Move) (p : List Move → Bool) (plan : Plan) (c : ℕ) →
    (each_run moves p plan c ≡ true) ↔ ((ms : List Move) → IsRun moves plan c ms → p ms ≡ true)
each_run_iff moves p stop c = (go, λ h. h [] tt)
  where
    go : p [] ≡ true → (ms : List Move) → IsRun moves stop c ms → p ms ≡ true
    go e [] r = e
    go e (m ∷ ms) r = absurd r
each_run_iff moves p (work o next) c = (
  λ e. go (λ m can. (each_run_iff moves (λ ms. p (m ∷ ms)) (next m.outcome) m.outcome).0 ((all_fit_iff moves c o rest).0 e m can)),
  λ h. (all_fit_iff moves c o rest).1 (λ m can. (each_run_iff moves (λ ms. p (m ∷ ms)) (next m.outcome) m.outcome).1 (λ ms r. h (m ∷ ms) (can, r))),
)
  where
    rest : Move → Bool
    rest m = each_run moves (λ ms. p (m ∷ ms)) (next m.outcome) m.outcome

    go : ((m : Move) → Can moves c o m → (ms : List Move) → IsRun moves (next m.outcome) m.outcome ms → p (m ∷ ms) ≡ true) →
        (ms : List Move) → IsRun moves (work o next) c ms → p ms ≡ true
    go h [] r = absurd r
    go h (m ∷ ms) r = h m r.0 ms r.1

pub some_run_iff : (moves : List Move) (p : List Move → Bool) (plan : Plan) (c : ℕ) →
    (some_run moves p plan c ≡ true) ↔ ((ms : List Move) × IsRun moves plan c ms × (p ms ≡ true))
some_run_iff moves p stop c = (λ e. ([], tt, e), λ t. go t.0 t.1 t.2)
  where
    go : (ms : List Move) → IsRun moves stop c ms → p ms ≡ true → p [] ≡ true
    go [] r e = e
    go (m ∷ ms) r e = absurd r
some_run_iff moves p (work o next) c = (
  λ e.
      let t = (some_fits_iff moves c o rest).0 e in
      let m = t.0 in
      let u = (some_run_iff moves (λ ms. p (m ∷ ms)) (next m.outcome) m.outcome).0 t.2 in
      (m ∷ u.0, (t.1, u.1), u.2),
  λ t. go (λ m can u. (some_fits_iff moves c o rest).1 (m, can, (some_run_iff moves (λ ms. p (m ∷ ms)) (next m.outcome) m.outcome).1 u)) t.0 t.1 t.2,
)
  where
    rest : Move → Bool
    rest m = some_run moves (λ ms. p (m ∷ ms)) (next m.outcome) m.outcome

    go : ((m : Move) → Can moves c o m → ((ms : List Move) × IsRun moves (next m.outcome) m.outcome ms × (p (m ∷ ms) ≡ true)) → some_fits moves c o rest ≡ true) →
        (ms : List Move) → IsRun moves (work o next) c ms → p ms ≡ true → some_fits moves c o rest ≡ true
    go h [] r e = absurd r
    go h (m ∷ ms) r e = h m r.0 (ms, r.1, e)

-- ── what plans cost ──

abbrev pub costs_test : Model → List Move → Plan → ℕ → List ℕ → Bool
costs_test k moves plan c f = some_run moves (λ ms. same_cost (cost k ms) f) plan c && each_run moves (λ ms. k.within (cost k ms) f) plan c

pub costs_decided : (k : Model) (moves : List Move) (plan : Plan) (c : ℕ) (f : List ℕ) → (costs_test k moves plan c f ≡ true) ↔ Costs k moves plan c f
costs_decided k moves plan c f = (
  λ e.
      let h = (and-eq-true_iff (some_run moves same plan c) (each_run moves within plan c)).0 e in
      let t = (some_run_iff moves same plan c).0 h.0 in
      record {
        some = (t.0, t.1, (costs_tell (cost k t.0) f).0 t.2);
        most = λ ms r. was_true ((each_run_iff moves within plan c).0 h.1 ms r);
      },
  λ p.
      (and-eq-true_iff (some_run moves same plan c) (each_run moves within plan c)).1 (
        (some_run_iff moves same plan c).1 (p.some.0, p.some.1, (costs_tell (cost k p.some.0) f).1 p.some.2),
        (each_run_iff moves within plan c).1 (λ ms r. was_so (within ms) (p.most ms r)),
      ),
)
  where
    same : List Move → Bool
    same ms = same_cost (cost k ms) f

    within : List Move → Bool
    within ms = k.within (cost k ms) f

abbrev pub prices_test : Model → List Move → (ℕ → Bool) → (ℕ → Bool) → ℕ → List ℕ → Plan → Bool
prices_test k moves keep goal c f plan = attains_test moves keep goal plan c && costs_test k moves plan c f

pub prices_decided : (k : Model) (moves : List Move) (keep goal : ℕ → Bool) (c : ℕ) (f : List ℕ) (plan : Plan) →
    (prices_test k moves keep goal c f plan ≡ true) ↔ Prices k moves keep goal c f plan
prices_decided k moves keep goal c f plan =
    both (attains_test moves keep goal plan c) (costs_test k moves plan c f) (attains_decided moves keep goal plan c) (costs_decided k moves plan c f)
