-- Tests that decide what is said of plans over the sluice: of each or some run of theirs, what they cost, and where they end.
use Rattle.std.proofs.Common.{◌≡◌, ℕ, Bool, true, false, ◌&&◌, T, ◌↔◌, List, [], ◌∷◌, refl}
use mathlib.Core.Bool.{and-eq-true_iff}
use Rattle.port.specs.declared.Move.{Move}
use Rattle.plans.specs.Flags.{task_at}
use Rattle.plans.specs.Plans.{Plan, stop, work, Can, IsRun, end}
use Rattle.plans.specs.Simulation.{WellFormed}
use Rattle.costs.specs.Costs.{cost}
use Rattle.costs.proofs.Order.{was_true}
use Rattle.solver.specs.Policy.{World, Safe, Price}
use Rattle.cases_plans.proofs.Tests.{both, all_fit, all_fit_iff, attains_test, attains_decided}
use Rattle.cases_plans.proofs.Kept.{kept_test, kept_decided}
use Rattle.cases_histories.proofs.Tests.{same_numbers, numbers_tell, some_fits, some_fits_iff}

pub is_so : (b : Bool) → T b → b ≡ true
is_so true t = refl
is_so false t = absurd t

-- ── runs ──

-- each run of the plan passes, or some run does
abbrev pub each_run : List Move → (List Move → Bool) → Plan → ℕ → Bool
each_run moves p stop c = p []
each_run moves p (work o next) c = all_fit moves c o (λ m. each_run moves (λ ms. p (m ∷ ms)) (next m.outcome) m.outcome)

abbrev pub some_run : List Move → (List Move → Bool) → Plan → ℕ → Bool
some_run moves p stop c = p []
some_run moves p (work o next) c = some_fits moves c o (λ m. some_run moves (λ ms. p (m ∷ ms)) (next m.outcome) m.outcome)

pub each_run_iff : (moves : List Move) (p : List Move → Bool) (plan : Plan) (c : ℕ) →
    (each_run moves p plan c ≡ true) ↔ ((ms : List Move) → IsRun moves plan c ms → p ms ≡ true)
each_run_iff moves p stop c = (go, λ h. h [] tt)
  where
    go : p [] ≡ true → (ms : List Move) → IsRun moves stop c ms → p ms ≡ true
    go e [] r = e
    go e (m ∷ ms) r = absurd r
each_run_iff moves p (work o next) c = (
  λ e. go (λ m can. (each_run_iff moves (λ ms. p (m ∷ ms)) (next m.outcome) m.outcome).0 ((all_fit_iff moves c o rest).0 e m can)),
  λ h. (all_fit_iff moves c o rest).1 (λ m can. (each_run_iff moves (λ ms. p (m ∷ ms)) (next m.outcome) m.outcome).1 (λ ms r. h (m ∷ ms) (can, r))),
)
  where
    rest : Move → Bool
    rest m = each_run moves (λ ms. p (m ∷ ms)) (next m.outcome) m.outcome

    go : ((m : Move) → Can moves c o m → (ms : List Move) → IsRun moves (next m.outcome) m.outcome ms → p (m ∷ ms) ≡ true) →
        (ms : List Move) → IsRun moves (work o next) c ms → p ms ≡ true
    go h [] r = absurd r
    go h (m ∷ ms) r = h m r.0 ms r.1

pub some_run_iff : (moves : List Move) (p : List Move → Bool) (plan : Plan) (c : ℕ) →
    (some_run moves p plan c ≡ true) ↔ ((ms : List Move) × IsRun moves plan c ms × (p ms ≡ true))
some_run_iff moves p stop c = (λ e. ([], tt, e), λ t. go t.0 t.1 t.2)
  where
    go : (ms : List Move) → IsRun moves stop c ms → p ms ≡ true → p [] ≡ true
    go [] r e = e
    go (m ∷ ms) r e = absurd r
some_run_iff moves p (work o next) c = (
  λ e.
      let t = (some_fits_iff moves c o rest).0 e in
      let m = t.0 in
      let u = (some_run_iff moves (λ ms. p (m ∷ ms)) (next m.outcome) m.outcome).0 t.2 in
      (m ∷ u.0, (t.1, u.1), u.2),
  λ t. go (λ m can u. (some_fits_iff moves c o rest).1 (m, can, (some_run_iff moves (λ ms. p (m ∷ ms)) (next m.outcome) m.outcome).1 u)) t.0 t.1 t.2,
)
  where
    rest : Move → Bool
    rest m = some_run moves (λ ms. p (m ∷ ms)) (next m.outcome) m.outcome

    go : ((m : Move) → Can moves c o m → ((ms : List Move) × IsRun moves (next m.outcome) m.outcome ms × (p (m ∷ ms) ≡ true)) → some_fits moves c o rest ≡ true) →
        (ms : List Move) → IsRun moves (work o next) c ms → p ms ≡ true → some_fits moves c o rest ≡ true
    go h [] r e = absurd r
    go h (m ∷ ms) r e = h m r.0 (ms, r.1, e)

-- ── what is safe, and at what price ──

abbrev pub price_test : World → Plan → ℕ → List ℕ → Bool
price_test v plan c f =
    some_run v.domain.moves (λ ms. same_numbers (cost v.model ms) f) plan c && each_run v.domain.moves (λ ms. v.model.within (cost v.model ms) f) plan c

pub price_decided : (v : World) (plan : Plan) (c : ℕ) (f : List ℕ) → (price_test v plan c f ≡ true) ↔ Price v plan c f
price_decided v plan c f = (
  λ e.
      let h = (and-eq-true_iff (some_run v.domain.moves same plan c) (each_run v.domain.moves within plan c)).0 e in
      let t = (some_run_iff v.domain.moves same plan c).0 h.0 in
      record {
        some = (t.0, t.1, (numbers_tell (cost v.model t.0) f).0 t.2);
        most = λ ms r. was_true ((each_run_iff v.domain.moves within plan c).0 h.1 ms r);
      },
  λ p.
      (and-eq-true_iff (some_run v.domain.moves same plan c) (each_run v.domain.moves within plan c)).1 (
        (some_run_iff v.domain.moves same plan c).1 (p.some.0, p.some.1, (numbers_tell (cost v.model p.some.0) f).1 p.some.2),
        (each_run_iff v.domain.moves within plan c).1 (λ ms r. is_so (within ms) (p.most ms r)),
      ),
)
  where
    same : List Move → Bool
    same ms = same_numbers (cost v.model ms) f

    within : List Move → Bool
    within ms = v.model.within (cost v.model ms) f

-- a plan meets the request, and ends in a set
abbrev pub inside_test : World → ℕ → (ℕ → Bool) → Plan → ℕ → Bool
inside_test v q X plan c =
    attains_test v.domain.moves (task_at v.domain q).keep (task_at v.domain q).reach plan c && each_run v.domain.moves (λ ms. X (end c ms)) plan c

abbrev pub safe_test : World → ℕ → Plan → ℕ → Bool
safe_test v q plan c = inside_test v q (kept_test v.domain (task_at v.domain q).to) plan c

pub safe_decided : (v : World) → WellFormed v.domain → (q : ℕ) (plan : Plan) (c : ℕ) → (safe_test v q plan c ≡ true) ↔ Safe v q plan c
safe_decided v wf q plan c =
    both (attains_test v.domain.moves (task_at v.domain q).keep (task_at v.domain q).reach plan c) (each_run v.domain.moves inside plan c)
    (attains_decided v.domain.moves (task_at v.domain q).keep (task_at v.domain q).reach plan c) (
      λ e ms r. (kept_decided v.domain wf to (end c ms)).0 ((each_run_iff v.domain.moves inside plan c).0 e ms r),
      λ h. (each_run_iff v.domain.moves inside plan c).1 (λ ms r. (kept_decided v.domain wf to (end c ms)).1 (h ms r)),
    )
  where
    to : ℕ
    to = (task_at v.domain q).to

    inside : List Move → Bool
    inside ms = kept_test v.domain to (end c ms)
