-- There is one right entry with one cost; and those of the sluice.
use Rattle.std.proofs.Common.{◌≡◌, ℕ, zero, suc, ◌<◌, ◌≤◌, Bool, true, false, ◌&&◌, ◌↔◌, ◌+◌, List, [], ◌∷◌, get_or, sym, refl, ap, ◌∙◌, subst, inl, inr, arith}
use mathlib.Core.Bool.{and-eq-true_iff, false≢true}
use native.Mathlib.Decide.{dec_lt}
use Rattle.port.specs.Limits.{In}
use Rattle.port.specs.declared.Move.{Move}
use Rattle.plans.specs.Flags.{task_at}
use Rattle.plans.specs.Plans.{Plan, stop, work, Can, IsRun, Works}
use Rattle.plans.specs.Simulation.{WellFormed}
use Rattle.locks.specs.Places.{possible}
use Rattle.locks.proofs.Standing.{possible_there}
use Rattle.costs.specs.Costs.{Laws, Sized, Le, cost}
use Rattle.costs.specs.Models.{minutes_laws, →lex, Lex}
use Rattle.costs.proofs.Order.{weaken, cost_sized}
use Rattle.search.proofs.Runs.{has_cost}
use Rattle.solver.specs.declared.Entry.{Entry}
use Rattle.solver.specs.declared.Entry.TheVariants.{None, There, Work}
use Rattle.solver.specs.Policy.{World, Safe, Price, Begins, Best, Right}
use Rattle.cases_plans.proofs.Kept.{formed_decided}
use Rattle.cases_histories.specs.Sluice.{moves, sluice, two, w, working}
use Rattle.cases_histories.proofs.Plans.{safe_test, safe_decided, price_test, price_decided}

-- ── there is one ──

module _ (v : World) (laws : Laws v.model) where
  pub priced_sized : (plan : Plan) (c : ℕ) (f : List ℕ) → Price v plan c f → Sized v.model f
  priced_sized plan c f p = subst (Sized v.model) p.some.2 (cost_sized (weaken laws) p.some.0)

  -- a price is at most another of the same plan
  at_most : (plan : Plan) (c : ℕ) (f g : List ℕ) → Price v plan c f → Price v plan c g → Le v.model f g
  at_most plan c f g p q = subst (λ (x : List ℕ). Le v.model x g) p.some.2 (q.most p.some.0 p.some.1)

  pub one_price : (plan : Plan) (c : ℕ) (f g : List ℕ) → Price v plan c f → Price v plan c g → f ≡ g
  one_price plan c f g p q =
      laws.tie f g (priced_sized plan c f p) (priced_sized plan c g q) (at_most plan c f g p q) (at_most plan c g f q p)

  best_least : (q c o p : ℕ) (f g : List ℕ) → Best v q c o f → Best v q c p g → Le v.model f g
  best_least q c o p f g a b =
      let t = a.least (work p b.begins.0) b.begins.1 in
      subst (λ (x : List ℕ). Le v.model f x) (one_price (work p b.begins.0) c t.0 g t.1 b.begins.2) t.2

  best_cost : (q c o p : ℕ) (f g : List ℕ) → Best v q c o f → Best v q c p g → f ≡ g
  best_cost q c o p f g a b =
      laws.tie f g (priced_sized (work o a.begins.0) c f a.begins.2) (priced_sized (work p b.begins.0) c g b.begins.2)
      (best_least q c o p f g a b) (best_least q c p o g f b a)

  best_operation : (q c o p : ℕ) (f g : List ℕ) → Best v q c o f → Best v q c p g → o ≡ p
  best_operation q c o p f g a b =
      let e = best_cost q c o p f g a b in
      let l = a.lowest p (subst (λ (x : List ℕ). Begins v q c p x) (sym e) b.begins) in
      let m = b.lowest o (subst (λ (x : List ℕ). Begins v q c o x) e a.begins) in
      omega (arith, l, m)

  pub right_one : (q c : ℕ) (x y : Entry) (f g : List ℕ) → Right v q c x f → Right v q c y g → (x ≡ y) × (f ≡ g)
  right_one q c None None f g a b = (refl, a.1 ∙ sym b.1)
  right_one q c None There f g a b = absurd (a.0 stop b.0)
  right_one q c None (Work p) f g a b = absurd (a.0 (work p b.1.begins.0) b.1.begins.1)
  right_one q c There None f g a b = absurd (b.0 stop a.0)
  right_one q c There There f g a b = (refl, a.1 ∙ sym b.1)
  right_one q c There (Work p) f g a b = absurd (b.0 a.0)
  right_one q c (Work o) None f g a b = absurd (b.0 (work o a.1.begins.0) a.1.begins.1)
  right_one q c (Work o) There f g a b = absurd (a.0 b.0)
  right_one q c (Work o) (Work p) f g a b = (ap Work (best_operation q c o p f g a.1 b.1), best_cost q c o p f g a.1 b.1)

-- ── plans over the sluice ──

pub formed : WellFormed sluice
formed = (formed_decided sluice).0 refl

-- after any move nothing is possible
ends_idle : (m : Move) → In m moves → (o : ℕ) → possible moves m.outcome o ≡ false
ends_idle m (inl e) o = ap (λ (x : Move). possible moves x.outcome o) e
ends_idle m (inr (inl e)) o = ap (λ (x : Move). possible moves x.outcome o) e
ends_idle m (inr (inr (inl e))) o = ap (λ (x : Move). possible moves x.outcome o) e
ends_idle m (inr (inr (inr (inl e)))) o = ap (λ (x : Move). possible moves x.outcome o) e
ends_idle m (inr (inr (inr (inr n)))) o = absurd n

-- where nothing is possible, a plan that works stops
stops : (plan : Plan) (c : ℕ) → ((o : ℕ) → possible moves c o ≡ false) → Works moves plan c → plan ≡ stop
stops stop c idle x = refl
stops (work o next) c idle x = absurd (false≢true (sym (idle o) ∙ possible_there moves c o x.0))

module _ (c o : ℕ) (next : ℕ → Plan) (works : Works moves (work o next) c) where
  after : (m : Move) → Can moves c o m → next m.outcome ≡ stop
  after m can = stops (next m.outcome) m.outcome (ends_idle m can.0) (works.1 m can)

  -- the runs are those of the plan that works the operation and stops
  run_to : (ms : List Move) → IsRun moves (work o next) c ms → IsRun moves (working o) c ms
  run_to [] r = absurd r
  run_to (m ∷ ms) r = (r.0, subst (λ (p : Plan). IsRun moves p m.outcome ms) (after m r.0) r.1)

  run_of : (ms : List Move) → IsRun moves (working o) c ms → IsRun moves (work o next) c ms
  run_of [] r = absurd r
  run_of (m ∷ ms) r = (r.0, subst (λ (p : Plan). IsRun moves p m.outcome ms) (sym (after m r.0)) r.1)

abbrev pub begins_test : ℕ → ℕ → ℕ → List ℕ → Bool
begins_test q c o f = safe_test w q (working o) c && price_test w (working o) c f

pub begins_decided : (q c o : ℕ) (f : List ℕ) → (begins_test q c o f ≡ true) ↔ Begins w q c o f
begins_decided q c o f = (
  λ e.
      let h = (and-eq-true_iff (safe_test w q (working o) c) (price_test w (working o) c f)).0 e in
      (λ d. stop, (safe_decided w formed q (working o) c).0 h.0, (price_decided w (working o) c f).0 h.1),
  λ b.
      (and-eq-true_iff (safe_test w q (working o) c) (price_test w (working o) c f)).1
      ((safe_decided w formed q (working o) c).1 (safe b.0 b.1), (price_decided w (working o) c f).1 (price b.0 b.1 b.2)),
)
  where
    safe : (next : ℕ → Plan) → Safe w q (work o next) c → Safe w q (working o) c
    safe next s = (
      ((s.0.0.0, λ m can. tt), λ ms r. s.0.1 ms (run_of c o next s.0.0 ms r)),
      λ ms r. s.1 ms (run_of c o next s.0.0 ms r),
    )

    price : (next : ℕ → Plan) → Safe w q (work o next) c → Price w (work o next) c f → Price w (working o) c f
    price next s p = record {
      some = (p.some.0, run_to c o next s.0.0 p.some.0 p.some.1, p.some.2);
      most = λ ms r. p.most ms (run_of c o next s.0.0 ms r);
    }

-- ── what is right in the sluice ──

-- where nothing is possible and stopping is not safe, no plan is
nothing : (q c : ℕ) → ((o : ℕ) → possible moves c o ≡ false) → safe_test w q stop c ≡ false → (plan : Plan) → Safe w q plan c → ⊥
nothing q c idle e stop s = false≢true (sym e ∙ (safe_decided w formed q stop c).1 s)
nothing q c idle e (work o next) s = false≢true (sym (idle o) ∙ possible_there moves c o s.0.0.0)

-- a move from low takes three minutes or more
three : (m : Move) → In m moves → 3 ≤ m.minutes
three m (inl e) = subst (λ (x : Move). 3 ≤ x.minutes) (sym e) (omega arith)
three m (inr (inl e)) = subst (λ (x : Move). 3 ≤ x.minutes) (sym e) (omega arith)
three m (inr (inr (inl e))) = subst (λ (x : Move). 3 ≤ x.minutes) (sym e) (omega arith)
three m (inr (inr (inr (inl e)))) = subst (λ (x : Move). 3 ≤ x.minutes) (sym e) (omega arith)
three m (inr (inr (inr (inr n)))) = absurd n

pub joined : (minutes a b : ℕ) → 3 ≤ minutes → Lex 3 1 (a + minutes) (b + 1)
joined minutes a b l =
    elim (dec_lt 3 (a + minutes)) [
      | yes h ↦ inl h
      | no h ↦ inr (omega arith, omega arith)
    ]

-- a run from low costs three minutes and a move, or more
dear : (plan : Plan) → Safe w 0 plan 0 → (ms : List Move) → IsRun moves plan 0 ms → Le w.model (two 3 1) (cost w.model ms)
dear stop s ms r = absurd (false≢true ((safe_decided w formed 0 stop 0).1 s))
dear (work o next) s [] r = absurd r
dear (work o next) s (m ∷ ms) r =
    →lex 3 1 (get_or (cost w.model ms) 0 0 + m.minutes) (get_or (cost w.model ms) 1 0 + 1)
    (joined m.minutes (get_or (cost w.model ms) 0 0) (get_or (cost w.model ms) 1 0) (three m r.0.0))

lift_best : Best w 0 0 1 (two 3 1)
lift_best = record {
  begins = (begins_decided 0 0 1 (two 3 1)).0 refl;
  least = λ plan s.
      let t = has_cost (weaken minutes_laws) moves (task_at sluice 0).keep (task_at sluice 0).reach plan 0 s.0 in
      (t.0, t.1, subst (λ (x : List ℕ). Le w.model (two 3 1) x) t.1.some.2 (dear plan s t.1.some.0 t.1.some.1));
  lowest = λ p b. elim (dec_lt p 1) [
    | yes l ↦
        let e : p ≡ 0 = omega (arith, l) in
        absurd (false≢true ((begins_decided 0 0 0 (two 3 1)).1 (subst (λ (x : ℕ). Begins w 0 0 x (two 3 1)) e b)))
    | no l ↦ omega arith
  ];
}

high_idle : (o : ℕ) → possible moves 1 o ≡ false
high_idle o = refl

flooded_idle : (o : ℕ) → possible moves 2 o ≡ false
flooded_idle o = refl

pub own_right : (q c : ℕ) → q < 3 → c < 3 → Right w q c (w.entry q c) (w.cost q c)
own_right zero zero l m = (λ s. false≢true ((safe_decided w formed 0 stop 0).1 s), lift_best)
own_right zero (suc zero) l m = ((safe_decided w formed 0 stop 1).0 refl, refl)
own_right zero (suc (suc zero)) l m = ((safe_decided w formed 0 stop 2).0 refl, refl)
own_right (suc zero) zero l m = ((safe_decided w formed 1 stop 0).0 refl, refl)
own_right (suc zero) (suc zero) l m = (nothing 1 1 high_idle refl, refl)
own_right (suc zero) (suc (suc zero)) l m = (nothing 1 2 flooded_idle refl, refl)
own_right (suc (suc zero)) zero l m = ((safe_decided w formed 2 stop 0).0 refl, refl)
own_right (suc (suc zero)) (suc zero) l m = (nothing 2 1 high_idle refl, refl)
own_right (suc (suc zero)) (suc (suc zero)) l m = (nothing 2 2 flooded_idle refl, refl)
own_right zero (suc (suc (suc c))) l m = absurd (omega (arith, m))
own_right (suc zero) (suc (suc (suc c))) l m = absurd (omega (arith, m))
own_right (suc (suc zero)) (suc (suc (suc c))) l m = absurd (omega (arith, m))
own_right (suc (suc (suc q))) c l m = absurd (omega (arith, l))
