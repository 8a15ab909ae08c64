-- The rule for what is attainable: it is sound, and a closed set has all that is.
use Rattle.std.proofs.Common.{◌≡◌, ℕ, ◌<◌, Bool, true, false, ◌⊎◌, ◌↔◌, List, [], ◌∷◌, sym, refl, ap, ◌∙◌, subst, inl, inr}
use mathlib.Core.Bool.{and-eq-true_iff, false≢true}
use Rattle.port.specs.Limits.{In}
use Rattle.port.specs.declared.Move.{Move}
use Rattle.plans.specs.Plans.{Plan, stop, work, Can, Possible, IsRun, end, Works, Attains, Within}
use Rattle.plans.specs.Simulation.{Domain, Task, Meets, EndsIn, Holds}
use Rattle.plans.specs.Reach.{Attainable, Steps, Member, Closed, aim}
use Rattle.plans.proofs.Serve.{end_within}

-- The goal with the set at its end is the request's goal, and the end in the set.
pub aim_meets : (D : Domain) (q : Task) (R : ℕ → ℕ → Bool) (c : ℕ) →
    Attainable D.moves q.keep (aim R q) c ↔ ((plan : Plan) × Meets D q plan c × EndsIn D plan c (Holds R q.to))
aim_meets D q R c = (
  λ a. (a.0, (a.1.0, λ ms r. ((a.1.1 ms r).0, (both (end c ms) (a.1.1 ms r).1).0)), λ ms r. (both (end c ms) (a.1.1 ms r).1).1),
  λ a. (a.0, (a.1.0, λ ms r. ((a.1.1 ms r).0, (and-eq-true_iff (q.reach (end c ms)) (R q.to (end c ms))).1 ((a.1.1 ms r).1, a.2 ms r)))),
)
  where
    both : (x : ℕ) → Member (aim R q) x → (q.reach x ≡ true) × (R q.to x ≡ true)
    both x h = (and-eq-true_iff (q.reach x) (R q.to x)).0 h

-- ── the rule is sound ──

pick : (moves : List Move) (keep goal G : ℕ → Bool) → ((x : ℕ) → Member G x → Attainable moves keep goal x) →
    (x : ℕ) (b : Bool) → G x ≡ b → Plan
pick moves keep goal G plans x true e = (plans x e).0
pick moves keep goal G plans x false e = stop

pick_attains : (moves : List Move) (keep goal G : ℕ → Bool) (plans : (x : ℕ) → Member G x → Attainable moves keep goal x) →
    (x : ℕ) (b : Bool) (e : G x ≡ b) → b ≡ true → Attains moves keep goal (pick moves keep goal G plans x b e) x
unfolding pick
pick_attains moves keep goal G plans x true e t = (plans x e).1
pick_attains moves keep goal G plans x false e t = absurd (false≢true t)

-- An operation that keeps, is possible, and after which each outcome's plan attains the goal.
pub work_attains : (moves : List Move) (keep goal : ℕ → Bool) (o : ℕ) (next : ℕ → Plan) (c : ℕ) → keep c ≡ true → Possible moves c o →
    ((m : Move) → Can moves c o m → Attains moves keep goal (next m.outcome) m.outcome) → Attains moves keep goal (work o next) c
work_attains moves keep goal o next c kept possible rest = ((possible, λ m can. (rest m can).0), runs)
  where
    runs : (ms : List Move) → IsRun moves (work o next) c ms →
        ((m : Move) → In m ms → keep m.condition ≡ true) × (goal (end c ms) ≡ true)
    runs [] r = absurd r
    runs (m ∷ ms) r = let t = (rest m r.0).1 ms r.1 in (λ a i. keeps a i t.0, t.1)
      where
        keeps : (a : Move) → (a ≡ m) ⊎ In a ms → ((b : Move) → In b ms → keep b.condition ≡ true) → keep a.condition ≡ true
        keeps a (inl e) k = ap (λ (b : Move). keep b.condition) e ∙ ap keep r.0.1 ∙ kept
        keeps a (inr i) k = k a i

pub stop_attains : (moves : List Move) (keep goal : ℕ → Bool) (c : ℕ) → Member goal c → Attains moves keep goal stop c
stop_attains moves keep goal c h = (tt, runs)
  where
    runs : (ms : List Move) → IsRun moves stop c ms → ((m : Move) → In m ms → keep m.condition ≡ true) × (goal (end c ms) ≡ true)
    runs [] r = (λ m i. absurd i, h)
    runs (m ∷ ms) r = absurd r

-- A condition that steps into a set of attainable conditions is attainable.
pub step_attains : (moves : List Move) (keep goal G : ℕ → Bool) → ((x : ℕ) → Member G x → Attainable moves keep goal x) →
    (c : ℕ) → Steps moves keep (Member G) c → Attainable moves keep goal c
step_attains moves keep goal G plans c (o, kept, possible, into) = (
  work o next,
  work_attains moves keep goal o next c kept possible
      (λ m can. pick_attains moves keep goal G plans m.outcome (G m.outcome) refl (into m can)),
)
  where
    next : ℕ → Plan
    next x = pick moves keep goal G plans x (G x) refl

-- ── a closed set has all that is attainable ──

-- A plan that works has a run.
pub has_run : (moves : List Move) (plan : Plan) (c : ℕ) → Works moves plan c → (ms : List Move) × IsRun moves plan c ms
has_run moves stop c w = ([], tt)
has_run moves (work o next) c w =
    let m = w.0.0 in
    let t = has_run moves (next m.outcome) m.outcome (w.1 m w.0.1) in
    (m ∷ t.0, (w.0.1, t.1))

-- After a move that the plan may make, the rest of the plan attains the goal.
pub after : (moves : List Move) (keep goal : ℕ → Bool) (o : ℕ) (next : ℕ → Plan) (c : ℕ) → Attains moves keep goal (work o next) c →
    (m : Move) → Can moves c o m → Attains moves keep goal (next m.outcome) m.outcome
after moves keep goal o next c a m can =
    (a.0.1 m can, λ ms r. let t = a.1 (m ∷ ms) (can, r) in (λ b i. t.0 b (inr i), t.1))

pub works_kept : (moves : List Move) (keep goal : ℕ → Bool) (o : ℕ) (next : ℕ → Plan) (c : ℕ) → Attains moves keep goal (work o next) c → keep c ≡ true
works_kept moves keep goal o next c a =
    let m = a.0.0.0 in
    let can = a.0.0.1 in
    let t = has_run moves (next m.outcome) m.outcome (a.0.1 m can) in
    ap keep (sym can.1) ∙ (a.1 (m ∷ t.0) (can, t.1)).0 m (inl refl)

-- A closed set has each attainable condition below n.
pub closed_has : (n : ℕ) (moves : List Move) → Within n moves → (keep goal G : ℕ → Bool) → Closed n moves keep goal G →
    (c : ℕ) → c < n → Attainable moves keep goal c → Member G c
closed_has n moves wf keep goal G cl c h (plan, a) = go plan c h a
  where
    go : (plan : Plan) (c : ℕ) → c < n → Attains moves keep goal plan c → Member G c
    go stop c h a = cl.goals c h (a.1 [] tt).1
    go (work o next) c h a =
        cl.steps c h (
          o,
          works_kept moves keep goal o next c a,
          a.0.0,
          λ m can. go (next m.outcome) m.outcome (wf m can.0).1 (after moves keep goal o next c a m can),
        )

-- ── wider conditions ──

-- The moves of a run are moves of the port.
pub run_moves : (moves : List Move) (plan : Plan) (c : ℕ) (ms : List Move) → IsRun moves plan c ms → (m : Move) → In m ms → In m moves
run_moves moves stop c [] r m i = absurd i
run_moves moves stop c (a ∷ ms) r m i = absurd r
run_moves moves (work o next) c [] r m i = absurd r
run_moves moves (work o next) c (a ∷ ms) r m (inl e) = subst (λ (b : Move). In b moves) (sym e) r.0.0
run_moves moves (work o next) c (a ∷ ms) r m (inr i) = run_moves moves (next a.outcome) a.outcome ms r.1 m i

-- What is attainable is attainable with more conditions to keep to and more goals, among the conditions below n.
pub attainable_wider : (n : ℕ) (moves : List Move) → Within n moves → (keep goal wider aims : ℕ → Bool) →
    ((c : ℕ) → c < n → Member keep c → Member wider c) →
    ((c : ℕ) → c < n → Member goal c → Member aims c) →
    (c : ℕ) → c < n → Attainable moves keep goal c → Attainable moves wider aims c
attainable_wider n moves wf keep goal wider aims ks gs c h (plan, a) = (
  plan,
  (
    a.0,
    λ ms r. (
      λ m i. ks m.condition (wf m (run_moves moves plan c ms r m i)).0 ((a.1 ms r).0 m i),
      gs (end c ms) (end_within n moves wf plan c ms h r) (a.1 ms r).1,
    ),
  ),
)
