-- A table of entries and costs that passes a computed test has the least cost over all plans in each condition.
use Rattle.std.proofs.Common.{◌≡◌, ℕ, zero, suc, ◌<◌, ◌≤◌, Bool, true, false, cond, not, ◌&&◌, ◌||◌, T, eqb, ltb, leb, ◌⊎◌, List, [], ◌∷◌, length, Some, None as Without, Option, sym, refl, ap, ◌∙◌, subst, inl, inr, ⊎_elim, true≢false, arith, le-ltb, lt-ltb, eq-eqb, eqb-true, leb-true}
use mathlib.Core.Bool.{and-eq-true_iff, false≢true}
use native.Mathlib.Decide.{dec_lt}
use Rattle.port.specs.Limits.{In}
use Rattle.port.specs.declared.Move.{Move}
use Rattle.plans.specs.Plans.{Plan, stop, work, Within, Can, IsRun, Attains}
use Rattle.plans.specs.Reach.{any_of, each, leads}
use Rattle.plans.proofs.Decide.{each_in, some_in, implies, or_cases, leads_iff}
use Rattle.costs.specs.Costs.{Model, WeakLaws, Sized, Le, cost as run_cost}
use Rattle.search.specs.Answers.{Costs, Prices, RightChoice}
use Rattle.search.specs.Labels.{After, Worst, Offered, Final}
use Rattle.search.specs.declared.Choice.{Choice}
use Rattle.search.specs.declared.Choice.TheVariants.{None as NoChoice, There as ThereChoice, Work as WorkChoice}
use Rattle.costs.proofs.Order.{was_true, cost_sized}
use Rattle.search.proofs.Runs.{worst_after, worst_sized, stop_attains, stop_costs, after, has_cost}
use Rattle.search.proofs.Settle.{some_inj, none_some, AllSized, look, begins, next, no_plan, best}
use Rattle.solver.specs.declared.Entry.{Entry}
use Rattle.solver.specs.declared.Entry.TheVariants.{None, There, Work}

-- ── tests ──

-- the cost of an entry, where it has one
abbrev pub priced : Entry → List ℕ → Option (List ℕ)
priced None f = Without
priced There f = Some f
priced (Work o) f = Some f

-- an entry with its cost, as a search would answer
abbrev pub choice : Entry → List ℕ → Choice (List ℕ)
choice None f = NoChoice
choice There f = ThereChoice
choice (Work o) f = WorkChoice o f

-- there is a cost, and it passes
abbrev meets : (List ℕ → Bool) → Option (List ℕ) → Bool
meets test Without = false
meets test (Some a) = test a

-- there is no cost, or it passes
abbrev barred : (List ℕ → Bool) → Option (List ℕ) → Bool
barred test Without = true
barred test (Some a) = test a

meets_some : (test : List ℕ → Bool) (x : Option (List ℕ)) → meets test x ≡ true → (a : List ℕ) × (x ≡ Some a) × (test a ≡ true)
meets_some test Without e = absurd (false≢true e)
meets_some test (Some a) e = (a, refl, e)

barred_some : (test : List ℕ → Bool) (x : Option (List ℕ)) (a : List ℕ) → barred test x ≡ true → x ≡ Some a → test a ≡ true
barred_some test Without a e q = absurd (none_some q)
barred_some test (Some b) a e q = ap test (sym (some_inj q)) ∙ e

not_true : (b : Bool) → not b ≡ true → b ≡ false
not_true true e = absurd (false≢true e)
not_true false e = refl

module _ (k : Model) (moves : List Move) (keep goal : ℕ → Bool) (n : ℕ) (entry : ℕ → Entry) (cost : ℕ → List ℕ) where
  abbrev pub table : ℕ → Option (List ℕ)
  table c = cond (ltb c n) (priced (entry c) (cost c)) Without

  abbrev here : ℕ → ℕ → Move → Bool
  here c o m = eqb m.condition c && eqb m.operation o

  -- of each operation in c, some move passes
  abbrev each_has : ℕ → (Move → Bool) → Bool
  each_has c p = each (λ (a : Move). not (eqb a.condition c) || any_of (λ (m : Move). here c a.operation m && p m) moves) moves

  -- each move of the operation costs at most f with what follows it, and some move as much
  abbrev within_all : ℕ → ℕ → List ℕ → Bool
  within_all c o f = each (λ (m : Move). not (here c o m) || meets (λ (a : List ℕ). k.within (k.join m a) f) (table m.outcome)) moves

  abbrev within_some : ℕ → ℕ → List ℕ → Bool
  within_some c o f = any_of (λ (m : Move). here c o m && meets (λ (a : List ℕ). k.within f (k.join m a)) (table m.outcome)) moves

  -- the entries lead from c to the goal, in at most so many moves
  abbrev onward : Entry → ℕ → (ℕ → Bool) → Bool
  onward None c X = false
  onward There c X = false
  onward (Work o) c X = leads moves X c o

  abbrev arrives : ℕ → ℕ → Bool
  arrives zero c = goal c
  arrives (suc j) c = arrives j c || onward (entry c) c (arrives j)

  -- no operation has a cost after each of its moves
  abbrev blocked : ℕ → Bool
  blocked c = each_has c (λ (m : Move). barred (λ (a : List ℕ). false) (table m.outcome))

  -- no operation costs less, and no lower one as little
  abbrev least : ℕ → Bool
  least c = each_has c (λ (m : Move). barred (λ (a : List ℕ). k.within (cost c) (k.join m a)) (table m.outcome))

  abbrev lowest : ℕ → ℕ → Bool
  lowest c o = each_has c (λ (m : Move). leb o m.operation || barred (λ (a : List ℕ). not (k.within (k.join m a) (cost c))) (table m.outcome))

  abbrev judged : Entry → ℕ → Bool
  judged None c = not (goal c) && (k.within (cost c) k.zero && (not (keep c) || blocked c))
  judged There c = goal c && k.within (cost c) k.zero
  judged (Work o) c =
      not (goal c) && (keep c && (within_all c o (cost c) && (within_some c o (cost c) && (arrives n c && (least c && lowest c o)))))

  abbrev pub fits : ℕ → Bool
  fits c = eqb (length (cost c)) k.columns && judged (entry c) c

  -- ── what they say ──

  here_can : (c o : ℕ) (m : Move) → In m moves → here c o m ≡ true → Can moves c o m
  here_can c o m i e =
      let h = (and-eq-true_iff (eqb m.condition c) (eqb m.operation o)).0 e in
      (i, eqb-true m.condition c h.0, eqb-true m.operation o h.1)

  can_here : (c o : ℕ) (m : Move) → Can moves c o m → here c o m ≡ true
  can_here c o m can =
      (and-eq-true_iff (eqb m.condition c) (eqb m.operation o)).1 (eq-eqb m.condition c can.1, eq-eqb m.operation o can.2)

  has_one : (c : ℕ) (p : Move → Bool) → each_has c p ≡ true → (o : ℕ) (a : Move) → Can moves c o a → (m : Move) × Can moves c o m × (p m ≡ true)
  has_one c p e o a can =
      let passes : Move → Bool = λ m. here c a.operation m && p m in
      let found = some_in passes moves
      ((implies (eqb a.condition c) (any_of passes moves)).0
      (each_in (λ (b : Move). not (eqb b.condition c) || any_of (λ (m : Move). here c b.operation m && p m) moves) moves e a can.0)
      (eq-eqb a.condition c can.1)) in
      let m = found.0 in
      let h = (and-eq-true_iff (here c a.operation m) (p m)).0 found.2 in
      let at = here_can c a.operation m found.1 h.0 in
      (m, (at.0, at.1, at.2 ∙ can.2), h.1)

  -- ── what a table that passes comes to ──

  module _ (laws : WeakLaws k) (inside : Within n moves) (passes : (c : ℕ) → c < n → fits c ≡ true) where
    sized_at : (c : ℕ) → c < n → Sized k (cost c)
    sized_at c l = eqb-true (length (cost c)) k.columns ((and-eq-true_iff (eqb (length (cost c)) k.columns) (judged (entry c) c)).0 (passes c l)).0

    judged_at : (c : ℕ) → c < n → judged (entry c) c ≡ true
    judged_at c l = ((and-eq-true_iff (eqb (length (cost c)) k.columns) (judged (entry c) c)).0 (passes c l)).1

    table_in : (c : ℕ) → c < n → table c ≡ priced (entry c) (cost c)
    table_in c l = ap (λ (b : Bool). cond b (priced (entry c) (cost c)) Without) (lt-ltb c n l)

    known : (c : ℕ) (a : List ℕ) → table c ≡ Some a → (c < n) × (priced (entry c) (cost c) ≡ Some a)
    known c a q =
        elim (dec_lt c n) [
          | yes l ↦ (l, sym (table_in c l) ∙ q)
          | no l ↦ absurd (none_some (sym (ap (λ (b : Bool). cond b (priced (entry c) (cost c)) Without) (le-ltb c n (omega arith))) ∙ q))
        ]

    priced_cost : (x : Entry) (f a : List ℕ) → priced x f ≡ Some a → f ≡ a
    priced_cost None f a q = absurd (none_some q)
    priced_cost There f a q = some_inj q
    priced_cost (Work o) f a q = some_inj q

    good : AllSized k table
    good c a q = let h = known c a q in subst (Sized k) (priced_cost (entry c) (cost c) a h.1) (sized_at c h.0)

    zero_cost : (c : ℕ) → c < n → k.within (cost c) k.zero ≡ true → cost c ≡ k.zero
    zero_cost c l e = laws.tie (cost c) k.zero (sized_at c l) laws.zero_sized (was_true e) (laws.least (cost c) (sized_at c l))

    comes : (c o : ℕ) (f : List ℕ) → Sized k f → within_all c o f ≡ true → within_some c o f ≡ true → Worst k (After table) (Can moves c o) f
    comes c o f s e d = record { each = most; top = top }
      where
        most : (m : Move) → Can moves c o m → (a : List ℕ) × After table m a × Le k (k.join m a) f
        most m can =
            let test : Move → Bool = λ m. not (here c o m) || meets (λ (a : List ℕ). k.within (k.join m a) f) (table m.outcome) in
            let t = meets_some (λ (a : List ℕ). k.within (k.join m a) f) (table m.outcome)
            ((implies (here c o m) (meets (λ (a : List ℕ). k.within (k.join m a) f) (table m.outcome))).0
            (each_in test moves e m can.0) (can_here c o m can)) in
            (t.0, t.1, was_true t.2)

        top : (m : Move) × Can moves c o m × ((a : List ℕ) × After table m a × (k.join m a ≡ f))
        top =
            let test : Move → Bool = λ m. here c o m && meets (λ (a : List ℕ). k.within f (k.join m a)) (table m.outcome) in
            let found = some_in test moves d in
            let m = found.0 in
            let h = (and-eq-true_iff (here c o m) (meets (λ (a : List ℕ). k.within f (k.join m a)) (table m.outcome))).0 found.2 in
            let can = here_can c o m found.1 h.0 in
            let t = meets_some (λ (a : List ℕ). k.within f (k.join m a)) (table m.outcome) h.1 in
            let x = most m can in
            let le : Le k (k.join m t.0) f = subst (λ (a : List ℕ). Le k (k.join m a) f) (some_inj (sym x.1 ∙ t.1)) x.2 in
            (m, can, (t.0, t.1, laws.tie (k.join m t.0) f (laws.join_sized m t.0 (good m.outcome t.0 t.1)) s le (was_true t.2)))

    blocked_none : (c : ℕ) → blocked c ≡ true → (o : ℕ) (g : List ℕ) → Worst k (After table) (Can moves c o) g → ⊥
    blocked_none c e o g w =
        let t = has_one c (λ (m : Move). barred (λ (a : List ℕ). false) (table m.outcome)) e o w.top.0 w.top.1 in
        let x = w.each t.0 t.1 in
        false≢true (barred_some (λ (a : List ℕ). false) (table t.0.outcome) x.0 t.2 x.1)

    least_all : (c : ℕ) → c < n → least c ≡ true → (o : ℕ) (g : List ℕ) → Worst k (After table) (Can moves c o) g → Le k (cost c) g
    least_all c l e o g w =
        let t = has_one c (λ (m : Move). barred (λ (a : List ℕ). k.within (cost c) (k.join m a)) (table m.outcome)) e o w.top.0 w.top.1 in
        let m = t.0 in
        let x = w.each m t.1 in
        laws.chain (cost c) (k.join m x.0) g (sized_at c l) (laws.join_sized m x.0 (good m.outcome x.0 x.1))
        (worst_sized laws (After table) (λ m a q. good m.outcome a q) g w)
        (was_true (barred_some (λ (a : List ℕ). k.within (cost c) (k.join m a)) (table m.outcome) x.0 t.2 x.1)) x.2

    lowest_all : (c o : ℕ) → lowest c o ≡ true → (p : ℕ) → Worst k (After table) (Can moves c p) (cost c) → o ≤ p
    lowest_all c o e p w =
        let less : Move → Bool = λ m. barred (λ (a : List ℕ). not (k.within (k.join m a) (cost c))) (table m.outcome) in
        let t = has_one c (λ (m : Move). leb o m.operation || less m) e p w.top.0 w.top.1 in
        let m = t.0 in
        let x = w.each m t.1 in
        ⊎_elim
        (λ h. let a = leb-true o m.operation h in let b = t.1.2 in omega arith)
        (λ h. absurd (subst T (not_true (k.within (k.join m x.0) (cost c))
        (barred_some (λ (a : List ℕ). not (k.within (k.join m a) (cost c))) (table m.outcome) x.0 h x.1)) x.2))
        (or_cases (leb o m.operation) (less m) t.2)

    -- what the test says of an operation
    pub record Chosen (o c : ℕ) : Type 0 where
      pub away : goal c ≡ false
      pub kept : keep c ≡ true
      pub worst : Worst k (After table) (Can moves c o) (cost c)
      pub arrived : arrives n c ≡ true
      pub no_less : (p : ℕ) (g : List ℕ) → Worst k (After table) (Can moves c p) g → Le k (cost c) g
      pub no_lower : (p : ℕ) → Worst k (After table) (Can moves c p) (cost c) → o ≤ p

    chosen : (o c : ℕ) → c < n → judged (Work o) c ≡ true → Chosen o c
    chosen o c l e =
        let a = (and-eq-true_iff (not (goal c)) (keep c && (within_all c o (cost c) && (within_some c o (cost c) && (arrives n c && (least c && lowest c o)))))).0 e in
        let b = (and-eq-true_iff (keep c) (within_all c o (cost c) && (within_some c o (cost c) && (arrives n c && (least c && lowest c o))))).0 a.1 in
        let d = (and-eq-true_iff (within_all c o (cost c)) (within_some c o (cost c) && (arrives n c && (least c && lowest c o)))).0 b.1 in
        let f = (and-eq-true_iff (within_some c o (cost c)) (arrives n c && (least c && lowest c o))).0 d.1 in
        let g = (and-eq-true_iff (arrives n c) (least c && lowest c o)).0 f.1 in
        let h = (and-eq-true_iff (least c) (lowest c o)).0 g.1 in
        record {
          away = not_true (goal c) a.0;
          kept = b.0;
          worst = comes c o (cost c) (sized_at c l) d.0 f.0;
          arrived = g.0;
          no_less = least_all c l h.0;
          no_lower = lowest_all c o h.1;
        }

    -- what it says of no entry, and of the goal
    no_entry : (c : ℕ) → judged None c ≡ true → (goal c ≡ false) × (k.within (cost c) k.zero ≡ true) × ((not (keep c) || blocked c) ≡ true)
    no_entry c e =
        let a = (and-eq-true_iff (not (goal c)) (k.within (cost c) k.zero && (not (keep c) || blocked c))).0 e in
        let b = (and-eq-true_iff (k.within (cost c) k.zero) (not (keep c) || blocked c)).0 a.1 in
        (not_true (goal c) a.0, b.0, b.1)

    there : (c : ℕ) → judged There c ≡ true → (goal c ≡ true) × (k.within (cost c) k.zero ≡ true)
    there c e = (and-eq-true_iff (goal c) (k.within (cost c) k.zero)).0 e

    goals : (c : ℕ) → c < n → goal c ≡ true → table c ≡ Some k.zero
    goals c l g = go (entry c) refl (judged_at c l)
      where
        go : (x : Entry) → entry c ≡ x → judged x c ≡ true → table c ≡ Some k.zero
        go None q j = absurd (true≢false (sym g ∙ (no_entry c j).0))
        go There q j = table_in c l ∙ ap (λ (x : Entry). priced x (cost c)) q ∙ ap Some (zero_cost c l (there c j).1)
        go (Work o) q j = absurd (true≢false (sym g ∙ (chosen o c l j).away))

    -- a cost away from the goal is that of an operation
    worked : (c : ℕ) (f : List ℕ) → table c ≡ Some f → goal c ≡ false → (o : ℕ) × (entry c ≡ Work o) × Chosen o c × (cost c ≡ f)
    worked c f e away = let h = known c f e in go (entry c) refl (judged_at c h.0) h.0 h.1
      where
        go : (x : Entry) → entry c ≡ x → judged x c ≡ true → c < n → priced (entry c) (cost c) ≡ Some f → (o : ℕ) × (entry c ≡ Work o) × Chosen o c × (cost c ≡ f)
        go None q j l p = absurd (none_some (ap (λ (x : Entry). priced x (cost c)) (sym q) ∙ p))
        go There q j l p = absurd (true≢false (sym (there c j).0 ∙ away))
        go (Work o) q j l p = (o, q, chosen o c l j, priced_cost (entry c) (cost c) f p)

    offered : (c : ℕ) → c < n → Offered k moves keep table c Without
    offered c l e kept o g w = go (entry c) refl (judged_at c l)
      where
        go : (x : Entry) → entry c ≡ x → judged x c ≡ true → ⊥
        go None q j = blocked_none c ((implies (keep c) (blocked c)).0 (no_entry c j).2 kept) o g w
        go There q j = none_some (sym e ∙ table_in c l ∙ ap (λ (x : Entry). priced x (cost c)) q)
        go (Work p) q j = none_some (sym e ∙ table_in c l ∙ ap (λ (x : Entry). priced x (cost c)) q)

    -- from a condition without a cost no plan attains the goal
    closed : (p : Plan) (c : ℕ) → c < n → table c ≡ Without → Attains moves keep goal p c → ⊥
    closed = no_plan laws moves keep goal n inside table good goals (λ c. Without) offered (λ c l. refl)

    zero_at : (c : ℕ) (f : List ℕ) → goal c ≡ true → table c ≡ Some f → k.zero ≡ f
    zero_at c f g q = some_inj (sym (goals c (known c f q).0 g) ∙ q)

    -- ── each plan has a run of at least the cost ──

    at_goal : (p : Plan) (c : ℕ) (f : List ℕ) → goal c ≡ true → table c ≡ Some f → Attains moves keep goal p c → (ms : List Move) × IsRun moves p c ms × Le k f (run_cost k ms)
    at_goal p c f g q a =
        let r = (has_cost laws moves keep goal p c a).1.some in
        (r.0, r.1, subst (λ (x : List ℕ). Le k x (run_cost k r.0)) (zero_at c f g q) (laws.least (run_cost k r.0) (cost_sized laws r.0)))

    at_least : (p : Plan) (c : ℕ) (f : List ℕ) → table c ≡ Some f → Attains moves keep goal p c → (ms : List Move) × IsRun moves p c ms × Le k f (run_cost k ms)
    at_least stop c f q a = at_goal stop c f (a.1 [] tt).1 q a
    at_least (work o more) c f q a =
        go (goal c) refl (λ m b can e. at_least (more m.outcome) m.outcome b e (after moves keep goal o more c a m can))
      where
        go : (g : Bool) → goal c ≡ g →
            ((m : Move) (b : List ℕ) → Can moves c o m → table m.outcome ≡ Some b → (ms : List Move) × IsRun moves (more m.outcome) m.outcome ms × Le k b (run_cost k ms)) →
            (ms : List Move) × IsRun moves (work o more) c ms × Le k f (run_cost k ms)
        go true g later = at_goal (work o more) c f g q a
        go false g later =
            ⊎_elim
            (λ b. absurd (closed (more b.0.outcome) b.0.outcome (inside b.0 b.1.0).1 b.2 (after moves keep goal o more c a b.0 b.1)))
            (λ w.
            let t = w.1.top in
            let m = t.0 in
            let r = later m t.2.0 t.1 t.2.1 in
            let v = worked c f q g in
            let sized = cost_sized laws r.0 in
            let le : Le k f w.0 = subst (λ (x : List ℕ). Le k x w.0) v.3 (v.2.no_less o w.0 w.1) in
            let up : Le k w.0 (k.join m (run_cost k r.0)) =
            subst (λ (x : List ℕ). Le k x (k.join m (run_cost k r.0))) t.2.2
            (laws.keeps m t.2.0 (run_cost k r.0) (good m.outcome t.2.0 t.2.1) sized r.2) in (
              m ∷ r.0,
              (t.1, r.1),
              laws.chain f w.0 (k.join m (run_cost k r.0)) (good c f q) (worst_sized laws (After table) (λ m a q. good m.outcome a q) w.0 w.1)
                  (laws.join_sized m (run_cost k r.0) sized) le up,
            ))
            (look laws moves keep goal n inside table good c o a.0.0)

    -- ── the entries are a plan of that cost ──

    -- the costs from where the entries lead to the goal in at most j moves
    abbrev sooner : ℕ → ℕ → Option (List ℕ)
    sooner j c = cond (arrives j c) (table c) Without

    soon : (j c : ℕ) (f : List ℕ) → sooner j c ≡ Some f → (arrives j c ≡ true) × (table c ≡ Some f)
    soon j c f q = go (arrives j c) refl
      where
        go : (b : Bool) → arrives j c ≡ b → (arrives j c ≡ true) × (table c ≡ Some f)
        go true e = (e, sym (ap (λ (b : Bool). cond b (table c) Without) e) ∙ q)
        go false e = absurd (none_some (sym (ap (λ (b : Bool). cond b (table c) Without) e) ∙ q))

    plan_of : (j c : ℕ) (f : List ℕ) → arrives j c ≡ true → table c ≡ Some f → (p : Plan) × Prices k moves keep goal c f p
    plan_of zero c f e q =
        (stop, (stop_attains moves keep goal c e, subst (λ (x : List ℕ). Costs k moves stop c x) (zero_at c f e q) (stop_costs laws moves keep goal c)))
    plan_of (suc j) c f e q = split (plan_of j) (or_cases (arrives j c) (onward (entry c) c (arrives j)) e)
      where
        split : ((d : ℕ) (g : List ℕ) → arrives j d ≡ true → table d ≡ Some g → (p : Plan) × Prices k moves keep goal d g p) →
            (arrives j c ≡ true) ⊎ (onward (entry c) c (arrives j) ≡ true) → (p : Plan) × Prices k moves keep goal c f p
        split sub (inl h) = sub c f h q
        split sub (inr h) = let l = known c f q in go (entry c) refl (judged_at c l.0) h
          where
            go : (x : Entry) → entry c ≡ x → judged x c ≡ true → onward x c (arrives j) ≡ true → (p : Plan) × Prices k moves keep goal c f p
            go None r i t = absurd (false≢true t)
            go There r i t = absurd (false≢true t)
            go (Work o) r i t =
                let l = known c f q in
                let v = chosen o c l.0 i in
                let sized : AllSized k (sooner j) = λ d g w. good d g (soon j d g w).1 in
                let prices : (d : ℕ) (g : List ℕ) → sooner j d ≡ Some g → (p : Plan) × Prices k moves keep goal d g p =
                λ d g w. let x = soon j d g w in sub d g x.0 x.1 in
                let reach : (m : Move) (a : List ℕ) → Can moves c o m → After table m a → After (sooner j) m a =
                λ m a can w. ap (λ (b : Bool). cond b (table m.outcome) Without) ((leads_iff moves (arrives j) c o).0 t m can) ∙ w in
                let worst : Worst k (After (sooner j)) (Can moves c o) f = subst (Worst k (After (sooner j)) (Can moves c o)) (priced_cost (entry c) (cost c) f l.1) (worst_after reach v.worst) in
                (work o (next laws moves keep goal n inside (sooner j) sized prices), begins laws moves keep goal n inside (sooner j) sized prices c o f v.kept worst)

    final : Final k moves keep goal n table
    final = record {
      goals = goals;
      prices = λ c f q. price c f q (goal c) refl;
      least = λ c f q p a. at_least p c f q a;
      by = λ c f q away. let v = worked c f q away in (v.2.kept, (v.0, subst (Worst k (After table) (Can moves c v.0)) v.3 v.2.worst));
    }
      where
        price : (c : ℕ) (f : List ℕ) → table c ≡ Some f → (g : Bool) → goal c ≡ g → (p : Plan) × Prices k moves keep goal c f p
        price c f q true g = plan_of 0 c f g q
        price c f q false g = plan_of n c f (worked c f q g).2.arrived q

    -- each entry with its cost answers for its condition
    pub answers : (c : ℕ) → c < n → (x : Entry) → entry c ≡ x → RightChoice k (λ (f : List ℕ). f) moves keep goal c (choice x (cost c))
    answers c l x q = go x q (subst (λ (y : Entry). judged y c ≡ true) q (judged_at c l))
      where
        go : (y : Entry) → entry c ≡ y → judged y c ≡ true → RightChoice k (λ (f : List ℕ). f) moves keep goal c (choice y (cost c))
        go None r j = λ p a. closed p c l (table_in c l ∙ ap (λ (y : Entry). priced y (cost c)) r) a
        go There r j = (there c j).0
        go (Work o) r j =
            let v = chosen o c l j in
            (v.away, best laws moves keep goal n inside table good final closed c o (cost c) (table_in c l ∙ ap (λ (y : Entry). priced y (cost c)) r) v.away v.worst v.no_lower)

    -- and the cost of an entry that works no operation is zero
    pub free : (c : ℕ) → c < n → ((o : ℕ) → entry c ≡ Work o → ⊥) → cost c ≡ k.zero
    free c l idle = go (entry c) refl (judged_at c l)
      where
        go : (y : Entry) → entry c ≡ y → judged y c ≡ true → cost c ≡ k.zero
        go None r j = zero_cost c l (no_entry c j).1
        go There r j = zero_cost c l (there c j).1
        go (Work o) r j = absurd (idle o r)
