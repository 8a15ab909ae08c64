-- What follows from a solved policy at one request and condition.
use Rattle.std.proofs.Common.{◌≡◌, ℕ, ◌<◌, Bool, true, ◌&&◌, eqb, ltb, List, [], ◌∷◌, length, sym, refl, subst, eqb→eq, lt→ltb}
use Rattle.port.specs.declared.Move.{Move}
use Rattle.plans.specs.Plans.{Plan, stop, work, Can, Possible}
use Rattle.plans.specs.Simulation.{WellFormed, Simulation, Kept}
use Rattle.plans.specs.Flags.{task_at}
use Rattle.costs.specs.Costs.{WeakLaws, Sized, Le, cost}
use Rattle.search.proofs.Runs.{costs_sized, stop_costs, has_cost, after, works_kept}
use Rattle.solver.specs.declared.Entry.{Entry}
use Rattle.solver.specs.declared.Entry.TheVariants.{None as Nothing, There, Work}
use Rattle.solver.specs.Policy.{World, Safe, Price, Best, Right, kept_set, Solved}
use Rattle.histories.specs.Promise.{Inside, LeastInSimulations}
use Rattle.histories.proofs.Basics.{was_true, is_true, and_true, true_and, eq_true}

-- a plan that meets the request and ends inside a simulation is safe
pub inside_safe : (w : World) (q c : ℕ) (R : ℕ → ℕ → Bool) (plan : Plan) → Simulation w.domain R → Inside w q c R plan → Safe w q plan c
inside_safe w q c R plan sim i = (i.0, λ ms r. (R, sim, i.1 ms r))

-- after a move of its first operation a safe plan is safe
pub safe_after : (w : World) (q c o : ℕ) (next : ℕ → Plan) (m : Move) → Can w.domain.moves c o m → Safe w q (work o next) c → Safe w q (next m.outcome) m.outcome
safe_after w q c o next m can s =
    (after w.domain.moves (task_at w.domain q).keep (task_at w.domain q).reach o next c s.0 m can, λ ms r. s.1 (m ∷ ms) (can, r))

module _ (w : World) (sv : Solved w) where
  -- the pairs of rank 0 are the kept ones
  pub kept_zero : (s c : ℕ) → Kept w.domain s c → w.rank s c ≡ 0
  kept_zero s c k =
      let h = sv.largest k.0 k.1 s c k.2 in
      let in_row = (and_true (ltb s w.domain.stages) (ltb c w.domain.conditions && eqb (w.rank s c) 0) h).1 in
      eqb→eq (w.rank s c) 0 (was_true (and_true (ltb c w.domain.conditions) (eqb (w.rank s c) 0) in_row).1)

  pub zero_kept : (s c : ℕ) → s < w.domain.stages → c < w.domain.conditions → w.rank s c ≡ 0 → Kept w.domain s c
  zero_kept s c hs hc z = (
    kept_set w,
    sv.simulates,
    true_and _ _ (is_true _ (lt→ltb s w.domain.stages hs)) (true_and _ _ (is_true _ (lt→ltb c w.domain.conditions hc)) (eq_true (w.rank s c) 0 z)),
  )

  module _ (laws : WeakLaws w.model) (q : ℕ) (hq : q < length w.domain.tasks) where
    sized_by : (plan : Plan) (c : ℕ) (f : List ℕ) → Price w plan c f → Sized w.model f
    sized_by plan c f p = costs_sized laws w.domain.moves (task_at w.domain q).keep (task_at w.domain q).reach plan c f p

    -- the policy's cost is of the model's size
    pub cost_fits : (c : ℕ) → c < w.domain.conditions → Sized w.model (w.cost q c)
    cost_fits c hc = go (w.entry q c) (sv.entered q c hq hc)
      where
        go : (e : Entry) → Right w q c e (w.cost q c) → Sized w.model (w.cost q c)
        go Nothing h = subst (Sized w.model) (sym h.1) laws.zero_sized
        go There h = subst (Sized w.model) (sym h.1) laws.zero_sized
        go (Work o) h = sized_by (work o h.1.begins.0) c (w.cost q c) h.1.begins.2

    -- every safe plan has a cost, and it is at least the policy's
    pub cost_least : (c : ℕ) → c < w.domain.conditions → (plan : Plan) → Safe w q plan c → (g : List ℕ) × Price w plan c g × Le w.model (w.cost q c) g
    cost_least c hc plan s = go (w.entry q c) (sv.entered q c hq hc)
      where
        zero_least : w.cost q c ≡ w.model.zero → (g : List ℕ) × Price w plan c g × Le w.model (w.cost q c) g
        zero_least e =
            let t = has_cost laws w.domain.moves (task_at w.domain q).keep (task_at w.domain q).reach plan c s.0 in
            (t.0, t.1, subst (λ (x : List ℕ). Le w.model x t.0) (sym e) (laws.least t.0 (sized_by plan c t.0 t.1)))

        go : (e : Entry) → Right w q c e (w.cost q c) → (g : List ℕ) × Price w plan c g × Le w.model (w.cost q c) g
        go Nothing h = zero_least h.1
        go There h = zero_least h.1
        go (Work o) h = h.1.least plan s

    -- where the entry is not None some safe plan costs what the policy says
    cost_some : (c : ℕ) → c < w.domain.conditions → (w.entry q c ≡ Nothing → ⊥) → (plan : Plan) × Safe w q plan c × Price w plan c (w.cost q c)
    cost_some c hc ne = go (w.entry q c) refl (sv.entered q c hq hc)
      where
        go : (e : Entry) → w.entry q c ≡ e → Right w q c e (w.cost q c) → (plan : Plan) × Safe w q plan c × Price w plan c (w.cost q c)
        go Nothing is h = absurd (ne is)
        go There is h = (
          stop,
          h.0,
          subst (λ (x : List ℕ). Price w stop c x) (sym h.1)
              (stop_costs laws w.domain.moves (task_at w.domain q).keep (task_at w.domain q).reach c),
        )
        go (Work o) is h = (work o h.1.begins.0, h.1.begins.1, h.1.begins.2)

    pub quote_least : (c : ℕ) → c < w.domain.conditions → (w.entry q c ≡ Nothing → ⊥) → LeastInSimulations w q c (w.cost q c)
    quote_least c hc ne =
        let t = cost_some c hc ne in
        let to : ℕ = (task_at w.domain q).to in
        record {
          some = (kept_set w, t.0, (sv.simulates, (t.1.0, λ ms r. let k = t.1.1 ms r in sv.largest k.0 k.1 to _ k.2), t.2));
          least = λ R plan sim i. cost_least c hc plan (inside_safe w q c R plan sim i);
        }

    -- where a plan is safe the entry is not None
    pub safe_entry : (c : ℕ) → c < w.domain.conditions → (plan : Plan) → Safe w q plan c → w.entry q c ≡ Nothing → ⊥
    safe_entry c hc plan s e = (subst (λ (x : Entry). Right w q c x (w.cost q c)) e (sv.entered q c hq hc)).0 plan s

    -- what the entry says
    pub work_best : (c o : ℕ) → c < w.domain.conditions → w.entry q c ≡ Work o → Best w q c o (w.cost q c)
    work_best c o hc e = (subst (λ (x : Entry). Right w q c x (w.cost q c)) e (sv.entered q c hq hc)).1

    pub there_right : (c : ℕ) → c < w.domain.conditions → w.entry q c ≡ There → Safe w q stop c × (w.cost q c ≡ w.model.zero)
    there_right c hc e = subst (λ (x : Entry). Right w q c x (w.cost q c)) e (sv.entered q c hq hc)

    pub there_kept : (c : ℕ) → c < w.domain.conditions → w.entry q c ≡ There → Kept w.domain (task_at w.domain q).to c
    there_kept c hc e = (there_right c hc e).0.1 [] tt

    pub there_reach : (c : ℕ) → c < w.domain.conditions → w.entry q c ≡ There → (task_at w.domain q).reach c ≡ true
    there_reach c hc e = ((there_right c hc e).0.0.1 [] tt).1

    pub work_possible : (c o : ℕ) → c < w.domain.conditions → w.entry q c ≡ Work o → Possible w.domain.moves c o
    work_possible c o hc e = (work_best c o hc e).begins.1.0.0.0

    pub work_keep : (c o : ℕ) → c < w.domain.conditions → w.entry q c ≡ Work o → (task_at w.domain q).keep c ≡ true
    work_keep c o hc e =
        let b = (work_best c o hc e).begins in
        works_kept w.domain.moves (task_at w.domain q).keep (task_at w.domain q).reach o b.0 c b.1.0

    -- after a move of the policy's operation some plan is safe, and the move joined onto the cost there is within the cost here
    pub work_after : WellFormed w.domain → (c o : ℕ) (m : Move) → c < w.domain.conditions → w.entry q c ≡ Work o → Can w.domain.moves c o m →
        ((plan : Plan) × Safe w q plan m.outcome) × Le w.model (w.model.join m (w.cost q m.outcome)) (w.cost q c)
    work_after wf c o m hc e can =
        let b = (work_best c o hc e).begins in
        let next = b.0 in
        let d : ℕ = m.outcome in
        let hd : d < w.domain.conditions = (wf.within m can.0).1 in
        let s : Safe w q (next d) d = safe_after w q c o next m can b.1 in
        let g = cost_least d hd (next d) s in
        let gs = sized_by (next d) d g.0 g.1 in
        let ds = cost_fits d hd in
        let cs = cost_fits c hc in
        let run = g.1.some in
        let top : Le w.model (w.model.join m (cost w.model run.0)) (w.cost q c) = b.2.most (m ∷ run.0) (can, run.1) in
        let top2 : Le w.model (w.model.join m g.0) (w.cost q c) = subst (λ (x : List ℕ). Le w.model (w.model.join m x) (w.cost q c)) run.2 top in (
          (next d, s),
          laws.chain _ _ _ (laws.join_sized m _ ds) (laws.join_sized m _ gs) cs (laws.keeps m _ _ ds gs g.2) top2,
        )
