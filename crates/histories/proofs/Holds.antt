-- The promise holds of every history from an accepted opening.
use Rattle.std.proofs.Common.{◌≡◌, ℕ, ◌<◌, Bool, true, false, cond, not, eqb, List, [], ◌∷◌, length, Some, None, Option, sym, refl, ap, ◌∙◌, subst, inl, inr, arith, eqb→eq}
use Rattle.port.specs.declared.Move.{Move}
use Rattle.solver.specs.declared.Entry.{Entry}
use Rattle.solver.specs.declared.Entry.TheVariants.{None as Nothing, There, Work}
use Rattle.histories.specs.declared.Command.{Command}
use Rattle.histories.specs.declared.Command.TheVariants.{Quote, Ask, Step, Close}
use Rattle.port.specs.Limits.{In}
use Rattle.plans.specs.Simulation.{WellFormed, Kept}
use Rattle.plans.specs.Flags.{task_at}
use Rattle.costs.specs.Costs.{WeakLaws, Le}
use Rattle.costs.proofs.Order.{weaken}
use Rattle.solver.specs.Policy.{World, Solved}
use Rattle.histories.specs.Calls.{At, ExactAnswer, quoted, granted, worked, closed, refused, entry_at, cost_at, rank_of, stuck, refusal, Took, Event, History, Passes, offered, placed, rule, Opens, open_rules, start_at}
use Rattle.histories.specs.Errands.{Errand, onto, request_of, errands, left}
use Rattle.histories.specs.Promise.{LeastInSimulations, Tells, Promised, PromiseHolds, OpeningHolds}
use Rattle.histories.proofs.Basics.{was_true, not_false, some_inj, some_none, passes_clear, clear_passes, can_possible}
use Rattle.histories.proofs.Policy.{quote_least, safe_entry, there_reach, work_possible, work_keep, kept_zero, zero_kept}
use Rattle.histories.proofs.Rulings.{Met, offer_is, placed_is, is_placed, something, quote_met, ask_met, step_met, close_met, ask_passes, step_passes, close_passes}
use Rattle.histories.proofs.Invariant.{Inv, Standing, Idle, Busy, AllDone, Going, kept_safe, after_all}

-- each call of a history
pub took_in : (w : World) (h : List Event) (a b : At) → History w a h b → (e : Event) → In e h → Took w e.before e.command e.answer e.after
took_in w [] a b t e i = absurd i
took_in w (x ∷ h) a b t e (inl same) =
    let one : Took w x.before x.command x.answer x.after = subst (λ (y : At). Took w y x.command x.answer x.after) (sym t.0) t.1 in
    subst (λ (y : Event). Took w y.before y.command y.answer y.after) (sym same) one
took_in w (x ∷ h) a b t e (inr i) = took_in w h x.after b t.2 e i

module _ (w : World) (laws : WeakLaws w.model) (wf : WellFormed w.domain) (sv : Solved w) where
  -- a safe plan is not stuck
  unstuck : (q c : ℕ) → q < length w.domain.tasks → c < w.domain.conditions → (w.entry q c ≡ Nothing → ⊥) → stuck w (Some c) (w.entry q c) ≡ false
  unstuck q c hq hc ne = go (w.entry q c) refl
    where
      go : (e : Entry) → w.entry q c ≡ e → stuck w (Some c) e ≡ false
      go Nothing is = absurd (ne is)
      go There is = refl
      go (Work o) is = let p = work_possible w sv laws q hq c o hc is in ap not (can_possible w.domain.moves c o p.0 p.1)

  -- (1)
  spends_idle : (es : List Errand) (b : At) → AllDone w es → (e : Errand) → In e es → Le w.model (onto w.model e.moves (left w b e)) e.quote
  spends_idle es b done e i =
      let d = done e i in
      subst (λ (x : Bool). Le w.model (onto w.model e.moves (cond x (cost_at w e.request b.place) w.model.zero)) e.quote) (sym d.0) d.1

  spends_busy : (es : List Errand) (b : At) (q c : ℕ) → b.place ≡ Some c → Going w q c es → (e : Errand) → In e es → Le w.model (onto w.model e.moves (left w b e)) e.quote
  spends_busy [] b q c at g e i = absurd i
  spends_busy (x ∷ es) b q c at g e (inl same) = subst (λ (y : Errand). Le w.model (onto w.model y.moves (left w b y)) y.quote) (sym same) here
    where
      price : left w b x ≡ w.cost q c
      price =
          ap (λ (o : Bool). cond o (cost_at w x.request b.place) w.model.zero) g.1
          ∙ ap (λ (y : ℕ). cost_at w y b.place) g.0 ∙ ap (cost_at w q) at

      here : Le w.model (onto w.model x.moves (left w b x)) x.quote
      here = subst (λ (f : List ℕ). Le w.model (onto w.model x.moves f) x.quote) (sym price) g.3
  spends_busy (x ∷ es) b q c at g e (inr i) = spends_idle es b g.4 e i

  spends : (es : List Errand) (b : At) (o : Option ℕ) → Standing w es b.stage b.place o → (e : Errand) → In e es → Le w.model (onto w.model e.moves (left w b e)) e.quote
  spends es b None v e i = spends_idle es b v.done e i
  spends es b (Some q) v e i = spends_busy es b q v.spot v.at v.going e i

  stands : (es : List Errand) (b : At) (o : Option ℕ) → Standing w es b.stage b.place o → (c : ℕ) × ((b.place ≡ Some c) × (c < w.domain.conditions))
  stands es b None v = (v.spot, (v.at, v.inside))
  stands es b (Some q) v = (v.spot, (v.at, v.inside))

  -- (2)
  ask_granted : (b : At) (q : ℕ) → Passes w b (Ask q) → (r : ExactAnswer) (e : At) → Took w b (Ask q) r e → (f : List ℕ) × (r ≡ granted f)
  ask_granted b q p (refused n) e t = absurd (some_none (sym t.0 ∙ p))
  ask_granted b q p (granted f) e t = (f, refl)
  ask_granted b q p (quoted f) e t = absurd (let y : Ask q ≡ Quote t.0 = t.1.0 in let z : ◌≡◌ {A = ℕ} 0 1 = cc in omega arith)
  ask_granted b q p (worked m) e t = absurd (let y : Ask q ≡ Step t.0 = t.3.0 in let z : ◌≡◌ {A = ℕ} 0 1 = cc in omega arith)
  ask_granted b q p (closed s) e t = absurd (let y : Ask q ≡ Close t.0 = t.1.0 in let z : ◌≡◌ {A = ℕ} 0 1 = cc in omega arith)

  step_worked : (b : At) (q : ℕ) → Passes w b (Step q) → (r : ExactAnswer) (e : At) → Took w b (Step q) r e → (m : Move) × (r ≡ worked m)
  step_worked b q p (refused n) e t = absurd (some_none (sym t.0 ∙ p))
  step_worked b q p (worked m) e t = (m, refl)
  step_worked b q p (quoted f) e t = absurd (let y : Step q ≡ Quote t.0 = t.1.0 in let z : ◌≡◌ {A = ℕ} 0 1 = cc in omega arith)
  step_worked b q p (granted f) e t = absurd (let y : Step q ≡ Ask t.0 = t.1.0 in let z : ◌≡◌ {A = ℕ} 0 1 = cc in omega arith)
  step_worked b q p (closed s) e t = absurd (let y : Step q ≡ Close t.0 = t.1.0 in let z : ◌≡◌ {A = ℕ} 0 1 = cc in omega arith)

  close_closed : (b : At) (q : ℕ) → Passes w b (Close q) → (r : ExactAnswer) (e : At) → Took w b (Close q) r e → (s : ℕ) × (r ≡ closed s)
  close_closed b q p (refused n) e t = absurd (some_none (sym t.0 ∙ p))
  close_closed b q p (closed s) e t = (s, refl)
  close_closed b q p (quoted f) e t = absurd (let y : Close q ≡ Quote t.0 = t.1.0 in let z : ◌≡◌ {A = ℕ} 0 1 = cc in omega arith)
  close_closed b q p (granted f) e t = absurd (let y : Close q ≡ Ask t.0 = t.1.0 in let z : ◌≡◌ {A = ℕ} 0 1 = cc in omega arith)
  close_closed b q p (worked m) e t = absurd (let y : Close q ≡ Step t.0 = t.3.0 in let z : ◌≡◌ {A = ℕ} 0 1 = cc in omega arith)

  grants : (es : List Errand) (b : At) → Inv w es b → b.out ≡ None → (q : ℕ) → offered w b.stage q ≡ true → Passes w b (Ask q)
  grants es b v none q offer =
      let x : Idle w es b.stage b.place = subst (λ (o : Option ℕ). Standing w es b.stage b.place o) none v in
      let o = offer_is w b.stage q offer in
      let plan = kept_safe w laws wf sv b.stage x.spot q x.kept o.0 o.1 in
      let ne : w.entry q x.spot ≡ Nothing → ⊥ = safe_entry w sv laws q o.0 x.spot x.inside plan.0 plan.1 in
      ask_passes w b q none (record { known = o.0; from = o.1; spot = x.spot; at = x.at; inside = x.inside })
      (λ e. ne (sym (ap (entry_at w q) x.at) ∙ e))
      (subst (λ (p : Option ℕ). stuck w p (entry_at w q p) ≡ false) (sym x.at) (unstuck q x.spot o.0 x.inside ne))

  busy : (es : List Errand) (b : At) → Inv w es b → (q : ℕ) → b.out ≡ Some q → Busy w es b.stage b.place q
  busy es b v q out = subst (λ (o : Option ℕ). Standing w es b.stage b.place o) out v

  steps : (es : List Errand) (b : At) → Inv w es b → (q : ℕ) → b.out ≡ Some q → (entry_at w q b.place ≡ There → ⊥) → Passes w b (Step q)
  steps es b v q out away =
      let x = busy es b v q out in
      let ne : w.entry q x.spot ≡ Nothing → ⊥ = safe_entry w sv laws q x.known x.spot x.inside x.plan x.safe in
      step_passes w b q out (record { known = x.known; from = x.from; spot = x.spot; at = x.at; inside = x.inside })
      (λ e. ne (sym (ap (entry_at w q) x.at) ∙ e)) away
      (subst (λ (p : Option ℕ). stuck w p (entry_at w q p) ≡ false) (sym x.at) (unstuck q x.spot x.known x.inside ne))

  closes : (es : List Errand) (b : At) → Inv w es b → (q : ℕ) → b.out ≡ Some q → entry_at w q b.place ≡ There → Passes w b (Close q)
  closes es b v q out there =
      let x = busy es b v q out in
      close_passes w b q out (record { known = x.known; from = x.from; spot = x.spot; at = x.at; inside = x.inside }) there

  -- (3)
  keeps : (a b : At) (k : Command) (r : ExactAnswer) → Took w a k r b → (m : Move) → r ≡ worked m →
      (q c : ℕ) × ((k ≡ Step q) × (a.place ≡ Some c) × ((task_at w.domain q).keep c ≡ true))
  keeps a b k r t m is =
      let t2 : Took w a k (worked m) b = subst (λ (y : ExactAnswer). Took w a k y b) is t in
      let q : ℕ = t2.0 in
      let c : ℕ = t2.1 in
      let p = (step_met w a q t2.3.1).1 in
      let hc : c < w.domain.conditions = subst (λ (y : ℕ). y < w.domain.conditions) (some_inj (sym p.at ∙ t2.3.2)) p.inside in
      (q, c, (t2.3.0, t2.3.2, work_keep w sv laws q p.known c t2.2 hc t2.3.3))

  reaches : (a b : At) (k : Command) (r : ExactAnswer) → Took w a k r b → (s : ℕ) → r ≡ closed s →
      (q c : ℕ) × ((k ≡ Close q) × (a.place ≡ Some c) × ((task_at w.domain q).reach c ≡ true))
  reaches a b k r t s is =
      let t2 : Took w a k (closed s) b = subst (λ (y : ExactAnswer). Took w a k y b) is t in
      let q : ℕ = t2.0 in
      let m = close_met w a q t2.1.1 in
      let p = m.1 in
      let there : w.entry q p.spot ≡ There = sym (ap (entry_at w q) p.at) ∙ m.2 in
      (q, p.spot, (t2.1.0, p.at, there_reach w sv laws q p.known p.spot p.inside there))

  -- (4)
  told : (a : At) (q : ℕ) (f : List ℕ) (k : Command) → request_of k ≡ q → Met w a.stage a.place q →
      (entry_at w q a.place ≡ Nothing → ⊥) → f ≡ cost_at w q a.place →
      (c : ℕ) × ((a.place ≡ Some c) × LeastInSimulations w (request_of k) c f)
  told a q f k rq p ne fe =
      let c : ℕ = p.spot in
      let best : LeastInSimulations w q c (w.cost q c) =
      quote_least w sv laws q p.known c p.inside (λ e. ne (ap (entry_at w q) p.at ∙ e)) in
      let same : f ≡ w.cost q c = fe ∙ ap (cost_at w q) p.at in
      let best2 : LeastInSimulations w q c f = subst (λ (y : List ℕ). LeastInSimulations w q c y) (sym same) best in
      (c, (p.at, subst (λ (y : ℕ). LeastInSimulations w y c f) (sym rq) best2))

  quotes : (a b : At) (k : Command) (r : ExactAnswer) → Took w a k r b → (f : List ℕ) → Tells r f →
      (c : ℕ) × ((a.place ≡ Some c) × LeastInSimulations w (request_of k) c f)
  quotes a b k r t f (inl is) =
      let t2 : Took w a k (quoted f) b = subst (λ (y : ExactAnswer). Took w a k y b) is t in
      let m = quote_met w a t2.0 t2.1.1 in
      told a t2.0 f k (ap request_of t2.1.0) m.0 (something _ m.1) t2.1.2
  quotes a b k r t f (inr is) =
      let t2 : Took w a k (granted f) b = subst (λ (y : ExactAnswer). Took w a k y b) is t in
      let m = ask_met w a t2.0 t2.1.1 in
      told a t2.0 f k (ap request_of t2.1.0) m.1 (something _ m.2) t2.1.2

  opens : (s : ℕ) (p : Option ℕ) → s < w.domain.stages → Opens w s p → Inv w [] (start_at s p)
  opens s p hs o =
      let r = passes_clear (open_rules w s p) o in
      let t = placed_is w p (not_false _ r.0) in
      let zero : rank_of w s p ≡ 0 = eqb→eq (rank_of w s p) 0 (was_true (not_false _ r.1.0)) in
      let zero2 : w.rank s t.0 ≡ 0 = sym (ap (rank_of w s) t.1.0) ∙ zero in
      record { spot = t.0; at = t.1.0; inside = t.1.1; kept = zero_kept w sv s t.0 hs t.1.1 zero2; done = λ e i. absurd i }

  pub promised : (s : ℕ) (p : Option ℕ) → s < w.domain.stages → Opens w s p → Promised w (start_at s p)
  promised s p hs o h b t =
      let v : Inv w (errands h) b = after_all w laws wf sv h [] (start_at s p) b (opens s p hs o) t in
      record {
        stands = stands (errands h) b b.out v;
        spends = spends (errands h) b b.out v;
        grants = λ none q offer. ask_granted b q (grants (errands h) b v none q offer);
        steps = λ q out away. step_worked b q (steps (errands h) b v q out away);
        closes = λ q out there. close_closed b q (closes (errands h) b v q out there);
        keeps = λ e i. keeps e.before e.after e.command e.answer (took_in w h (start_at s p) b t e i);
        reaches = λ e i. reaches e.before e.after e.command e.answer (took_in w h (start_at s p) b t e i);
        quotes = λ e i. quotes e.before e.after e.command e.answer (took_in w h (start_at s p) b t e i);
      }

pub promise_holds : PromiseHolds
promise_holds w laws wf sv s p hs o = promised w (weaken laws) wf sv s p hs o

pub opening_holds : OpeningHolds
opening_holds w sv s c hs hc = record { accepts = (accepted, accepts); refuses = (refused_not, refuse) }
  where
    accepted : Opens w s (Some c) → Kept w.domain s c
    accepted o =
        let r = passes_clear (open_rules w s (Some c)) o in
        zero_kept w sv s c hs hc (eqb→eq (w.rank s c) 0 (was_true (not_false _ r.1.0)))

    here : not (placed w (Some c)) ≡ false
    here = ap not (is_placed w (Some c) c refl hc)

    accepts : Kept w.domain s c → Opens w s (Some c)
    accepts k = clear_passes (open_rules w s (Some c)) (here, (ap (λ (x : ℕ). not (eqb x 0)) (kept_zero w sv s c k), tt))

    refused_not : refusal (open_rules w s (Some c)) ≡ Some 24 → Kept w.domain s c → ⊥
    refused_not e k = some_none (sym e ∙ accepts k)

    refuse : (Kept w.domain s c → ⊥) → refusal (open_rules w s (Some c)) ≡ Some 24
    refuse no-kept = go (eqb (w.rank s c) 0) refl
      where
        go : (b : Bool) → eqb (w.rank s c) 0 ≡ b → refusal (open_rules w s (Some c)) ≡ Some 24
        go true e = absurd (no-kept (zero_kept w sv s c hs hc (eqb→eq (w.rank s c) 0 (was_true e))))
        go false e =
            ap (λ (b : Bool). cond b (Some 23) (refusal (rule 24 (not (eqb (w.rank s c) 0)) ∷ []))) here
            ∙ ap (λ (b : Bool). cond (not b) (Some 24) (refusal [])) e
