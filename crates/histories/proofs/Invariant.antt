-- What holds wherever a history has come, and that each call keeps it.
use Rattle.std.proofs.Common.{◌≡◌, ℕ, ◌<◌, true, false, List, [], ◌∷◌, length, Some, None, Option, sym, refl, ap, ◌∙◌, subst, inl, inr}
use Rattle.port.specs.declared.Move.{Move}
use Rattle.solver.specs.declared.Entry.TheVariants.{There}
use Rattle.histories.specs.declared.Command.{Command}
use Rattle.port.specs.Limits.{In}
use Rattle.plans.specs.Plans.{Plan}
use Rattle.plans.specs.Simulation.{WellFormed, Kept}
use Rattle.plans.specs.Flags.{task_at}
use Rattle.plans.proofs.Index.{in_at}
use Rattle.costs.specs.Costs.{WeakLaws, Sized, Le}
use Rattle.costs.proofs.Order.{reflexive}
use Rattle.solver.specs.Policy.{World, Safe, Solved}
use Rattle.histories.specs.Calls.{At, ExactAnswer, quoted, granted, worked, closed, refused, entry_at, cost_at, Took, Event, History}
use Rattle.histories.specs.Errands.{Errand, onto, request_of, moved, ended, noted, errands_after}
use Rattle.histories.proofs.Basics.{some_inj}
use Rattle.histories.proofs.Joins.{onto_sized, onto_keeps, onto_more}
use Rattle.histories.proofs.Policy.{inside_safe, cost_fits, there_right, there_kept, work_after}
use Rattle.histories.proofs.Rulings.{Met, ask_met, step_met, close_met}

-- a closed errand, and what it went through is within its quote
abbrev pub Done : World → Errand → Type 0
Done w e = (e.out ≡ false) × Le w.model (onto w.model e.moves w.model.zero) e.quote

abbrev pub AllDone : World → List Errand → Type 0
AllDone w es = (e : Errand) → In e es → Done w e

-- the newest errand is out, for request q, and what it went through, joined onto the cost at c, is within its quote
abbrev pub Going : World → ℕ → ℕ → List Errand → Type 0
Going w q c [] = ⊥
Going w q c (e ∷ es) =
    (e.request ≡ q) × (e.out ≡ true) × Sized w.model e.quote
    × Le w.model (onto w.model e.moves (w.cost q c)) e.quote × AllDone w es

pub record Idle (w : World) (es : List Errand) (s : ℕ) (p : Option ℕ) : Type 0 where
  pub spot : ℕ
  pub at : p ≡ Some spot
  pub inside : spot < w.domain.conditions
  pub kept : Kept w.domain s spot
  pub done : AllDone w es

pub record Busy (w : World) (es : List Errand) (s : ℕ) (p : Option ℕ) (q : ℕ) : Type 0 where
  pub known : q < length w.domain.tasks
  pub from : (task_at w.domain q).from ≡ s
  pub spot : ℕ
  pub at : p ≡ Some spot
  pub inside : spot < w.domain.conditions
  pub plan : Plan
  pub safe : Safe w q plan spot
  pub going : Going w q spot es

abbrev pub Standing : World → List Errand → ℕ → Option ℕ → Option ℕ → Type 0
Standing w es s p None = Idle w es s p
Standing w es s p (Some q) = Busy w es s p q

abbrev pub Inv : World → List Errand → At → Type 0
Inv w es a = Standing w es a.stage a.place a.out

module _ (w : World) (laws : WeakLaws w.model) (wf : WellFormed w.domain) (sv : Solved w) where
  going_moved : (q c : ℕ) (m : Move) → q < length w.domain.tasks → c < w.domain.conditions → m.outcome < w.domain.conditions →
      Le w.model (w.model.join m (w.cost q m.outcome)) (w.cost q c) →
      (es : List Errand) → Going w q c es → Going w q m.outcome (moved m es)
  going_moved q c m hq hc hd le [] g = absurd g
  going_moved q c m hq hc hd le (e ∷ es) g =
      let k = w.model in
      let ds = cost_fits w sv laws q hq m.outcome hd in
      let js = laws.join_sized m _ ds in
      let cs = cost_fits w sv laws q hq c hc in
      let up : Le k (onto k e.moves (k.join m (w.cost q m.outcome))) e.quote =
      laws.chain _ _ _ (onto_sized laws e.moves _ js) (onto_sized laws e.moves _ cs) g.2 (onto_keeps laws e.moves _ _ js cs le) g.3 in
      (g.0, g.1, g.2, subst (λ (x : List ℕ). Le k x e.quote) (sym (onto_more k e.moves m (w.cost q m.outcome))) up, g.4)

  going_ended : (q c : ℕ) → w.cost q c ≡ w.model.zero → (es : List Errand) → Going w q c es → AllDone w (ended es)
  going_ended q c z [] g e i = absurd i
  going_ended q c z (x ∷ es) g e (inl same) =
      subst (Done w) (sym same) (refl, subst (λ (f : List ℕ). Le w.model (onto w.model x.moves f) x.quote) z g.3)
  going_ended q c z (x ∷ es) g e (inr i) = g.4 e i

  -- from a kept pair each request of the stage has a safe plan
  pub kept_safe : (s c q : ℕ) → Kept w.domain s c → q < length w.domain.tasks → (task_at w.domain q).from ≡ s → (plan : Plan) × Safe w q plan c
  kept_safe s c q k hq from =
      let t = k.1.closed s c k.2 (task_at w.domain q) (in_at w.domain.tasks q _ hq) from in
      (t.0, inside_safe w q c k.0 t.0 k.1 (t.1, t.2))

  pub after : (es : List Errand) (a b : At) (k : Command) (r : ExactAnswer) → Inv w es a → Took w a k r b → Inv w (noted k r es) b
  after es a b k (refused n) h t = subst (λ (y : At). Inv w es y) (sym t.1) h
  after es a b k (quoted f) h t = subst (λ (y : At). Inv w es y) (sym t.1.3) h
  after es a b k (granted f) h t =
      let q : ℕ = t.0 in
      let p = ask_met w a q t.1.1 in
      let x : Idle w es a.stage a.place = subst (λ (o : Option ℕ). Standing w es a.stage a.place o) p.0 h in
      let m : Met w a.stage a.place q = p.1 in
      let c : ℕ = x.spot in
      let cs = cost_fits w sv laws q m.known c x.inside in
      let fe : f ≡ w.cost q c = t.1.2 ∙ ap (cost_at w q) x.at in
      let plan = kept_safe a.stage c q x.kept m.known m.from in
      let g : Busy w (noted k (granted f) es) a.stage a.place q =
      record {
        known = m.known;
        from = m.from;
        spot = c;
        at = x.at;
        inside = x.inside;
        plan = plan.0;
        safe = plan.1;
        going = (
          ap request_of t.1.0,
          refl,
          subst (Sized w.model) (sym fe) cs,
          subst (λ (y : List ℕ). Le w.model (w.cost q c) y) (sym fe) (reflexive laws _ cs),
          x.done,
        );
      } in
      subst (λ (y : At). Inv w (noted k (granted f) es) y) (sym t.1.3) g
  after es a b k (worked m) h t =
      let q : ℕ = t.0 in
      let c : ℕ = t.1 in
      let o : ℕ = t.2 in
      let p = step_met w a q t.3.1 in
      let x : Busy w es a.stage a.place q = subst (λ (o : Option ℕ). Standing w es a.stage a.place o) p.0 h in
      let same : x.spot ≡ c = some_inj (sym x.at ∙ t.3.2) in
      let hc : c < w.domain.conditions = subst (λ (y : ℕ). y < w.domain.conditions) same x.inside in
      let going : Going w q c es = subst (λ (y : ℕ). Going w q y es) same x.going in
      let hd : m.outcome < w.domain.conditions = (wf.within m t.3.4.0).1 in
      let s = work_after w sv laws q x.known wf c o m hc t.3.3 t.3.4 in
      let g : Busy w (moved m es) a.stage (Some m.outcome) q =
      record {
        known = x.known;
        from = x.from;
        spot = m.outcome;
        at = refl;
        inside = hd;
        plan = s.0.0;
        safe = s.0.1;
        going = going_moved q c m x.known hc hd s.1 es going;
      } in
      let g2 : Standing w (moved m es) a.stage (Some m.outcome) a.out =
      subst (λ (o : Option ℕ). Standing w (moved m es) a.stage (Some m.outcome) o) (sym p.0) g in
      subst (λ (y : At). Inv w (moved m es) y) (sym t.3.5) g2
  after es a b k (closed s) h t =
      let q : ℕ = t.0 in
      let p = close_met w a q t.1.1 in
      let x : Busy w es a.stage a.place q = subst (λ (o : Option ℕ). Standing w es a.stage a.place o) p.0 h in
      let c : ℕ = x.spot in
      let there : w.entry q c ≡ There = sym (ap (entry_at w q) x.at) ∙ p.2 in
      let right = there_right w sv laws q x.known c x.inside there in
      let g : Idle w (ended es) (task_at w.domain q).to a.place =
      record {
        spot = c;
        at = x.at;
        inside = x.inside;
        kept = there_kept w sv laws q x.known c x.inside there;
        done = going_ended q c right.1 es x.going;
      } in
      let g2 : Idle w (ended es) s a.place = subst (λ (y : ℕ). Idle w (ended es) y a.place) (sym t.1.2) g in
      subst (λ (y : At). Inv w (ended es) y) (sym t.1.3) g2

  pub after_all : (h : List Event) (es : List Errand) (a b : At) → Inv w es a → History w a h b → Inv w (errands_after es h) b
  after_all [] es a b i t = subst (λ (y : At). Inv w es y) (sym t) i
  after_all (e ∷ h) es a b i t =
      after_all h (noted e.command e.answer es) e.after b (after es a e.after e.command e.answer i t.1) t.2
