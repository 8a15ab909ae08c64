-- Calls over a lock of the controller's own port, and calls that a rule refuses.
use Rattle.std.proofs.Common.{◌≡◌, ℕ, true, false, List, Some, Ok, Err, Option, Result, IsErrAnd, sym, refl, ap, ◌∙◌, subst, inl, inr, arith}
use Rattle.port.specs.Limits.{Rise}
use Rattle.port.specs.Model.{Model}
use Rattle.port.specs.declared.Move.{Move}
use Rattle.plans.specs.Plans.{Can}
use Rattle.locks.specs.Places.{place_of, possible, IsAt, Leads}
use Rattle.locks.specs.Works.{LockWorked}
use Rattle.locks.proofs.Standing.{place_found, place_is, possible_means}
use Rattle.solver.specs.declared.Entry.{Entry}
use Rattle.solver.specs.declared.Entry.TheVariants.{Work}
use Rattle.solver.specs.Policy.{World}
use Rattle.costs.specs.Costs.{Model as CostsOf}
use Rattle.histories.specs.declared.Command.{Command}
use Rattle.histories.specs.declared.Command.TheVariants.{Step}
use Rattle.histories.specs.Calls.{Passes, rules, entry_at, stuck, quoted, granted, worked, closed, refused}
use Rattle.histories.proofs.Basics.{some_inj, not_false, passes_clear}
use Rattle.control.specs.declared.answer.Reply.{Reply}
use Rattle.control.specs.declared.answer.Reply.TheVariants.{Quoted, Granted, Worked, Closed}
use Rattle.control.specs.declared.refusal.Refusal.{Refusal}
use Rattle.control.specs.declared.controller.Controller.{Controller}
use Rattle.control.specs.Controllers.{RulesCall, DidCall}
use Rattle.control.specs.Numbers.{refusal_number}
use Rattle.control.specs.Rulings.{Next}
use Rattle.control.specs.States.{Answer, State, state, at_of, Balks, Does, Did, answer_of}

-- the place of a condition's marks
pub placed_at : (P : Model) (c m : ℕ) → Rise P.conditions → IsAt P c m → place_of P.conditions m ≡ Some c
placed_at P c m up a = sym (place_found P.conditions c m a.0 a.1 (λ i l e. let u = up i c l a.0 in omega (arith, u, e, a.1)))

module _ {K : Type 0} (e : K → List ℕ) (w : World) (P : Model) (up : Rise P.conditions) (moves : w.domain.moves ≡ P.moves) where
  stepped : (a b : State) (q o : ℕ) → Passes w (at_of P.conditions a) (Step q) → Next w (place_of P.conditions a.marks) q o →
      LockWorked P a.marks o true b.marks → b ≡ state a.stage a.out b.marks →
      Did e w (at_of P.conditions a) (Step q) (Ok (Worked o)) (at_of P.conditions b)
  stepped a b q o passes next lock is =
      let l = lock.accepts refl in
      let c : ℕ = l.0 in
      let at : place_of P.conditions a.marks ≡ Some c = placed_at P c a.marks up l.2.0 in
      let one : next.0 ≡ c = some_inj (sym next.1.0 ∙ at) in
      let lead : Leads P c o l.1 = l.2.1 in
      let t : Move = lead.0 in
      let after : place_of P.conditions b.marks ≡ Some t.outcome =
      placed_at P l.1 b.marks up l.2.2 ∙ ap (λ (x : ℕ). Some x) (sym lead.2) in (
        worked t,
        (
          (t, (refl, lead.1.2)),
          (
            q,
            c,
            o,
            (
              refl,
              passes,
              at,
              subst (λ (x : ℕ). w.entry q x ≡ Work o) one next.1.1,
              subst (λ (x : List Move). Can x c o t) (sym moves) lead.1,
              ap (at_of P.conditions) is ∙ ap (λ (p : Option ℕ). record { stage = a.stage; out = a.out; place = p }) after,
            ),
          ),
        ),
      )

  -- the lock does not refuse what no rule refuses
  pub never_balks : (a : State) (k : Command) (r : Refusal) → Balks w P.conditions P a k r → ⊥
  never_balks a k r b =
      let q : ℕ = b.0 in
      let o : ℕ = b.1 in
      let p : Option ℕ = place_of P.conditions a.marks in
      let next : Next w p q o = b.2.2 in
      let c : ℕ = next.0 in
      let clear = passes_clear (rules w (at_of P.conditions a) (Step q)) b.2.1 in
      let free : stuck w p (entry_at w q p) ≡ false = clear.1.1.1.1.1.0 in
      let free2 : stuck w (Some c) (w.entry q c) ≡ false = subst (λ (x : Option ℕ). stuck w x (entry_at w q x) ≡ false) next.1.0 free in
      let free3 : stuck w (Some c) (Work o) ≡ false = subst (λ (x : Entry). stuck w (Some c) x ≡ false) next.1.1 free2 in
      let can : possible P.moves c o ≡ true = subst (λ (x : List Move). possible x c o ≡ true) moves (not_false _ free3) in
      (b.2.3.refuses refl).1 c (place_is P.conditions a.marks c next.1.0) (possible_means P.moves c o can)

  -- over a lock of the controller's own port each call is one of a history
  pub did_own : (M : Model) → M ≡ P → (a : State) (k : Command) (r : Answer K) (b : State) → Does e w P.conditions M a k r b →
      Did e w (at_of P.conditions a) k r (at_of P.conditions b)
  did_own M own a k (Ok (Quoted x)) b d = (quoted (e x), (refl, (d.0, (d.1.0, d.1.1, d.1.2, ap (at_of P.conditions) d.1.3))))
  did_own M own a k (Ok (Granted x)) b d = (granted (e x), (refl, (d.0, (d.1.0, d.1.1, d.1.2, ap (at_of P.conditions) d.1.3))))
  did_own M own a k (Ok (Closed t)) b d = (closed t, (refl, (d.0, (d.1.0, d.1.1, d.1.2, ap (at_of P.conditions) d.1.3))))
  did_own M own a k (Ok (Worked o)) b d =
      let lock : LockWorked P a.marks o true b.marks = subst (λ (x : Model). LockWorked x a.marks o true b.marks) own d.1.3 in
      subst (λ (x : Command). Did e w (at_of P.conditions a) x (Ok (Worked o)) (at_of P.conditions b)) (sym d.1.0)
      (stepped a b d.0 o d.1.1 d.1.2 lock d.1.4)
  did_own M own a k (Err r) b (is, inl n) = (refused (refusal_number r), (refl, (n, ap (at_of P.conditions) is)))
  did_own M own a k (Err r) b (is, inr h) =
      absurd (never_balks a k r (subst (λ (x : Model). Balks w P.conditions x a k r) own h))

-- A call that a rule refuses changes nothing, and its error is the rule's.
pub did_refused : {X K Y : Type 0} (k : CostsOf) (e : K → List ℕ) (a : Controller X K) (m₀ m : ℕ) → m₀ ≡ m → (c : Command) (f : Y → Reply K)
    (r : Result Y Refusal) (x : Refusal) (P : Refusal → Type 0) → RulesCall k e a m₀ c (Err x) → IsErrAnd r P → ((y : Refusal) → P y → y ≡ x) →
    DidCall k e a m c (answer_of f r) a m
did_refused k e a m₀ m is c f (Ok y) x P n h same = absurd h
did_refused k e a m₀ m is c f (Err y) x P n h same =
    let here = subst (λ (z : ℕ). RulesCall k e a z c (Err x)) is n in
    (refl, (refused (refusal_number y), (refl, (here ∙ ap (λ (z : Refusal). Some (refusal_number z)) (sym (same y h)), refl))))
