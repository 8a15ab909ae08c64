-- What each call does, told of a controller.
use Rattle.std.specs.Prelude.{◌≡◌, ℕ, List, Option, Result}
use Rattle.port.specs.Model.{model_of}
use Rattle.port.specs.Model.{Model as PortModel}
use Rattle.costs.specs.Costs.{Model}
use Rattle.histories.specs.declared.Command.{Command}
use Rattle.solver.specs.Policy.{World}
use Rattle.histories.specs.Calls.{At, Rule}
use Rattle.control.specs.declared.controller.Controller.{Controller}
use Rattle.control.specs.declared.refusal.Refusal.{Refusal}
use Rattle.control.specs.Worlds.{place_in, terms_world}
use Rattle.control.specs.Rulings.{Found}
use Rattle.control.specs.States.{Answer, State, state, at_of, Ruled, Does, Did}

-- Where a controller is beside a lock with these marks, and the same by the condition that they are in the controller's port.
abbrev pub beside : {X K : Type 0} → Controller X K → ℕ → State
beside a m = state a.stage a.out m

abbrev pub at_in : {X K : Type 0} → Controller X K → ℕ → At
at_in a m = at_of (model_of a.terms.port.now).conditions (beside a m)

-- What a controller finds for a request q beside a lock with marks m: the number of the first of these rules that refuses it, or, where none
-- does, what is so of it at the lock's condition.
abbrev pub FindsCall : {X K V : Type 0} → Model → (K → List ℕ) → Controller X K → ℕ → ℕ → (World → ℕ → Option ℕ → ℕ → List Rule) → (World → Option ℕ → ℕ → V → Type 0) → Result V Refusal → Type 0
FindsCall k e a q m rules so r =
    let w = terms_world k e a.terms in
    let p = place_in a.terms.port.now m in
    Found (rules w a.stage p q) (so w p q) r

-- What a command to a controller comes to, beside a lock with marks m.
abbrev pub RulesCall : {X K : Type 0} → Model → (K → List ℕ) → Controller X K → ℕ → Command → Answer K → Type 0
RulesCall k e a m c r = Ruled e (terms_world k e a.terms) (at_in a m) c r

-- A call on controller a over a lock whose port is M leaves controller b on the same terms, and takes the lock's marks from m to m'.
abbrev pub DoesCall : {X K : Type 0} → Model → (K → List ℕ) → PortModel → Controller X K → ℕ → Command → Answer K → Controller X K → ℕ → Type 0
DoesCall k e M a m c r b m' = (b.terms ≡ a.terms) × Does e (terms_world k e a.terms) (model_of a.terms.port.now).conditions M (beside a m) c r (beside b m')

-- The call is one of a history, with this answer, and leaves the controller on the same terms.
abbrev pub DidCall : {X K : Type 0} → Model → (K → List ℕ) → Controller X K → ℕ → Command → Answer K → Controller X K → ℕ → Type 0
DidCall k e a m c r b m' = (b.terms ≡ a.terms) × Did e (terms_world k e a.terms) (at_in a m) c r (at_in b m')
