-- What calls do with the lock itself, whatever it has beside its marks. What one working does to a lock is its own affair (`works`).
use Rattle.std.specs.Prelude.{◌≡◌, ℕ, Bool, true, false, ◌⊎◌, List, [], ◌∷◌, ◌++◌, Some, Ok, Err}
use Rattle.port.specs.Model.{Model as PortModel}
use Rattle.costs.specs.Costs.{Model}
use Rattle.locks.specs.Steps.{WorkedInTurn}
use Rattle.solver.specs.Policy.{World}
use Rattle.histories.specs.declared.Command.{Command}
use Rattle.histories.specs.declared.Command.TheVariants.{Step}
use Rattle.histories.specs.Calls.{At, Passes, refusal, rules}
use Rattle.histories.specs.Refusals.{cannot_work}
use Rattle.control.specs.declared.answer.Reply.TheVariants.{Quoted, Granted, Worked, Closed}
use Rattle.control.specs.declared.controller.Controller.{Controller}
use Rattle.control.specs.declared.refusal.Refusal.{Refusal}
use Rattle.control.specs.Numbers.{refusal_number}
use Rattle.control.specs.Rulings.{Next}
use Rattle.control.specs.States.{Answer, State, at_of}
use Rattle.control.specs.Worlds.{terms_world}
use Rattle.control.specs.Controllers.{at_in}
use Rattle.control.specs.Outings.{Turn, Logged, Told}

-- No rule refuses the step, but the lock does, worked once with the policy's operation. That is the refusal of what cannot be worked.
abbrev pub Declines : {S : Type 0} → (S → ℕ → Bool → S → Type 0) → World → At → Command → Refusal → S → S → Type 0
Declines works w a k r s s' =
    (q o : ℕ) × ((k ≡ Step q) × Passes w a (Step q) × Next w a.place q o × works s o false s' × (refusal_number r ≡ cannot_work))

-- One call takes the lock from s to s'. An accepted step works it once, with the operation that is answered; and a step that only the lock
-- refuses works it once, with the policy's operation. Nothing else works it: by any other answer, each refusal by a rule among them, the lock
-- is what it was.
abbrev pub Handles : {K S : Type 0} → (S → ℕ → Bool → S → Type 0) → World → At → Command → Answer K → S → S → Type 0
Handles works w a k (Err r) s s' = ((refusal (rules w a k) ≡ Some (refusal_number r)) × (s' ≡ s)) ⊎ Declines works w a k r s s'
Handles works w a k (Ok (Quoted x)) s s' = s' ≡ s
Handles works w a k (Ok (Granted x)) s s' = s' ≡ s
Handles works w a k (Ok (Worked o)) s s' = works s o true s'
Handles works w a k (Ok (Closed x)) s s' = s' ≡ s

-- The same of a call on a controller, over a lock whose marks `present` tells.
abbrev pub HandlesCall : {X K S : Type 0} → Model → (K → List ℕ) → (S → ℕ) → (S → ℕ → Bool → S → Type 0) → Controller X K → Command → Answer K → S → S → Type 0
HandlesCall k e present works a c r s s' = Handles works (terms_world k e a.terms) (at_in a (present s)) c r s s'

-- Calls one after another take the lock from s to s', each from where the one before left it, and finds the marks there that its turn tells.
abbrev pub HandlesAll : {K S : Type 0} → (S → ℕ) → (S → ℕ → Bool → S → Type 0) → World → List ℕ → List (Turn K) → S → S → Type 0
HandlesAll {K} {S} present works w cs [] s s' = s' ≡ s
HandlesAll {K} {S} present works w cs (t ∷ ts) s s' =
    (u : S) × ((t.before.marks ≡ present s) × Handles works w (at_of cs t.before) t.command t.answer s u × HandlesAll present works w cs ts u s')

-- The calls of a log, with what they did to the lock.
pub record Tended {K S : Type 0} (e : K → List ℕ) (present : S → ℕ) (works : S → ℕ → Bool → S → Type 0) (w : World) (cs : List ℕ) (M : PortModel) (a : State) (s : S) (ks : List Command) (rs : List (Answer K)) (b : State) (s' : S) : Type 0 where
  pub logged : Logged e w cs M a ks rs b
  pub handled : HandlesAll present works w cs logged.turns s s'

-- The operations of the accepted steps among the answers, in their order.
abbrev pub operation_of : {K : Type 0} → Answer K → List ℕ
operation_of (Err r) = []
operation_of (Ok (Quoted x)) = []
operation_of (Ok (Granted x)) = []
operation_of (Ok (Worked o)) = o ∷ []
operation_of (Ok (Closed x)) = []

abbrev pub accepted : {K : Type 0} → List (Answer K) → List ℕ
accepted [] = []
accepted (r ∷ rs) = operation_of r ++ accepted rs

-- The log of an outing, with what it did to the lock. A lock of the same port is worked by the accepted steps and by nothing else, once by each.
pub record Carried {K S : Type 0} (k : Model) (e : K → List ℕ) (present : S → ℕ) (works : S → ℕ → Bool → S → Type 0) (P M : PortModel) (s : S) (ks : List Command) (s' : S) (rs : List (Answer K)) : Type 0 where
  pub told : Told k e P M (present s) ks (present s') rs
  pub handled : HandlesAll present works told.world P.conditions told.logged.turns s s'
  pub steps : M ≡ P → WorkedInTurn works (accepted rs) s s'
