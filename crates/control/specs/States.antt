-- What each call does, over any lock.
use Rattle.std.specs.Prelude.{◌≡◌, ℕ, true, false, ◌⊎◌, List, Some, None, Ok, Err, Option, Result}
use Rattle.port.specs.Model.{Model}
use Rattle.port.specs.declared.Move.{Move}
use Rattle.plans.specs.Flags.{task_at}
use Rattle.locks.specs.Places.{place_of}
use Rattle.locks.specs.Works.{LockWorked}
use Rattle.solver.specs.Policy.{World}
use Rattle.histories.specs.declared.Command.{Command}
use Rattle.histories.specs.declared.Command.TheVariants.{Quote, Ask, Step, Close}
use Rattle.histories.specs.Calls.{At, Passes, refusal, rules, cost_at, Took, quoted, granted, worked, closed, refused}
use Rattle.histories.specs.Calls.{ExactAnswer}
use Rattle.histories.specs.Refusals.{cannot_work}
use Rattle.control.specs.declared.answer.Reply.{Reply}
use Rattle.control.specs.declared.answer.Reply.TheVariants.{Quoted, Granted, Worked, Closed}
use Rattle.control.specs.declared.grant.Grant.{Grant as Token}
use Rattle.control.specs.declared.refusal.Refusal.{Refusal}
use Rattle.control.specs.Numbers.{refusal_number}
use Rattle.control.specs.Rulings.{Next}

-- What the program answers a command: a reply, or why there is none.
abbrev pub Answer : Type 0 → Type 0
Answer K = Result (Reply K) Refusal

-- Where a controller is, and the marks of the lock beside it.
pub record State : Type 0 where
  pub stage : ℕ
  pub out : Option ℕ
  pub marks : ℕ

abbrev pub state : ℕ → Option ℕ → ℕ → State
state s o m = record { stage = s; out = o; marks = m }

-- The same, with the lock's marks by the condition that they are in the controller's port, whose conditions are cs.
abbrev pub at_of : List ℕ → State → At
at_of cs a = record { stage = a.stage; out = a.out; place = place_of cs a.marks }

-- What a command comes to, before the lock is touched: the first rule that refuses it, or else its reply if the lock does as it is bidden.
abbrev pub Ruled : {K : Type 0} → (K → List ℕ) → World → At → Command → Answer K → Type 0
Ruled e w a k (Err r) = refusal (rules w a k) ≡ Some (refusal_number r)
Ruled e w a k (Ok (Quoted x)) = (q : ℕ) × ((k ≡ Quote q) × Passes w a (Quote q) × (e x ≡ cost_at w q a.place))
Ruled e w a k (Ok (Granted x)) = (q : ℕ) × ((k ≡ Ask q) × Passes w a (Ask q) × (e x ≡ cost_at w q a.place))
Ruled e w a k (Ok (Worked o)) = (q : ℕ) × ((k ≡ Step q) × Passes w a (Step q) × Next w a.place q o)
Ruled e w a k (Ok (Closed s)) = (q : ℕ) × ((k ≡ Close q) × Passes w a (Close q) × (s ≡ (task_at w.domain q).to))

-- No rule refuses the step, but the lock, whose port is M, does: it belongs to another port. That is the refusal of what cannot be worked.
abbrev pub Balks : World → List ℕ → Model → State → Command → Refusal → Type 0
Balks w cs M a k r =
    (q o : ℕ) × ((k ≡ Step q) × Passes w (at_of cs a) (Step q) × Next w (place_of cs a.marks) q o × LockWorked M a.marks o false a.marks
    × (refusal_number r ≡ cannot_work))

-- One call over a lock whose port is M: where it finds controller and lock, what is asked, what is answered, and where it leaves them. A refusal
-- changes nothing. A step works the policy's operation, and of the lock's marks after it only the lock's own meaning is known.
abbrev pub Does : {K : Type 0} → (K → List ℕ) → World → List ℕ → Model → State → Command → Answer K → State → Type 0
Does e w cs M a k (Err r) b = (b ≡ a) × ((refusal (rules w (at_of cs a) k) ≡ Some (refusal_number r)) ⊎ Balks w cs M a k r)
Does e w cs M a k (Ok (Quoted x)) b =
    (q : ℕ) × ((k ≡ Quote q) × Passes w (at_of cs a) (Quote q) × (e x ≡ cost_at w q (place_of cs a.marks)) × (b ≡ a))
Does e w cs M a k (Ok (Granted x)) b =
    (q : ℕ) × ((k ≡ Ask q) × Passes w (at_of cs a) (Ask q) × (e x ≡ cost_at w q (place_of cs a.marks))
    × (b ≡ state a.stage (Some q) a.marks))
Does e w cs M a k (Ok (Worked o)) b =
    (q : ℕ) × ((k ≡ Step q) × Passes w (at_of cs a) (Step q) × Next w (place_of cs a.marks) q o × LockWorked M a.marks o true b.marks
    × (b ≡ state a.stage a.out b.marks))
Does e w cs M a k (Ok (Closed s)) b =
    (q : ℕ) × ((k ≡ Close q) × Passes w (at_of cs a) (Close q) × (s ≡ (task_at w.domain q).to) × (b ≡ state s None a.marks))

-- An answer of the program stands for one of a history: costs by their exact costs, a step by its move's operation, a refusal by its number.
abbrev pub Shows : {K : Type 0} → (K → List ℕ) → Answer K → ExactAnswer → Type 0
Shows e (Ok (Quoted x)) t = t ≡ quoted (e x)
Shows e (Ok (Granted x)) t = t ≡ granted (e x)
Shows e (Ok (Worked o)) t = (m : Move) × ((t ≡ worked m) × (m.operation ≡ o))
Shows e (Ok (Closed s)) t = t ≡ closed s
Shows e (Err r) t = t ≡ refused (refusal_number r)

-- The call is one of a history, with this answer.
abbrev pub Did : {K : Type 0} → (K → List ℕ) → World → At → Command → Answer K → At → Type 0
Did e w a k r b = (t : ExactAnswer) × (Shows e r t × Took w a k t b)

-- A call's result as an answer: its value by the reply that it stands for, or its refusal.
abbrev pub answer_of : {X K : Type 0} → (X → Reply K) → Result X Refusal → Answer K
answer_of f (Ok x) = Ok (f x)
answer_of f (Err r) = Err r

-- What each call's result is as an answer.
abbrev pub quote_answer : {K : Type 0} → Result K Refusal → Answer K
quote_answer r = answer_of (λ x. Quoted x) r

abbrev pub grant_answer : {K : Type 0} → Result K Refusal → Answer K
grant_answer r = answer_of (λ x. Granted x) r

abbrev pub ask_answer : {K : Type 0} → Result (Token K) Refusal → Answer K
ask_answer r = answer_of (λ g. Granted g.quote) r

abbrev pub step_answer : {K : Type 0} → Result ℕ Refusal → Answer K
step_answer r = answer_of (λ o. Worked o) r

abbrev pub finish_answer : {K : Type 0} → Result ℕ Refusal → Answer K
finish_answer r = answer_of (λ s. Closed s) r

abbrev pub close_answer : {K : Type 0} → Result ℕ (Refusal × Token K) → Answer K
close_answer (Ok s) = Ok (Closed s)
close_answer (Err p) = Err p.0
