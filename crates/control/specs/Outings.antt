-- Whole outings: the calls that were made, their answers, and the promise over them.
use Rattle.std.specs.Prelude.{◌≡◌, ℕ, List, [], ◌∷◌, map, codes, Some, None, Option}
use Rattle.port.specs.Model.{Model as PortModel}
use Rattle.plans.specs.Domains.{domain_of}
use Rattle.costs.specs.Costs.{Model}
use Rattle.solver.specs.Policy.{World, Solved}
use Rattle.locks.specs.Places.{place_of}
use Rattle.histories.specs.declared.Command.{Command}
use Rattle.histories.specs.Calls.{At, Event, History, Opens, refusal, open_rules, start_at}
use Rattle.histories.specs.Promise.{Promise, Opening}
use Rattle.control.specs.declared.refusal.Refusal.{Refusal}
use Rattle.control.specs.declared.tour.OutingError.{OutingError}
use Rattle.control.specs.declared.tour.OutingError.TheVariants.{Refused, Memory}
use Rattle.control.specs.Numbers.{refusal_number, refusal_text}
use Rattle.control.specs.States.{Answer, State, state, Does, Shows}

-- One call of an outing.
pub record Turn (K : Type 0) : Type 0 where
  pub before : State
  pub command : Command
  pub answer : Answer K
  pub after : State

-- Calls one after another over a lock whose port is M, from a to b.
abbrev pub Course : {K : Type 0} → (K → List ℕ) → World → List ℕ → PortModel → State → List (Turn K) → State → Type 0
Course e w cs M a [] b = b ≡ a
Course e w cs M a (t ∷ ts) b = (t.before ≡ a) × Does e w cs M a t.command t.answer t.after × Course e w cs M t.after ts b

-- Some such calls have these commands and these answers.
pub record Logged {K : Type 0} (e : K → List ℕ) (w : World) (cs : List ℕ) (M : PortModel) (a : State) (ks : List Command) (rs : List (Answer K)) (b : State) : Type 0 where
  pub turns : List (Turn K)
  pub asked : map (λ t. t.command) turns ≡ ks
  pub answered : map (λ t. t.answer) turns ≡ rs
  pub chained : Course e w cs M a turns b

-- The program's answers stand for those of a history, one for one.
abbrev pub ShowsAll : {K : Type 0} → (K → List ℕ) → List (Answer K) → List Event → Type 0
ShowsAll e [] [] = Unit {0}
ShowsAll e [] (x ∷ h) = ⊥
ShowsAll e (r ∷ rs) [] = ⊥
ShowsAll e (r ∷ rs) (x ∷ h) = Shows e r x.answer × ShowsAll e rs h

-- The commands and answers are a history from an accepted opening at stage s over a lock at p, it leaves the lock at p', and it has the promise.
pub record Outed {K : Type 0} (e : K → List ℕ) (w : World) (s : ℕ) (p p' : Option ℕ) (ks : List Command) (rs : List (Answer K)) : Type 0 where
  pub history : List Event
  pub end : At
  pub asked : map (λ x. x.command) history ≡ ks
  pub answered : ShowsAll e rs history
  pub chained : History w (start_at s p) history end
  pub ends : end.place ≡ p'
  pub promise : Promise w history end

-- A world over the port P and the cost model k, with a policy and ranks as solving leaves them.
pub record Ready (P : PortModel) (k : Model) (w : World) : Type 0 where
  pub over : w.domain ≡ domain_of P
  pub under : w.model ≡ k
  pub solved : Solved w

-- The log of an outing over a lock whose port is M: the answers to the commands, one for one, from an accepted opening. Over a lock of the same port they are a
-- history with the promise.
pub record Told {K : Type 0} (k : Model) (e : K → List ℕ) (P M : PortModel) (m : ℕ) (ks : List Command) (m' : ℕ) (rs : List (Answer K)) : Type 0 where
  pub world : World
  pub ready : Ready P k world
  pub opens : Opens world P.header.stage (place_of P.conditions m)
  pub kept : (c : ℕ) → place_of P.conditions m ≡ Some c → Opening world P.header.stage c
  pub last : State
  pub logged : Logged e world P.conditions M (state P.header.stage None m) ks rs last
  pub ends : last.marks ≡ m'
  pub outed : M ≡ P → Outed e world P.header.stage (place_of P.conditions m) (place_of P.conditions m') ks rs

-- The opening of an outing was refused, by the number of the first rule that does, and the lock is as it was.
pub record Barred (k : Model) (P : PortModel) (m m' : ℕ) (r : Refusal) : Type 0 where
  pub world : World
  pub ready : Ready P k world
  pub refused : refusal (open_rules world P.header.stage (place_of P.conditions m)) ≡ Some (refusal_number r)
  pub kept : (c : ℕ) → place_of P.conditions m ≡ Some c → Opening world P.header.stage c
  pub stays : m' ≡ m

-- Why an outing has no log. Want of memory leaves the lock as it was, too.
abbrev pub Failed : Model → PortModel → ℕ → ℕ → OutingError → Type 0
Failed k P m m' (Refused r) = Barred k P m m' r
Failed k P m m' Memory = m' ≡ m

-- What is printed of why an outing has no log: the opening's refusal, or that there was no memory.
abbrev pub outing_error_text : OutingError → List ℕ
outing_error_text (Refused r) = refusal_text r
outing_error_text Memory = codes "no memory"
