-- What a controller promises over whole histories.
use Rattle.std.specs.Prelude.{◌≡◌, ℕ, ◌<◌, Bool, true, ◌⊎◌, ◌↔◌, List, Some, None, Option, ◌≢◌}
use Rattle.port.specs.Limits.{In}
use Rattle.port.specs.declared.Move.{Move}
use Rattle.plans.specs.Plans.{Plan}
use Rattle.plans.specs.Simulation.{WellFormed, Meets, EndsIn, Holds, Simulation, Kept}
use Rattle.plans.specs.Flags.{task_at}
use Rattle.costs.specs.Costs.{Laws, Le}
use Rattle.solver.specs.declared.Entry.TheVariants.{There}
use Rattle.solver.specs.Policy.{World, Price, Solved}
use Rattle.histories.specs.declared.Command.TheVariants.{Ask, Step, Close}
use Rattle.histories.specs.Calls.{At, ExactAnswer, quoted, granted, worked, closed, Took, Event, History, offered, entry_at, refusal, open_rules, start_at, Opens}
use Rattle.histories.specs.Refusals.{dropped}
use Rattle.histories.specs.Errands.{Errand, errands, left, onto, request_of}

-- The plan meets request q from c and ends inside R.
abbrev pub Inside : World → ℕ → ℕ → (ℕ → ℕ → Bool) → Plan → Type 0
Inside w q c R plan = Meets w.domain (task_at w.domain q) plan c × EndsIn w.domain plan c (Holds R (task_at w.domain q).to)

-- f is the cost of a plan that meets request q from c and ends inside a simulation, and every such plan, whichever simulation it ends in,
-- has a cost, and it is at least f.
pub record LeastInSimulations (w : World) (q c : ℕ) (f : List ℕ) : Type 0 where
  pub some : (R : ℕ → ℕ → Bool) × (plan : Plan) × (Simulation w.domain R × Inside w q c R plan × Price w plan c f)
  pub least : (R : ℕ → ℕ → Bool) (plan : Plan) → Simulation w.domain R → Inside w q c R plan →
      (g : List ℕ) × Price w plan c g × Le w.model f g

-- An answer that tells a quote.
abbrev pub Tells : ExactAnswer → List ℕ → Type 0
Tells r f = (r ≡ quoted f) ⊎ (r ≡ granted f)

-- The promise of a history h that has come to b.
pub record Promise (w : World) (h : List Event) (b : At) : Type 0 where
  -- the lock stands in a condition of the port
  pub stands : (c : ℕ) × ((b.place ≡ Some c) × (c < w.domain.conditions))
  -- each errand's moves, joined onto the cost that is left, are within its quote
  pub spends : (e : Errand) → In e (errands h) → Le w.model (onto w.model e.moves (left w b e)) e.quote
  -- with no grant out every request of the stage is granted when it is asked
  pub grants : b.out ≡ None → (q : ℕ) → offered w b.stage q ≡ true →
      (r : ExactAnswer) (e : At) → Took w b (Ask q) r e → (f : List ℕ) × (r ≡ granted f)
  -- with one out its step is accepted where the entry is not There
  pub steps : (q : ℕ) → b.out ≡ Some q → (entry_at w q b.place ≢ There) →
      (r : ExactAnswer) (e : At) → Took w b (Step q) r e → (m : Move) × (r ≡ worked m)
  -- and its close where it is
  pub closes : (q : ℕ) → b.out ≡ Some q → entry_at w q b.place ≡ There →
      (r : ExactAnswer) (e : At) → Took w b (Close q) r e → (s : ℕ) × (r ≡ closed s)
  -- every accepted step began where keep held
  pub keeps : (e : Event) → In e h → (m : Move) → e.answer ≡ worked m →
      (q c : ℕ) × ((e.command ≡ Step q) × (e.before.place ≡ Some c) × ((task_at w.domain q).keep c ≡ true))
  -- every accepted close began where reach held
  pub reaches : (e : Event) → In e h → (s : ℕ) → e.answer ≡ closed s →
      (q c : ℕ) × ((e.command ≡ Close q) × (e.before.place ≡ Some c) × ((task_at w.domain q).reach c ≡ true))
  -- every quote, told or granted, is the least
  pub quotes : (e : Event) → In e h → (f : List ℕ) → Tells e.answer f →
      (c : ℕ) × ((e.before.place ≡ Some c) × LeastInSimulations w (request_of e.command) c f)

-- Every history from there has the promise.
abbrev pub Promised : World → At → Type 0
Promised w a = (h : List Event) (b : At) → History w a h b → Promise w h b

-- Over every lawful model, with a policy and ranks as solving leaves them, each history from an accepted opening has the promise.
abbrev pub PromiseHolds : Type 0
PromiseHolds =
    (w : World) → Laws w.model → WellFormed w.domain → Solved w →
    (s : ℕ) (p : Option ℕ) → s < w.domain.stages → Opens w s p → Promised w (start_at s p)

-- An opening at stage s over a lock in condition c is accepted where some simulation holds the pair, and refused where none does.
pub record Opening (w : World) (s c : ℕ) : Type 0 where
  pub accepts : Opens w s (Some c) ↔ Kept w.domain s c
  pub refuses : (refusal (open_rules w s (Some c)) ≡ Some dropped) ↔ (Kept w.domain s c → ⊥)

abbrev pub OpeningHolds : Type 0
OpeningHolds = (w : World) → Solved w → (s c : ℕ) → s < w.domain.stages → c < w.domain.conditions → Opening w s c
