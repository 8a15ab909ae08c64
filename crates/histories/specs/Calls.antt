-- What a controller may answer at each call, and whole histories of calls.
use Rattle.std.specs.Prelude.{◌≡◌, ℕ, Bool, true, false, cond, not, ◌&&◌, List, [], ◌∷◌, length, is_some, Some, None, Option, ◌==◌, nat_lt}
use Rattle.port.specs.declared.Move.{Move}
use Rattle.plans.specs.Plans.{Can}
use Rattle.plans.specs.Flags.{task_at}
use Rattle.locks.specs.Places.{possible}
use Rattle.solver.specs.declared.Entry.{Entry}
use Rattle.solver.specs.declared.Entry.TheVariants.{None as Nothing, There, Work}
use Rattle.solver.specs.Policy.{World}
use Rattle.histories.specs.declared.Command.{Command}
use Rattle.histories.specs.declared.Command.TheVariants.{Quote, Ask, Step, Close}
use Rattle.histories.specs.Refusals.{already_out, not_offered, no_condition, dropped, no_plan, arrived, not_arrived, not_out, cannot_work}

-- Where a controller and its lock stand: the stage, the request that is out, and the lock's condition, where its marks are one.
pub record At : Type 0 where
  pub stage : ℕ
  pub out : Option ℕ
  pub place : Option ℕ

-- What a call is answered: a quote by its exact cost, a grant by its quote, the move that a step made, the stage that a close goes on to,
-- or a refusal by its number.
pub data ExactAnswer : Type 0 where
  quoted : List ℕ → ExactAnswer
  granted : List ℕ → ExactAnswer
  worked : Move → ExactAnswer
  closed : ℕ → ExactAnswer
  refused : ℕ → ExactAnswer

-- A rule of refusal: its number, and whether it refuses the call.
pub record Rule : Type 0 where
  pub number : ℕ
  pub applies : Bool

abbrev pub rule : ℕ → Bool → Rule
rule n b = record { number = n; applies = b }

-- The number of the first rule that applies.
abbrev pub refusal : List Rule → Option ℕ
refusal [] = None
refusal (r ∷ rs) = cond r.applies (Some r.number) (refusal rs)

-- Request q is one of stage s.
abbrev pub offered : World → ℕ → ℕ → Bool
offered w s q = nat_lt q (length w.domain.tasks) && (task_at w.domain q).from == s

-- The lock stands in a condition.
abbrev pub placed : World → Option ℕ → Bool
placed w None = false
placed w (Some c) = nat_lt c w.domain.conditions

-- The policy's entry and cost for request q where the lock stands.
abbrev pub entry_at : World → ℕ → Option ℕ → Entry
entry_at w q None = Nothing
entry_at w q (Some c) = w.entry q c

abbrev pub cost_at : World → ℕ → Option ℕ → List ℕ
cost_at w q None = w.model.zero
cost_at w q (Some c) = w.cost q c

abbrev pub is_nothing : Entry → Bool
is_nothing Nothing = true
is_nothing There = false
is_nothing (Work o) = false

abbrev pub is_there : Entry → Bool
is_there Nothing = false
is_there There = true
is_there (Work o) = false

-- Operation o is possible where the lock stands.
abbrev pub possible_at : World → Option ℕ → ℕ → Bool
possible_at w None o = false
possible_at w (Some c) o = possible w.domain.moves c o

-- The entry is neither There nor an operation possible where the lock stands.
abbrev pub stuck : World → Option ℕ → Entry → Bool
stuck w p Nothing = true
stuck w p There = false
stuck w p (Work o) = not (possible_at w p o)

-- The request that is out is q.
abbrev pub is_out : Option ℕ → ℕ → Bool
is_out None q = false
is_out (Some p) q = p == q

-- The refusals of a request q at stage s where the lock stands at p, in their order.
abbrev pub quote_rules : World → ℕ → Option ℕ → ℕ → List Rule
quote_rules w s p q =
    rule not_offered (not (offered w s q)) ∷ rule no_condition (not (placed w p)) ∷ rule no_plan (is_nothing (entry_at w q p)) ∷ []

abbrev pub ask_rules : World → ℕ → Option ℕ → ℕ → List Rule
ask_rules w s p q =
    rule not_offered (not (offered w s q)) ∷ rule no_condition (not (placed w p)) ∷ rule no_plan (is_nothing (entry_at w q p))
    ∷ rule cannot_work (stuck w p (entry_at w q p)) ∷ []

abbrev pub step_rules : World → ℕ → Option ℕ → ℕ → List Rule
step_rules w s p q =
    rule not_offered (not (offered w s q)) ∷ rule no_condition (not (placed w p)) ∷ rule no_plan (is_nothing (entry_at w q p))
    ∷ rule arrived (is_there (entry_at w q p)) ∷ rule cannot_work (stuck w p (entry_at w q p)) ∷ []

abbrev pub close_rules : World → ℕ → Option ℕ → ℕ → List Rule
close_rules w s p q =
    rule not_offered (not (offered w s q)) ∷ rule no_condition (not (placed w p))
    ∷ rule not_arrived (not (is_there (entry_at w q p))) ∷ []

-- The refusals of each call, in their order. Before those of its request come that of a step or a close whose request is not out, and
-- that of an ask while a grant is out.
abbrev pub rules : World → At → Command → List Rule
rules w a (Quote q) = quote_rules w a.stage a.place q
rules w a (Ask q) = rule already_out (is_some a.out) ∷ ask_rules w a.stage a.place q
rules w a (Step q) = rule not_out (not (is_out a.out q)) ∷ step_rules w a.stage a.place q
rules w a (Close q) = rule not_out (not (is_out a.out q)) ∷ close_rules w a.stage a.place q

-- No rule refuses the call.
abbrev pub Passes : World → At → Command → Type 0
Passes w a k = refusal (rules w a k) ≡ None

-- One call over a lock of the same port: where it finds controller and lock, what is asked, what is answered, and where it leaves them.
-- A refusal changes nothing. A step makes one of the moves that the policy's operation may make where the lock stands.
abbrev pub Took : World → At → Command → ExactAnswer → At → Type 0
Took w a k (refused n) b = (refusal (rules w a k) ≡ Some n) × (b ≡ a)
Took w a k (quoted f) b = (q : ℕ) × ((k ≡ Quote q) × Passes w a (Quote q) × (f ≡ cost_at w q a.place) × (b ≡ a))
Took w a k (granted f) b =
    (q : ℕ) × ((k ≡ Ask q) × Passes w a (Ask q) × (f ≡ cost_at w q a.place)
    × (b ≡ record { stage = a.stage; out = Some q; place = a.place }))
Took w a k (worked m) b =
    (q c o : ℕ) × ((k ≡ Step q) × Passes w a (Step q) × (a.place ≡ Some c) × (w.entry q c ≡ Work o) × Can w.domain.moves c o m
    × (b ≡ record { stage = a.stage; out = a.out; place = Some m.outcome }))
Took w a k (closed s) b =
    (q : ℕ) × ((k ≡ Close q) × Passes w a (Close q) × (s ≡ (task_at w.domain q).to)
    × (b ≡ record { stage = s; out = None; place = a.place }))

-- One call of a history.
pub record Event : Type 0 where
  pub before : At
  pub command : Command
  pub answer : ExactAnswer
  pub after : At

-- Calls one after another, from a to b.
abbrev pub History : World → At → List Event → At → Type 0
History w a [] b = b ≡ a
History w a (e ∷ h) b = (e.before ≡ a) × Took w a e.command e.answer e.after × History w e.after h b

-- The rank handed for stage s where the lock stands; a lock that stands nowhere has none, and is refused before it is read.
abbrev pub rank_of : World → ℕ → Option ℕ → ℕ
rank_of w s None = 0
rank_of w s (Some c) = w.rank s c

-- The refusals of an opening at stage s: the lock's marks are no condition, or the rank there is not 0.
abbrev pub open_rules : World → ℕ → Option ℕ → List Rule
open_rules w s p = rule no_condition (not (placed w p)) ∷ rule dropped (not (rank_of w s p == 0)) ∷ []

-- Where an accepted opening stands.
abbrev pub start_at : ℕ → Option ℕ → At
start_at s p = record { stage = s; out = None; place = p }

-- An opening at stage s over a lock that stands at p is accepted.
abbrev pub Opens : World → ℕ → Option ℕ → Type 0
Opens w s p = refusal (open_rules w s p) ≡ None
