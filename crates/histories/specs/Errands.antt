-- What each grant of a history went through.
use Rattle.std.specs.Prelude.{ℕ, Bool, true, false, cond, List, [], ◌∷◌, ◌++◌}
use Rattle.port.specs.declared.Move.{Move}
use Rattle.costs.specs.Costs.{Model}
use Rattle.solver.specs.Policy.{World}
use Rattle.histories.specs.declared.Command.{Command}
use Rattle.histories.specs.declared.Command.TheVariants.{Quote, Ask, Step, Close}
use Rattle.histories.specs.Calls.{At, ExactAnswer, quoted, granted, worked, closed, refused, Event, cost_at}

-- One grant: its request, its exact quote, the moves of its accepted steps in order, and whether it is still out.
pub record Errand : Type 0 where
  pub request : ℕ
  pub quote : List ℕ
  pub moves : List Move
  pub out : Bool

-- The request that a command names.
abbrev pub request_of : Command → ℕ
request_of (Quote q) = q
request_of (Ask q) = q
request_of (Step q) = q
request_of (Close q) = q

-- The newest errand makes a move.
abbrev pub moved : Move → List Errand → List Errand
moved m [] = []
moved m (e ∷ es) = record { request = e.request; quote = e.quote; moves = e.moves ++ (m ∷ []); out = e.out } ∷ es

-- The newest errand ends.
abbrev pub ended : List Errand → List Errand
ended [] = []
ended (e ∷ es) = record { request = e.request; quote = e.quote; moves = e.moves; out = false } ∷ es

-- The errands after one call more, the newest first: a grant begins one, a step adds its move, a close ends it.
abbrev pub noted : Command → ExactAnswer → List Errand → List Errand
noted k (quoted f) es = es
noted k (granted f) es = record { request = request_of k; quote = f; moves = []; out = true } ∷ es
noted k (worked m) es = moved m es
noted k (closed s) es = ended es
noted k (refused n) es = es

abbrev pub errands_after : List Errand → List Event → List Errand
errands_after es [] = es
errands_after es (e ∷ h) = errands_after (noted e.command e.answer es) h

-- The errands of a history.
abbrev pub errands : List Event → List Errand
errands h = errands_after [] h

-- Moves joined onto a cost, from the last to the first.
abbrev pub onto : Model → List Move → List ℕ → List ℕ
onto k [] f = f
onto k (m ∷ ms) f = k.join m (onto k ms f)

-- What is left of an errand's cost: while it is out the policy's cost where the lock stands, and zero once it is closed.
abbrev pub left : World → At → Errand → List ℕ
left w b e = cond e.out (cost_at w e.request b.place) w.model.zero
