-- Examples of what is computed of a history: its errands, and what is left of their costs.
use Rattle.std.specs.Prelude.{ℕ, Bool, true, false, List, [], ◌∷◌, Some, None}
use Rattle.port.specs.declared.Move.{Move}
use Rattle.costs.specs.Models.{moves_model, minutes_model}
use Rattle.histories.specs.declared.Command.{Command}
use Rattle.histories.specs.declared.Command.TheVariants.{Quote, Ask, Step, Close}
use Rattle.histories.specs.Calls.{At, ExactAnswer, quoted, granted, worked, closed, refused, Event}
use Rattle.histories.specs.Errands.{Errand, request_of, moved, ended, noted, errands_after, errands, onto, left}
use Rattle.cases_plans.specs.Rows.{Row, holds, fails, AllSay}
use Rattle.cases_histories.specs.Values.{Claim, number, numbers, went, Means}
use Rattle.cases_histories.specs.Sluice.{lift, flood, two, nought, w}
use Rattle.cases_histories.specs.Calls.{at}

abbrev pub errand : ℕ → List ℕ → List Move → Bool → Errand
errand q f ms out = record { request = q; quote = f; moves = ms; out = out }

abbrev pub event : At → Command → ExactAnswer → At → Event
event a k r b = record { before = a; command = k; answer = r; after = b }

-- a new grant of request 0, and the same after a move; an older one, which is closed
abbrev new : Errand
new = errand 0 (two 3 1) [] true

abbrev on : Errand
on = errand 0 (two 3 1) (lift ∷ []) true

abbrev older : Errand
older = errand 2 nought [] false

-- leaving low: a quote is told, the request is asked, a second ask is refused, the lock is worked, and the grant is closed
abbrev pub leaving : List Event
leaving =
    event (at 0 None (Some 0)) (Quote 0) (quoted (two 3 1)) (at 0 None (Some 0)) ∷
    event (at 0 None (Some 0)) (Ask 0) (granted (two 3 1)) (at 0 (Some 0) (Some 0)) ∷
    event (at 0 (Some 0) (Some 0)) (Ask 0) (refused 21) (at 0 (Some 0) (Some 0)) ∷
    event (at 0 (Some 0) (Some 0)) (Step 0) (worked lift) (at 0 (Some 0) (Some 1)) ∷
    event (at 0 (Some 0) (Some 1)) (Close 0) (closed 0) (at 0 None (Some 1)) ∷
    []

abbrev pub rows : List (Row Claim)
rows =
    -- request_of
    holds (number (request_of (Quote 3)) 3) ∷
    holds (number (request_of (Ask 1)) 1) ∷
    holds (number (request_of (Step 2)) 2) ∷
    holds (number (request_of (Close 0)) 0) ∷
    fails (number (request_of (Quote 3)) 0) ∷
    fails (number (request_of (Close 2)) 3) ∷
    -- moved: the newest errand gains the move, behind those that it has
    holds (went (moved lift (new ∷ older ∷ [])) (on ∷ older ∷ [])) ∷
    holds (went (moved flood (on ∷ [])) (errand 0 (two 3 1) (lift ∷ flood ∷ []) true ∷ [])) ∷
    holds (went (moved lift []) []) ∷
    holds (went (moved lift (older ∷ [])) (errand 2 nought (lift ∷ []) false ∷ [])) ∷
    fails (went (moved flood (on ∷ [])) (errand 0 (two 3 1) (flood ∷ lift ∷ []) true ∷ [])) ∷
    fails (went (moved lift (new ∷ new ∷ [])) (on ∷ on ∷ [])) ∷
    fails (went (moved lift (new ∷ [])) (new ∷ [])) ∷
    -- ended: the newest errand is out no more
    holds (went (ended (on ∷ new ∷ [])) (errand 0 (two 3 1) (lift ∷ []) false ∷ new ∷ [])) ∷
    holds (went (ended []) []) ∷
    fails (went (ended (on ∷ [])) (on ∷ [])) ∷
    fails (went (ended (on ∷ [])) []) ∷
    fails (went (ended (older ∷ new ∷ [])) (older ∷ errand 0 (two 3 1) [] false ∷ [])) ∷
    -- noted: a grant begins an errand, before the older ones, and a quote or a refusal changes none
    holds (went (noted (Ask 0) (granted (two 3 1)) (older ∷ [])) (new ∷ older ∷ [])) ∷
    holds (went (noted (Step 0) (worked lift) (new ∷ [])) (on ∷ [])) ∷
    holds (went (noted (Close 0) (closed 0) (new ∷ [])) (errand 0 (two 3 1) [] false ∷ [])) ∷
    holds (went (noted (Quote 0) (quoted (two 3 1)) (older ∷ [])) (older ∷ [])) ∷
    holds (went (noted (Step 0) (refused 28) (older ∷ [])) (older ∷ [])) ∷
    holds (went (noted (Quote 0) (quoted (two 3 1)) (new ∷ [])) (new ∷ [])) ∷
    holds (went (noted (Ask 0) (refused 21) (new ∷ [])) (new ∷ [])) ∷
    fails (went (noted (Ask 0) (granted (two 3 1)) (older ∷ [])) (older ∷ new ∷ [])) ∷
    fails (went (noted (Ask 1) (granted (two 3 1)) []) (new ∷ [])) ∷
    fails (went (noted (Ask 0) (refused 21) []) (new ∷ [])) ∷
    fails (went (noted (Quote 0) (quoted (two 3 1)) []) (new ∷ [])) ∷
    -- errands_after, errands: call by call, from none
    holds (went (errands_after (older ∷ []) leaving) (errand 0 (two 3 1) (lift ∷ []) false ∷ older ∷ [])) ∷
    holds (went (errands_after (older ∷ []) []) (older ∷ [])) ∷
    fails (went (errands_after (older ∷ []) leaving) (errand 0 (two 3 1) (lift ∷ []) false ∷ [])) ∷
    fails (went (errands_after (older ∷ []) leaving) (older ∷ [])) ∷
    holds (went (errands leaving) (errand 0 (two 3 1) (lift ∷ []) false ∷ [])) ∷
    holds (went (errands []) []) ∷
    fails (went (errands leaving) (on ∷ [])) ∷
    fails (went (errands leaving) []) ∷
    -- onto: each move joined onto a cost
    holds (numbers (onto minutes_model (flood ∷ lift ∷ []) (two 4 1)) (two 14 3)) ∷
    holds (numbers (onto moves_model (flood ∷ lift ∷ []) (5 ∷ [])) (7 ∷ [])) ∷
    holds (numbers (onto minutes_model [] (two 4 1)) (two 4 1)) ∷
    fails (numbers (onto minutes_model (flood ∷ lift ∷ []) (two 4 1)) (two 10 2)) ∷
    fails (numbers (onto minutes_model (flood ∷ []) (two 4 1)) (two 7 1)) ∷
    -- left: the policy's cost where the lock stands while the errand is out, and nothing once it is closed
    holds (numbers (left w (at 0 (Some 0) (Some 0)) new) (two 3 1)) ∷
    holds (numbers (left w (at 0 (Some 0) (Some 1)) on) nought) ∷
    holds (numbers (left w (at 0 None (Some 0)) (errand 0 (two 3 1) [] false)) nought) ∷
    fails (numbers (left w (at 0 (Some 0) (Some 1)) new) (two 3 1)) ∷
    fails (numbers (left w (at 0 None (Some 0)) (errand 0 (two 3 1) [] false)) (two 3 1)) ∷
    fails (numbers (left w (at 0 (Some 1) (Some 0)) (errand 1 (two 3 1) [] true)) (two 3 1)) ∷
    []

abbrev pub ErrandsSay : Type 0
ErrandsSay = AllSay Means rows
