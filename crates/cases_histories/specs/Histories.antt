-- Examples of calls as a controller may answer them, and of histories of calls.
use Rattle.std.specs.Prelude.{ℕ, List, [], ◌∷◌, Some, None, Option}
use Rattle.solver.specs.declared.Entry.TheVariants.{There, Work}
use Rattle.solver.specs.Policy.{World}
use Rattle.histories.specs.declared.Command.{Command}
use Rattle.histories.specs.declared.Command.TheVariants.{Quote, Ask, Step, Close}
use Rattle.histories.specs.Calls.{At, ExactAnswer, quoted, granted, worked, closed, refused, Passes, Took, Event, History, Opens}
use Rattle.histories.specs.Promise.{Tells}
use Rattle.cases_plans.specs.Rows.{Row, holds, fails, AllSay}
use Rattle.cases_histories.specs.Sluice.{move, fill, flood, lift, hoist, two, nought, costs, ranks, with_tables, w}
use Rattle.cases_histories.specs.Calls.{at, astray}
use Rattle.cases_histories.specs.Errands.{event, leaving}

pub data Claim : Type 0 where
  -- no rule refuses the command
  passes : World → At → Command → Claim
  -- the command may be answered so, and the call may end there
  took : World → At → Command → ExactAnswer → At → Claim
  history : World → At → List Event → At → Claim
  -- an opening at a stage over a lock that stands there is accepted
  opens : World → ℕ → Option ℕ → Claim
  -- the answer tells the quote
  tells : ExactAnswer → List ℕ → Claim

abbrev pub Means : Claim → Type 0
Means (passes v a k) = Passes v a k
Means (took v a k r b) = Took v a k r b
Means (history v a h b) = History v a h b
Means (opens v s p) = Opens v s p
Means (tells r f) = Tells r f

-- a policy that fills
abbrev pub filling : World
filling = with_tables (Work 0 ∷ There ∷ There ∷ []) costs ranks

-- low, high and flooded, at stage 0 with request 0 out, or with none
abbrev low : At
low = at 0 (Some 0) (Some 0)

abbrev high : At
high = at 0 (Some 0) (Some 1)

abbrev flooded : At
flooded = at 0 (Some 0) (Some 2)

abbrev idle : At
idle = at 0 None (Some 0)

abbrev pub rows : List (Row Claim)
rows =
    -- Passes
    holds (passes w idle (Ask 0)) ∷
    holds (passes w low (Step 0)) ∷
    holds (passes w low (Quote 0)) ∷
    fails (passes w low (Ask 0)) ∷
    fails (passes w low (Close 0)) ∷
    fails (passes w (at 0 None None) (Quote 0)) ∷
    -- Took, quoted: the cost of the request that was named, and nothing changes
    holds (took w idle (Quote 0) (quoted (two 3 1)) idle) ∷
    holds (took w high (Quote 0) (quoted nought) high) ∷
    fails (took w idle (Quote 0) (quoted nought) idle) ∷
    fails (took w idle (Ask 0) (quoted (two 3 1)) idle) ∷
    fails (took w idle (Quote 0) (quoted (two 3 1)) low) ∷
    fails (took w idle (Quote 1) (quoted nought) idle) ∷
    -- granted: the same cost, and the request is out
    holds (took w idle (Ask 0) (granted (two 3 1)) low) ∷
    holds (took w (at 2 None (Some 0)) (Ask 2) (granted nought) (at 2 (Some 2) (Some 0))) ∷
    fails (took w idle (Ask 0) (granted (two 3 1)) idle) ∷
    fails (took w idle (Ask 0) (granted (two 4 1)) low) ∷
    fails (took w idle (Quote 0) (granted (two 3 1)) low) ∷
    fails (took w low (Ask 0) (granted (two 3 1)) low) ∷
    -- worked: one of the moves of the policy's operation, and the lock stands at its outcome
    holds (took w low (Step 0) (worked lift) high) ∷
    holds (took filling low (Step 0) (worked fill) high) ∷
    holds (took filling low (Step 0) (worked flood) flooded) ∷
    fails (took w low (Step 0) (worked hoist) high) ∷
    fails (took w low (Step 0) (worked lift) low) ∷
    fails (took filling low (Step 0) (worked flood) high) ∷
    fails (took w low (Step 0) (worked (move 0 1 1 4)) high) ∷
    fails (took w high (Step 0) (worked lift) high) ∷
    fails (took w idle (Step 0) (worked lift) (at 0 None (Some 1))) ∷
    fails (took w low (Step 0) (worked lift) (at 0 None (Some 1))) ∷
    fails (took w low (Step 0) (worked lift) (at 1 (Some 0) (Some 1))) ∷
    fails (took astray low (Step 0) (worked (move 0 7 1 3)) high) ∷
    -- closed: on to the request's to-stage, with no grant out, and the lock stays
    holds (took w high (Close 0) (closed 0) (at 0 None (Some 1))) ∷
    holds (took w (at 2 (Some 2) (Some 0)) (Close 2) (closed 1) (at 1 None (Some 0))) ∷
    fails (took w (at 2 (Some 2) (Some 0)) (Close 2) (closed 2) (at 2 None (Some 0))) ∷
    fails (took w high (Close 0) (closed 0) high) ∷
    fails (took w low (Close 0) (closed 0) (at 0 None (Some 0))) ∷
    fails (took w high (Step 0) (closed 0) (at 0 None (Some 1))) ∷
    -- refused: by the first rule that applies, and nothing changes
    holds (took w low (Ask 0) (refused 21) low) ∷
    holds (took w high (Step 0) (refused 26) high) ∷
    fails (took w low (Ask 0) (refused 22) low) ∷
    fails (took w low (Ask 0) (refused 21) idle) ∷
    fails (took w idle (Ask 0) (refused 21) idle) ∷
    -- History: each call begins where the one before it ended
    holds (history w idle leaving (at 0 None (Some 1))) ∷
    holds (history w high [] high) ∷
    holds (history w low (event low (Step 0) (worked lift) high ∷ event high (Step 0) (refused 26) high ∷ []) high) ∷
    fails (history w idle leaving idle) ∷
    fails (history w high [] low) ∷
    fails (history w idle (event high (Quote 0) (quoted (two 3 1)) idle ∷ []) idle) ∷
    fails (history w low (event low (Step 0) (worked lift) high ∷ event low (Step 0) (worked lift) high ∷ []) high) ∷
    fails (history w idle (event low (Step 0) (worked lift) high ∷ []) high) ∷
    fails (history w low (event low (Step 0) (worked hoist) high ∷ []) high) ∷
    -- Opens: the lock stands in a condition, and the rank there is 0
    holds (opens w 0 (Some 2)) ∷
    holds (opens w 2 (Some 0)) ∷
    fails (opens w 2 (Some 1)) ∷
    fails (opens w 0 (Some 3)) ∷
    fails (opens w 0 None) ∷
    -- Tells: a quote, or a grant
    holds (tells (quoted (two 3 1)) (two 3 1)) ∷
    holds (tells (granted (two 3 1)) (two 3 1)) ∷
    fails (tells (quoted (two 3 1)) nought) ∷
    fails (tells (closed 0) nought) ∷
    fails (tells (refused 0) []) ∷
    []

abbrev pub HistoriesSay : Type 0
HistoriesSay = AllSay Means rows
