-- Examples of what a controller decides and does, over any lock.
use Rattle.std.specs.Prelude.{◌≡◌, ℕ, List, [], ◌∷◌, Some, None, Ok, Err, Option, Result, codes}
use Rattle.port.specs.Model.{Model}
use Rattle.histories.specs.declared.Command.{Command}
use Rattle.histories.specs.declared.Command.TheVariants.{Quote, Ask, Step, Close}
use Rattle.histories.specs.Calls.{At, Rule, quoted, granted, worked, closed, refused}
use Rattle.histories.specs.Calls.{ExactAnswer}
use Rattle.control.specs.declared.answer.Reply.TheVariants.{Quoted, Granted, Worked, Closed}
use Rattle.control.specs.declared.refusal.Refusal.{Refusal}
use Rattle.control.specs.declared.refusal.Refusal.TheVariants.{Short, AlreadyOut, NotOffered, NoCondition, Dropped, NoPlan, Arrived, NotArrived, NotOut, Stuck}
use Rattle.control.specs.Numbers.{refusal_number, refusal_text}
use Rattle.control.specs.Rulings.{Spot, spot_rules, Spotted, Found, Priced, Next, Target}
use Rattle.control.specs.States.{Answer, State, state, at_of, Ruled, Balks, Does, Shows, Did}
use Rattle.cases_plans.specs.Rows.{Row, holds, fails, AllSay}
use Rattle.cases_histories.specs.Values as values
use Rattle.cases_histories.specs.Values.{number, place, numbers, standing, ruled as ruling}
use Rattle.cases_histories.specs.Sluice.{move, fill, flood, lift, two, nought, w, as_given, port}
use Rattle.cases_histories.specs.Calls.{at, clear, bars}

-- ── what is computed ──

abbrev pub marks : List ℕ
marks = port.conditions

abbrev pub numbered : List (Row values.Claim)
numbered =
    -- refusal_number
    holds (number (refusal_number Short) 12) ∷
    holds (number (refusal_number AlreadyOut) 21) ∷
    holds (number (refusal_number NotOffered) 22) ∷
    holds (number (refusal_number NoCondition) 23) ∷
    holds (number (refusal_number Dropped) 24) ∷
    holds (number (refusal_number NoPlan) 25) ∷
    holds (number (refusal_number Arrived) 26) ∷
    holds (number (refusal_number NotArrived) 27) ∷
    holds (number (refusal_number NotOut) 28) ∷
    holds (number (refusal_number Stuck) 29) ∷
    fails (number (refusal_number Arrived) 27) ∷
    fails (number (refusal_number Short) 21) ∷
    -- refusal_text
    holds (numbers (refusal_text Stuck) (codes "refused 29")) ∷
    holds (numbers (refusal_text Short) (codes "refused 12")) ∷
    fails (numbers (refusal_text Stuck) (codes "refused 28")) ∷
    fails (numbers (refusal_text Stuck) (codes "refused")) ∷
    -- state, at_of: the lock by its marks, and by the condition that has them
    holds (number (state 2 (Some 1) 3).marks 3) ∷
    holds (place (state 2 (Some 1) 3).out (Some 1)) ∷
    fails (number (state 2 (Some 1) 3).stage 3) ∷
    fails (place (state 2 None 3).out (Some 2)) ∷
    holds (standing (at_of marks (state 2 (Some 1) 3)) (at 2 (Some 1) (Some 2))) ∷
    holds (standing (at_of marks (state 0 None 2)) (at 0 None None)) ∷
    fails (standing (at_of marks (state 2 (Some 1) 3)) (at 2 (Some 1) (Some 3))) ∷
    fails (standing (at_of marks (state 0 None 2)) (at 0 None (Some 2))) ∷
    -- spot_rules: not offered, nowhere
    holds (ruling (spot_rules w 0 (Some 0) 0) (clear 22 ∷ clear 23 ∷ [])) ∷
    holds (ruling (spot_rules w 0 None 1) (bars 22 ∷ bars 23 ∷ [])) ∷
    fails (ruling (spot_rules w 0 (Some 3) 0) (clear 22 ∷ clear 23 ∷ [])) ∷
    fails (ruling (spot_rules w 0 (Some 0) 0) (clear 23 ∷ clear 22 ∷ [])) ∷
    []

abbrev pub NumberedSay : Type 0
NumberedSay = AllSay values.Means numbered

-- ── what is decided ──

pub data Claim : Type 0 where
  -- at a stage, over a lock that stands there: a request, and the condition or the refusal
  spot : (s : ℕ) → Option ℕ → (q c : ℕ) → Claim
  spotted : (s : ℕ) → Option ℕ → (q : ℕ) → Result ℕ Refusal → Claim
  -- by some rules, with one number alone where none refuses
  found : List Rule → ℕ → Result ℕ Refusal → Claim
  priced : Option ℕ → ℕ → List ℕ → Claim
  next : Option ℕ → (q o : ℕ) → Claim
  target : Option ℕ → (q s : ℕ) → Claim
  -- what a command comes to before the lock is touched
  ruled : At → Command → Answer (List ℕ) → Claim
  -- over a lock of some port: a step that it refuses, and what a call does
  balks : Model → State → Command → Refusal → Claim
  does : Model → State → Command → Answer (List ℕ) → State → Claim
  -- an answer stands for one of a history, and a call is one of a history
  shows : Answer (List ℕ) → ExactAnswer → Claim
  did : At → Command → Answer (List ℕ) → At → Claim

abbrev pub Means : Claim → Type 0
Means (spot s p q c) = Spot w s p q c
Means (spotted s p q r) = Spotted w s p q r
Means (found rs n r) = Found rs (λ x. x ≡ n) r
Means (priced p q x) = Priced as_given w p q x
Means (next p q o) = Next w p q o
Means (target p q s) = Target w p q s
Means (ruled a k r) = Ruled as_given w a k r
Means (balks M a k r) = Balks w marks M a k r
Means (does M a k r b) = Does as_given w marks M a k r b
Means (shows r t) = Shows as_given r t
Means (did a k r b) = Did as_given w a k r b

-- another port, which cannot lift, but can fill; and one in which a lift leads elsewhere
abbrev pub no_lift : Model
no_lift = record port { moves = fill ∷ flood ∷ [] }

abbrev pub lifts_high : Model
lifts_high = record port { moves = move 0 1 2 9 ∷ [] }

-- with no grant out or with request 0 out, and with the marks of low and high
abbrev idle : State
idle = state 0 None 0

abbrev low : State
low = state 0 (Some 0) 0

abbrev high : State
high = state 0 (Some 0) 1

abbrev pub rows : List (Row Claim)
rows =
    -- Spot: the request is one of the stage, and the lock stands in that condition, which there is
    holds (spot 0 (Some 2) 0 2) ∷
    holds (spot 2 (Some 0) 2 0) ∷
    fails (spot 1 (Some 2) 0 2) ∷
    fails (spot 0 (Some 2) 0 1) ∷
    fails (spot 0 (Some 3) 0 3) ∷
    fails (spot 0 None 0 0) ∷
    -- Spotted: that condition, or the first refusal
    holds (spotted 0 (Some 2) 0 (Ok 2)) ∷
    holds (spotted 1 None 0 (Err NotOffered)) ∷
    holds (spotted 0 None 0 (Err NoCondition)) ∷
    fails (spotted 0 (Some 2) 0 (Ok 0)) ∷
    fails (spotted 1 None 0 (Err NoCondition)) ∷
    fails (spotted 0 (Some 2) 0 (Err NotOffered)) ∷
    -- Found: what is so where no rule refuses, or the first refusal
    holds (found (clear 22 ∷ clear 23 ∷ []) 7 (Ok 7)) ∷
    holds (found (clear 22 ∷ bars 25 ∷ bars 23 ∷ []) 7 (Err NoPlan)) ∷
    fails (found (clear 22 ∷ clear 23 ∷ []) 7 (Ok 8)) ∷
    fails (found (clear 22 ∷ bars 25 ∷ []) 7 (Ok 7)) ∷
    fails (found (clear 22 ∷ clear 23 ∷ []) 7 (Err NotOffered)) ∷
    fails (found (clear 22 ∷ bars 25 ∷ bars 23 ∷ []) 7 (Err NoCondition)) ∷
    -- Priced: the policy's cost where the lock stands
    holds (priced (Some 0) 0 (two 3 1)) ∷
    holds (priced None 0 nought) ∷
    fails (priced (Some 0) 0 nought) ∷
    fails (priced (Some 1) 0 (two 3 1)) ∷
    -- Next: the policy's entry there is to work the operation
    holds (next (Some 0) 0 1) ∷
    fails (next (Some 0) 0 0) ∷
    fails (next (Some 1) 0 1) ∷
    fails (next (Some 1) 1 0) ∷
    fails (next None 0 1) ∷
    -- Target: the request's to-stage, wherever the lock stands
    holds (target (Some 0) 2 1) ∷
    holds (target None 0 0) ∷
    fails (target (Some 0) 2 2) ∷
    fails (target (Some 1) 1 1) ∷
    -- Ruled: the first refusal, or the reply to this command
    holds (ruled (at 0 None (Some 0)) (Quote 0) (Ok (Quoted (two 3 1)))) ∷
    holds (ruled (at 0 None (Some 0)) (Ask 0) (Ok (Granted (two 3 1)))) ∷
    holds (ruled (at 0 (Some 0) (Some 0)) (Step 0) (Ok (Worked 1))) ∷
    holds (ruled (at 2 (Some 2) (Some 0)) (Close 2) (Ok (Closed 1))) ∷
    holds (ruled (at 0 (Some 0) (Some 0)) (Ask 0) (Err AlreadyOut)) ∷
    fails (ruled (at 0 None (Some 0)) (Quote 0) (Ok (Granted (two 3 1)))) ∷
    fails (ruled (at 0 None (Some 0)) (Quote 1) (Ok (Quoted nought))) ∷
    fails (ruled (at 0 None (Some 0)) (Ask 0) (Ok (Granted nought))) ∷
    fails (ruled (at 0 (Some 0) (Some 0)) (Ask 0) (Ok (Granted (two 3 1)))) ∷
    fails (ruled (at 0 None (Some 0)) (Step 0) (Ok (Worked 1))) ∷
    fails (ruled (at 0 (Some 0) (Some 0)) (Step 0) (Ok (Worked 2))) ∷
    fails (ruled (at 0 (Some 0) (Some 0)) (Close 0) (Ok (Closed 0))) ∷
    fails (ruled (at 2 (Some 2) (Some 0)) (Close 2) (Ok (Closed 2))) ∷
    fails (ruled (at 0 None (Some 0)) (Step 0) (Err Stuck)) ∷
    -- Balks: a step that no rule refuses, and that the lock does, as refusal 29
    holds (balks no_lift low (Step 0) Stuck) ∷
    holds (balks (record port { conditions = [] }) low (Step 0) Stuck) ∷
    fails (balks port low (Step 0) Stuck) ∷
    fails (balks no_lift low (Step 0) NotOut) ∷
    fails (balks no_lift low (Ask 0) Stuck) ∷
    fails (balks no_lift idle (Step 0) Stuck) ∷
    fails (balks no_lift high (Step 0) Stuck) ∷
    -- Does, quoted and granted
    holds (does port idle (Quote 0) (Ok (Quoted (two 3 1))) idle) ∷
    holds (does port idle (Ask 0) (Ok (Granted (two 3 1))) low) ∷
    fails (does port idle (Quote 0) (Ok (Quoted nought)) idle) ∷
    fails (does port idle (Quote 0) (Ok (Quoted (two 3 1))) low) ∷
    fails (does port idle (Quote 1) (Ok (Quoted nought)) idle) ∷
    fails (does port idle (Ask 0) (Ok (Granted (two 3 1))) idle) ∷
    fails (does port low (Ask 0) (Ok (Granted (two 3 1))) low) ∷
    fails (does port idle (Ask 0) (Ok (Granted nought)) low) ∷
    fails (does port idle (Quote 0) (Ok (Granted (two 3 1))) low) ∷
    -- worked: by the lock's own port, whose marks for the outcome they are
    holds (does port low (Step 0) (Ok (Worked 1)) high) ∷
    holds (does lifts_high low (Step 0) (Ok (Worked 1)) (state 0 (Some 0) 3)) ∷
    fails (does port low (Step 0) (Ok (Worked 1)) low) ∷
    fails (does port low (Step 0) (Ok (Worked 2)) high) ∷
    fails (does lifts_high low (Step 0) (Ok (Worked 1)) high) ∷
    fails (does no_lift low (Step 0) (Ok (Worked 1)) high) ∷
    fails (does port low (Step 0) (Ok (Worked 1)) (state 0 None 1)) ∷
    fails (does port low (Step 0) (Ok (Worked 1)) (state 1 (Some 0) 1)) ∷
    fails (does port idle (Step 0) (Ok (Worked 1)) (state 0 None 1)) ∷
    -- closed
    holds (does port high (Close 0) (Ok (Closed 0)) (state 0 None 1)) ∷
    holds (does port (state 2 (Some 2) 0) (Close 2) (Ok (Closed 1)) (state 1 None 0)) ∷
    fails (does port (state 2 (Some 2) 0) (Close 2) (Ok (Closed 1)) (state 2 None 0)) ∷
    fails (does port (state 2 (Some 2) 0) (Close 2) (Ok (Closed 2)) (state 2 None 0)) ∷
    fails (does port high (Close 0) (Ok (Closed 0)) high) ∷
    fails (does port low (Close 0) (Ok (Closed 0)) idle) ∷
    -- refused: by a rule, or by the lock, and nothing changes
    holds (does port low (Ask 0) (Err AlreadyOut) low) ∷
    holds (does no_lift low (Step 0) (Err Stuck) low) ∷
    fails (does port low (Step 0) (Err Stuck) low) ∷
    fails (does port low (Ask 0) (Err AlreadyOut) idle) ∷
    fails (does port low (Ask 0) (Err NotOffered) low) ∷
    fails (does no_lift low (Step 0) (Err Stuck) high) ∷
    -- Shows: a step by its move's operation alone, a refusal by its number
    holds (shows (Ok (Quoted (two 3 1))) (quoted (two 3 1))) ∷
    holds (shows (Ok (Granted nought)) (granted nought)) ∷
    holds (shows (Ok (Worked 0)) (worked fill)) ∷
    holds (shows (Ok (Worked 0)) (worked flood)) ∷
    holds (shows (Ok (Closed 2)) (closed 2)) ∷
    holds (shows (Err Stuck) (refused 29)) ∷
    fails (shows (Ok (Quoted (two 3 1))) (granted (two 3 1))) ∷
    fails (shows (Ok (Granted nought)) (granted (two 3 1))) ∷
    fails (shows (Ok (Worked 0)) (worked lift)) ∷
    fails (shows (Ok (Closed 2)) (closed 1)) ∷
    fails (shows (Err Stuck) (refused 28)) ∷
    -- Did: the call is one of a history over a lock of the same port
    holds (did (at 0 None (Some 0)) (Ask 0) (Ok (Granted (two 3 1))) (at 0 (Some 0) (Some 0))) ∷
    holds (did (at 0 (Some 0) (Some 0)) (Step 0) (Ok (Worked 1)) (at 0 (Some 0) (Some 1))) ∷
    holds (did (at 0 (Some 0) (Some 1)) (Close 0) (Ok (Closed 0)) (at 0 None (Some 1))) ∷
    holds (did (at 0 None (Some 0)) (Step 0) (Err NotOut) (at 0 None (Some 0))) ∷
    fails (did (at 0 (Some 0) (Some 0)) (Step 0) (Ok (Worked 1)) (at 0 (Some 0) (Some 2))) ∷
    fails (did (at 0 (Some 0) (Some 0)) (Step 0) (Ok (Worked 2)) (at 0 (Some 0) (Some 1))) ∷
    fails (did (at 0 (Some 0) (Some 0)) (Step 0) (Err Stuck) (at 0 (Some 0) (Some 0))) ∷
    fails (did (at 0 None (Some 0)) (Ask 0) (Ok (Quoted (two 3 1))) (at 0 None (Some 0))) ∷
    []

abbrev pub ControlsSay : Type 0
ControlsSay = AllSay Means rows
