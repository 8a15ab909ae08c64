-- Examples of what calls do with the lock itself, whatever it has beside its marks.
use Rattle.std.specs.Prelude.{◌≡◌, ℕ, ◌+◌, ◌*◌, Bool, cond, List, [], ◌∷◌, Some, None, Ok, Err}
use Rattle.port.specs.Model.{Model, first}
use Rattle.costs.specs.Models.{minutes_model}
use Rattle.histories.specs.declared.Command.{Command}
use Rattle.histories.specs.declared.Command.TheVariants.{Quote, Ask, Step, Close}
use Rattle.histories.specs.Calls.{At}
use Rattle.control.specs.declared.answer.Reply.TheVariants.{Quoted, Granted, Worked, Closed}
use Rattle.control.specs.declared.refusal.Refusal.{Refusal}
use Rattle.control.specs.declared.refusal.Refusal.TheVariants.{Arrived, NotOut, Stuck}
use Rattle.control.specs.Handlings.{Declines, Handles, HandlesAll, Tended, Carried, operation_of, accepted}
use Rattle.control.specs.Outings.{Turn}
use Rattle.control.specs.States.{Answer, State, state}
use Rattle.cases_plans.specs.Rows.{Row, holds, fails, AllSay}
use Rattle.cases_histories.specs.Values as values
use Rattle.cases_histories.specs.Values.{numbers}
use Rattle.cases_histories.specs.Sluice.{two, nought, w, as_given, port}
use Rattle.cases_histories.specs.Calls.{at}
use Rattle.cases_histories.specs.Controls.{marks}
use Rattle.cases_histories.specs.Outings.{turn, answers}

-- ── what is computed ──

abbrev pub two_steps : List (Answer (List ℕ))
two_steps = Ok (Worked 2) ∷ Ok (Worked 1) ∷ []

abbrev pub operations : List (Row values.Claim)
operations =
    -- operation_of: of an accepted step
    holds (numbers (operation_of {K = List ℕ} (Ok (Worked 3))) (3 ∷ [])) ∷
    holds (numbers (operation_of {K = List ℕ} (Err Stuck)) []) ∷
    fails (numbers (operation_of {K = List ℕ} (Ok (Closed 3))) (3 ∷ [])) ∷
    fails (numbers (operation_of {K = List ℕ} (Ok (Worked 3))) []) ∷
    -- accepted: of all of them, in their order
    holds (numbers (accepted answers) (1 ∷ [])) ∷
    holds (numbers (accepted two_steps) (2 ∷ 1 ∷ [])) ∷
    fails (numbers (accepted answers) []) ∷
    fails (numbers (accepted two_steps) (1 ∷ 2 ∷ [])) ∷
    []

abbrev pub OperationsSay : Type 0
OperationsSay = AllSay values.Means operations

-- ── what is done with a lock ──

-- A lock that writes down, beside its marks, each operation that it is worked with, as one digit more: as it is where it accepts, and with 5 added
-- where it refuses.
pub record Book : Type 0 where
  pub marks : ℕ
  pub written : ℕ

abbrev pub book : ℕ → ℕ → Book
book m x = record { marks = m; written = x }

abbrev pub shows_marks : Book → ℕ
shows_marks s = s.marks

abbrev pub writes : Book → ℕ → Bool → Book → Type 0
writes s o r t = t.written ≡ 10 * s.written + cond r o (o + 5)

pub data Claim : Type 0 where
  -- a call at a place, and what is written before and after
  declines : At → Command → Refusal → (x y : ℕ) → Claim
  handles : At → Command → Answer (List ℕ) → (x y : ℕ) → Claim
  -- calls one after another, and the lock before and after
  handles_all : List (Turn (List ℕ)) → Book → Book → Claim
  -- the same with controller and lock before, commands and answers, controller and lock after
  tended : State → Book → List Command → List (Answer (List ℕ)) → State → Book → Claim
  -- an outing without commands over the port before any load, with a lock of that port, and what is written before and after
  carried : (x y : ℕ) → Claim

abbrev pub Means : Claim → Type 0
Means (declines a k r x y) = Declines writes w a k r (book 0 x) (book 0 y)
Means (handles a k r x y) = Handles writes w a k r (book 0 x) (book 0 y)
Means (handles_all ts s t) = HandlesAll shows_marks writes w marks ts s t
Means (tended a s ks rs b t) = Tended as_given shows_marks writes w marks port a s ks rs b t
Means (carried x y) = Carried minutes_model as_given shows_marks writes first first (book 0 x) [] (book 0 y) []

-- in low with no grant out, and with request 0 out; and the same by marks
abbrev pub idle_at : At
idle_at = at 0 None (Some 0)

abbrev pub low_at : At
low_at = at 0 (Some 0) (Some 0)

abbrev pub idle : State
idle = state 0 None 0

abbrev pub low : State
low = state 0 (Some 0) 0

abbrev pub high : State
high = state 0 (Some 0) 1

abbrev pub asks : Turn (List ℕ)
asks = turn idle (Ask 0) (Ok (Granted (two 3 1))) low

abbrev pub lifts : Turn (List ℕ)
lifts = turn low (Step 0) (Ok (Worked 1)) high

abbrev pub rows : List (Row Claim)
rows =
    -- Declines: no rule refuses the step, the lock refuses the policy's operation, once, and that is 29
    holds (declines low_at (Step 0) Stuck 0 6) ∷
    fails (declines low_at (Step 0) Stuck 0 1) ∷
    fails (declines low_at (Step 0) Stuck 0 0) ∷
    fails (declines low_at (Step 0) Stuck 0 66) ∷
    fails (declines low_at (Step 0) Arrived 0 6) ∷
    fails (declines idle_at (Step 0) Stuck 0 6) ∷
    fails (declines low_at (Ask 0) Stuck 0 6) ∷
    -- Handles: an accepted step works the lock once
    holds (handles low_at (Step 0) (Ok (Worked 1)) 4 41) ∷
    fails (handles low_at (Step 0) (Ok (Worked 1)) 4 4) ∷
    fails (handles low_at (Step 0) (Ok (Worked 1)) 4 411) ∷
    fails (handles low_at (Step 0) (Ok (Worked 1)) 4 46) ∷
    -- and a step that it refuses
    holds (handles low_at (Step 0) (Err Stuck) 0 6) ∷
    fails (handles low_at (Step 0) (Err Stuck) 0 0) ∷
    -- nothing else does
    holds (handles idle_at (Step 0) (Err NotOut) 4 4) ∷
    holds (handles idle_at (Quote 0) (Ok (Quoted nought)) 4 4) ∷
    fails (handles idle_at (Step 0) (Err NotOut) 4 46) ∷
    fails (handles idle_at (Quote 0) (Ok (Quoted nought)) 4 41) ∷
    fails (handles idle_at (Ask 0) (Ok (Granted nought)) 4 41) ∷
    fails (handles low_at (Close 0) (Ok (Closed 0)) 4 41) ∷
    -- HandlesAll: from where the call before left the lock, whose marks are the turn's
    holds (handles_all (asks ∷ lifts ∷ []) (book 0 0) (book 1 1)) ∷
    holds (handles_all [] (book 1 4) (book 1 4)) ∷
    fails (handles_all [] (book 0 4) (book 0 41)) ∷
    fails (handles_all (lifts ∷ []) (book 0 0) (book 1 11)) ∷
    fails (handles_all (lifts ∷ []) (book 1 0) (book 1 1)) ∷
    -- Tended: there are such calls, and they do this
    holds (tended low (book 0 0) (Step 0 ∷ []) (Ok (Worked 1) ∷ []) high (book 1 1)) ∷
    fails (tended low (book 0 0) [] [] high (book 0 0)) ∷
    fails (tended low (book 0 0) [] [] low (book 0 1)) ∷
    -- Carried
    holds (carried 4 4) ∷
    fails (carried 4 41) ∷
    []

abbrev pub HandlingsSay : Type 0
HandlingsSay = AllSay Means rows
