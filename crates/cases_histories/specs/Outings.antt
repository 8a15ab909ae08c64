-- Examples of whole outings: calls over a lock, their logs, and why there is none.
use Rattle.std.specs.Prelude.{ℕ, List, [], ◌∷◌, Some, None, Ok, Err, Option, codes}
use Rattle.port.specs.Model.{Model, first}
use Rattle.plans.specs.Domains.{domain_of}
use Rattle.costs.specs.Costs.{Model as CostsOf}
use Rattle.costs.specs.Models.{moves_model, minutes_model}
use Rattle.solver.specs.Policy.{World, world_of}
use Rattle.histories.specs.declared.Command.{Command}
use Rattle.histories.specs.declared.Command.TheVariants.{Quote, Ask, Step, Close}
use Rattle.histories.specs.Calls.{Event}
use Rattle.control.specs.declared.answer.Reply.TheVariants.{Quoted, Granted, Worked, Closed}
use Rattle.control.specs.declared.refusal.Refusal.TheVariants.{AlreadyOut, NotOffered, NoCondition, Dropped, Stuck}
use Rattle.control.specs.declared.tour.OutingError.{OutingError}
use Rattle.control.specs.declared.tour.OutingError.TheVariants.{Refused, Memory}
use Rattle.control.specs.States.{Answer, State, state}
use Rattle.control.specs.Outings.{Turn, Course, Logged, ShowsAll, Outed, Ready, Told, Failed, outing_error_text}
use Rattle.cases_plans.specs.Rows.{Row, holds, fails, AllSay}
use Rattle.cases_histories.specs.Values as values
use Rattle.cases_histories.specs.Values.{numbers}
use Rattle.cases_histories.specs.Sluice.{two, nought, w, as_given, port}
use Rattle.cases_histories.specs.Errands.{leaving}
use Rattle.cases_histories.specs.Controls.{marks, no_lift}

-- ── courses ──

abbrev pub turn : State → Command → Answer (List ℕ) → State → Turn (List ℕ)
turn a k r b = record { before = a; command = k; answer = r; after = b }

pub data Claim : Type 0 where
  -- over a lock of a port, calls one after another
  course : Model → State → List (Turn (List ℕ)) → State → Claim
  -- answers stand for those of a history
  shows_all : List (Answer (List ℕ)) → List Event → Claim

abbrev pub Means : Claim → Type 0
Means (course M a ts b) = Course as_given w marks M a ts b
Means (shows_all rs h) = ShowsAll as_given rs h

abbrev idle : State
idle = state 0 None 0

abbrev low : State
low = state 0 (Some 0) 0

abbrev high : State
high = state 0 (Some 0) 1

-- the answers of leaving low
abbrev pub answers : List (Answer (List ℕ))
answers = Ok (Quoted (two 3 1)) ∷ Ok (Granted (two 3 1)) ∷ Err AlreadyOut ∷ Ok (Worked 1) ∷ Ok (Closed 0) ∷ []

abbrev pub rows : List (Row Claim)
rows =
    -- Course: each call begins where the one before it ended
    holds (course port idle (turn idle (Ask 0) (Ok (Granted (two 3 1))) low ∷ turn low (Step 0) (Ok (Worked 1)) high ∷ []) high) ∷
    holds (course no_lift low (turn low (Step 0) (Err Stuck) low ∷ []) low) ∷
    holds (course port low [] low) ∷
    fails (course port low [] high) ∷
    fails (course port idle (turn high (Quote 0) (Ok (Quoted (two 3 1))) idle ∷ []) idle) ∷
    fails (course port idle (turn low (Step 0) (Ok (Worked 1)) high ∷ []) high) ∷
    fails (course port idle (turn idle (Ask 0) (Ok (Granted (two 3 1))) low ∷ turn idle (Ask 0) (Ok (Granted (two 3 1))) low ∷ []) low) ∷
    fails (course no_lift low (turn low (Step 0) (Ok (Worked 1)) high ∷ []) high) ∷
    -- ShowsAll: one for one
    holds (shows_all answers leaving) ∷
    holds (shows_all [] []) ∷
    fails (shows_all [] leaving) ∷
    fails (shows_all answers []) ∷
    fails (shows_all (Ok (Quoted nought) ∷ Ok (Granted (two 3 1)) ∷ Err AlreadyOut ∷ Ok (Worked 1) ∷ Ok (Closed 0) ∷ []) leaving) ∷
    []

abbrev pub CoursesSay : Type 0
CoursesSay = AllSay Means rows

-- outing_error_text
abbrev pub errors : List (Row values.Claim)
errors =
    holds (numbers (outing_error_text (Refused Dropped)) (codes "refused 24")) ∷
    holds (numbers (outing_error_text Memory) (codes "no memory")) ∷
    fails (numbers (outing_error_text (Refused Dropped)) (codes "no memory")) ∷
    fails (numbers (outing_error_text (Refused Dropped)) (codes "refused 23")) ∷
    []

abbrev pub ErrorsSay : Type 0
ErrorsSay = AllSay values.Means errors

-- ── logs ──

-- a world of the port before any load, which has one condition and no request, with a rank
abbrev pub alone : ℕ → World
alone r = world_of (domain_of first) minutes_model as_given [] [] (r ∷ [])

pub data Log : Type 0 where
  -- commands and answers over a lock of the sluice's port, from a state to a state
  logged : State → List Command → List (Answer (List ℕ)) → State → Log
  -- commands and answers from low at stage 0, to where the lock then stands
  outed : Option ℕ → List Command → List (Answer (List ℕ)) → Log
  -- by these a world is over a port and a cost model, and solved
  ready : Model → CostsOf → World → Log
  -- an outing with the port before any load, over a lock of that port: from marks to marks
  told : ℕ → List Command → ℕ → List (Answer (List ℕ)) → Log
  -- and one that has no log
  failed : (m m' : ℕ) → OutingError → Log

abbrev pub Tells : Log → Type 0
Tells (logged a ks rs b) = Logged as_given w marks port a ks rs b
Tells (outed p ks rs) = Outed as_given w 0 (Some 0) p ks rs
Tells (ready P k v) = Ready P k v
Tells (told m ks m' rs) = Told minutes_model as_given first first m ks m' rs
Tells (failed m m' r) = Failed minutes_model first m m' r

abbrev pub asked : List Command
asked = Quote 0 ∷ Ask 0 ∷ Ask 0 ∷ Step 0 ∷ Close 0 ∷ []

abbrev pub logs : List (Row Log)
logs =
    -- Logged: there are such calls
    holds (logged idle (Ask 0 ∷ []) (Ok (Granted (two 3 1)) ∷ []) low) ∷
    holds (logged low [] [] low) ∷
    fails (logged low [] [] high) ∷
    fails (logged idle (Ask 0 ∷ []) [] idle) ∷
    fails (logged idle [] (Err NotOffered ∷ []) idle) ∷
    -- Outed: there is such a history, which leaves the lock there
    holds (outed (Some 1) asked answers) ∷
    holds (outed (Some 0) [] []) ∷
    fails (outed (Some 1) [] []) ∷
    fails (outed (Some 0) (Quote 0 ∷ []) (Ok (Quoted nought) ∷ [])) ∷
    fails (outed (Some 0) (Ask 0 ∷ []) []) ∷
    fails (outed (Some 0) [] (Err NotOffered ∷ [])) ∷
    -- Ready: the port's domain, the cost model, and a solved policy
    holds (ready first minutes_model (alone 0)) ∷
    fails (ready port minutes_model (alone 0)) ∷
    fails (ready first moves_model (alone 0)) ∷
    fails (ready first minutes_model (alone 1)) ∷
    -- Told: the opening is accepted, and the answers are logged
    holds (told 0 [] 0 []) ∷
    holds (told 0 (Quote 5 ∷ []) 0 (Err NotOffered ∷ [])) ∷
    fails (told 0 [] 1 []) ∷
    fails (told 1 [] 1 []) ∷
    fails (told 0 (Quote 5 ∷ []) 0 []) ∷
    -- Barred, Failed: refused by the first rule of an opening, or for want of memory; the lock is as it was
    holds (failed 1 1 (Refused NoCondition)) ∷
    holds (failed 0 0 Memory) ∷
    fails (failed 1 0 (Refused NoCondition)) ∷
    fails (failed 1 1 (Refused Dropped)) ∷
    fails (failed 0 0 (Refused NoCondition)) ∷
    fails (failed 0 1 Memory) ∷
    []

abbrev pub LogsSay : Type 0
LogsSay = AllSay Tells logs
