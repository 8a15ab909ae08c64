-- Examples of what each call's result is as an answer.
use Rattle.std.specs.Prelude.{◌≡◌, ℕ, List, [], ◌∷◌, Ok, Err}
use Rattle.control.specs.declared.answer.Reply.TheVariants.{Quoted, Granted, Worked, Closed}
use Rattle.control.specs.declared.grant.Grant.{Grant}
use Rattle.control.specs.declared.refusal.Refusal.TheVariants.{NoPlan, Arrived, NotArrived, Stuck}
use Rattle.control.specs.States.{Answer, answer_of, quote_answer, grant_answer, ask_answer, step_answer, finish_answer, close_answer}
use Rattle.cases_plans.specs.Rows.{Row, holds, fails, AllSay}
use Rattle.cases_histories.specs.Sluice.{two, nought}

-- an answer that is computed, and the one that is told
pub record Pair : Type 0 where
  pub found : Answer (List ℕ)
  pub told : Answer (List ℕ)

abbrev same : Answer (List ℕ) → Answer (List ℕ) → Pair
same a b = record { found = a; told = b }

abbrev pub Same : Pair → Type 0
Same p = p.found ≡ p.told

-- a grant of request 2
abbrev slip : Grant (List ℕ)
slip = record { request = 2; quote = two 3 1 }

abbrev pub rows : List (Row Pair)
rows =
    -- answer_of: the value by its reply, or the refusal
    holds (same (answer_of (λ n. Worked n) (Ok 1)) (Ok (Worked 1))) ∷
    holds (same (answer_of (λ (n : ℕ). Worked n) (Err Stuck)) (Err Stuck)) ∷
    fails (same (answer_of (λ n. Worked n) (Ok 1)) (Ok (Closed 1))) ∷
    fails (same (answer_of (λ (n : ℕ). Worked n) (Err Stuck)) (Err Arrived)) ∷
    -- quote_answer, grant_answer, ask_answer: a quote, a grant by its cost, and one by its token
    holds (same (quote_answer (Ok (two 3 1))) (Ok (Quoted (two 3 1)))) ∷
    holds (same (quote_answer (Err NoPlan)) (Err NoPlan)) ∷
    fails (same (quote_answer (Ok (two 3 1))) (Ok (Granted (two 3 1)))) ∷
    fails (same (quote_answer (Ok (two 3 1))) (Ok (Quoted nought))) ∷
    holds (same (grant_answer (Ok (two 3 1))) (Ok (Granted (two 3 1)))) ∷
    holds (same (grant_answer (Err NoPlan)) (Err NoPlan)) ∷
    fails (same (grant_answer (Ok (two 3 1))) (Ok (Quoted (two 3 1)))) ∷
    fails (same (grant_answer (Err NoPlan)) (Err Stuck)) ∷
    holds (same (ask_answer (Ok slip)) (Ok (Granted (two 3 1)))) ∷
    holds (same (ask_answer (Err NoPlan)) (Err NoPlan)) ∷
    fails (same (ask_answer (Ok slip)) (Ok (Granted nought))) ∷
    fails (same (ask_answer (Ok slip)) (Ok (Worked 2))) ∷
    -- step_answer, finish_answer: an operation, and a stage
    holds (same (step_answer (Ok 1)) (Ok (Worked 1))) ∷
    holds (same (step_answer (Err Arrived)) (Err Arrived)) ∷
    fails (same (step_answer (Ok 1)) (Ok (Closed 1))) ∷
    fails (same (step_answer (Ok 1)) (Ok (Worked 0))) ∷
    holds (same (finish_answer (Ok 1)) (Ok (Closed 1))) ∷
    holds (same (finish_answer (Err NotArrived)) (Err NotArrived)) ∷
    fails (same (finish_answer (Ok 1)) (Ok (Worked 1))) ∷
    fails (same (finish_answer (Err NotArrived)) (Ok (Closed 0))) ∷
    -- close_answer: a stage, or the refusal, whatever grant comes back with it
    holds (same (close_answer {K = List ℕ} (Ok 1)) (Ok (Closed 1))) ∷
    holds (same (close_answer (Err (NotArrived, slip))) (Err NotArrived)) ∷
    fails (same (close_answer {K = List ℕ} (Ok 1)) (Ok (Closed 2))) ∷
    fails (same (close_answer (Err (NotArrived, slip))) (Ok (Granted (two 3 1)))) ∷
    []

abbrev pub AnswersSay : Type 0
AnswersSay = AllSay Same rows
