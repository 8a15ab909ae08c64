-- Examples of how a lock goes on when it is worked, whatever it has beside its marks.
use Rattle.std.specs.Prelude.{◌≡◌, ℕ, ◌+◌, ◌*◌, Bool, not, List, [], ◌∷◌, ◌==◌}
use Rattle.locks.specs.Steps.{WorkedInTurn}
use Rattle.cases_plans.specs.Rows.{Row, holds, fails, AllSay}

-- a lock that is a number and writes down each operation as one digit more; it refuses operation 9
abbrev pub writes : ℕ → ℕ → Bool → ℕ → Type 0
writes s o r t = (t ≡ 10 * s + o) × (r ≡ not (o == 9))

-- the operations, and the lock before and after them
pub record Claim : Type 0 where
  pub operations : List ℕ
  pub before : ℕ
  pub after : ℕ

abbrev pub steps : List ℕ → ℕ → ℕ → Claim
steps os s t = record { operations = os; before = s; after = t }

abbrev pub Means : Claim → Type 0
Means x = WorkedInTurn writes x.operations x.before x.after

abbrev pub rows : List (Row Claim)
rows =
    -- WorkedInTurn: each operation once, in their order, and all accepted
    holds (steps (1 ∷ 2 ∷ []) 0 12) ∷
    holds (steps (3 ∷ []) 7 73) ∷
    holds (steps [] 5 5) ∷
    fails (steps [] 5 6) ∷
    fails (steps (1 ∷ []) 0 0) ∷
    fails (steps (1 ∷ []) 0 11) ∷
    fails (steps (1 ∷ 2 ∷ []) 0 21) ∷
    fails (steps (9 ∷ []) 0 9) ∷
    []

abbrev pub StepsSay : Type 0
StepsSay = AllSay Means rows
