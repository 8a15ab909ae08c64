-- Claims that a value which is computed is the one that is told.
use Rattle.std.specs.Prelude.{◌≡◌, ℕ, Bool, List, Option}
use Rattle.solver.specs.declared.Entry.{Entry}
use Rattle.histories.specs.Calls.{At, Rule}
use Rattle.histories.specs.Errands.{Errand}

-- a number or a flag; a list of numbers; a number where there is one; an entry; where controller and lock stand; rules; errands
pub data Claim : Type 0 where
  number : (found told : ℕ) → Claim
  flag : (found told : Bool) → Claim
  numbers : (found told : List ℕ) → Claim
  place : (found told : Option ℕ) → Claim
  entry : (found told : Entry) → Claim
  standing : (found told : At) → Claim
  ruled : (found told : List Rule) → Claim
  went : (found told : List Errand) → Claim

abbrev pub Means : Claim → Type 0
Means (number a b) = a ≡ b
Means (flag a b) = a ≡ b
Means (numbers a b) = a ≡ b
Means (place a b) = a ≡ b
Means (entry a b) = a ≡ b
Means (standing a b) = a ≡ b
Means (ruled a b) = a ≡ b
Means (went a b) = a ≡ b
