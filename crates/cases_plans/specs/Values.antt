-- Claims that a value which is computed is the one that is told.
use Rattle.std.specs.Prelude.{◌≡◌, ℕ, Bool, List, Option}
use Rattle.port.specs.declared.Move.{Move}

-- a number or a flag; a list of numbers; a place or a price, where there is one; a list of moves
pub data Claim : Type 0 where
  number : (found told : ℕ) → Claim
  flag : (found told : Bool) → Claim
  numbers : (found told : List ℕ) → Claim
  place : (found told : Option ℕ) → Claim
  price : (found told : Option (List ℕ)) → Claim
  transitions : (found told : List Move) → Claim

abbrev pub Means : Claim → Type 0
Means (number a b) = a ≡ b
Means (flag a b) = a ≡ b
Means (numbers a b) = a ≡ b
Means (place a b) = a ≡ b
Means (price a b) = a ≡ b
Means (transitions a b) = a ≡ b
