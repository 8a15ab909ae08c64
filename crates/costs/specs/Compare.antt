-- Costs compared, with none where there is no cost.
use Rattle.std.specs.Prelude.{ℕ, Bool, true, false, cond, not, List, Some, None, Option}
use Rattle.costs.specs.Costs.{Model}

-- the exact cost behind a cost of the program, where there is one
abbrev pub shown : {A : Type 0} → (A → List ℕ) → Option A → Option (List ℕ)
shown e None = None
shown e (Some a) = Some (e a)

-- the greater of a cost and the top so far
abbrev pub topped : Model → List ℕ → Option (List ℕ) → List ℕ
topped k a None = a
topped k a (Some b) = cond (k.within b a) a b

-- the less of those that are there
abbrev pub either : Model → Option (List ℕ) → Option (List ℕ) → Option (List ℕ)
either k None y = y
either k (Some a) None = Some a
either k (Some a) (Some b) = Some (cond (k.within a b) a b)

-- there is a first cost, and the second is none or is above it
abbrev pub under_of : Model → Option (List ℕ) → Option (List ℕ) → Bool
under_of k None y = false
under_of k (Some a) None = true
under_of k (Some a) (Some b) = not (k.within b a)
