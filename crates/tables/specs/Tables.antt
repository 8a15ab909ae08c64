-- What is read from a table of costs.
use Rattle.std.specs.Prelude.{◌≡◌, ℕ, ◌<◌, true, List, Some, None, Option, slice_index_or}
use Rattle.port.specs.Limits.{In}
use Rattle.port.specs.declared.Move.{Move}
use Rattle.costs.specs.Compare.{shown, under_of}
use Rattle.costs.specs.Costs.{Model, Le}
use Rattle.tables.specs.declared.Label.{Label}

-- what a table has for the condition c
abbrev pub looked : {A : Type 0} → (A → List ℕ) → List (Option A) → ℕ → Option (List ℕ)
looked e t c = shown e (slice_index_or t c None)

-- each move leads to a condition that has a cost, below f
abbrev pub AllBelow : Model → (ℕ → Option (List ℕ)) → List Move → List ℕ → Type 0
AllBelow k V ms f = (m : Move) → In m ms → under_of k (V m.outcome) (Some f) ≡ true

-- the least of the first i offers
abbrev pub LeastOf : {A : Type 0} → Model → (A → List ℕ) → List (Option A) → ℕ → Option (Label A) → Type 0
LeastOf k e t i None = (c : ℕ) → c < i → looked e t c ≡ None
LeastOf k e t i (Some b) = (b.condition < i) × (looked e t b.condition ≡ Some (e b.cost)) × ((c : ℕ) (g : List ℕ) → c < i → looked e t c ≡ Some g → Le k (e b.cost) g)
