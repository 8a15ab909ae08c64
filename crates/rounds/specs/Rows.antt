-- Rows of flags, a flag for each condition.
use Rattle.std.specs.Prelude.{◌≡◌, ℕ, ◌<◌, Bool, ◌&&◌, List, map}
use Rattle.std.specs.List.{zip}
use Rattle.formula.specs.Truth.{truth}

-- Two rows agree on the numbers below n.
abbrev pub Agree : ℕ → (ℕ → Bool) → (ℕ → Bool) → Type 0
Agree n f g = (c : ℕ) → c < n → f c ≡ g c

-- The flags that both rows have.
abbrev pub both_rows : List Bool → List Bool → List Bool
both_rows a b = map (λ p. p.0 && p.1) (zip a b)

-- Where a text holds, condition by condition, in a port of that many marks.
abbrev pub truths : ℕ → List ℕ → List ℕ → List Bool
truths marks conditions text = map (λ c. truth marks c text) conditions
