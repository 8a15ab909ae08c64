-- Where a lock stands in a port, and which operations are possible there.
use Rattle.std.specs.Prelude.{◌≡◌, ℕ, suc, ◌<◌, Bool, true, false, cond, ◌&&◌, ◌||◌, ◌↔◌, List, [], ◌∷◌, length, Some, None, Option, ◌==◌, slice_index}
use Rattle.port.specs.Model.{Model}
use Rattle.port.specs.declared.Move.{Move}
use Rattle.plans.specs.Plans.{Can, Possible}

-- one further on
abbrev pub next : Option ℕ → Option ℕ
next None = None
next (Some c) = Some (suc c)

-- the number of the condition with these marks, where there is one
abbrev pub place_of : List ℕ → ℕ → Option ℕ
place_of [] m = None
place_of (x ∷ xs) m = cond (x == m) (Some 0) (next (place_of xs m))

-- condition c of the port has the marks m
abbrev pub IsAt : Model → ℕ → ℕ → Type 0
IsAt M c m = (c < length M.conditions) × (slice_index M.conditions c ≡ m)

-- in condition c, operation o may have the outcome d
abbrev pub Leads : Model → ℕ → ℕ → ℕ → Type 0
Leads M c o d = (m : Move) × Can M.moves c o m × (m.outcome ≡ d)

-- a move of condition c and operation o
abbrev pub fits : ℕ → ℕ → Move → Bool
fits c o m = m.condition == c && m.operation == o

-- operation o is possible in condition c: some move fits
abbrev pub possible : List Move → ℕ → ℕ → Bool
possible [] c o = false
possible (m ∷ ms) c o = fits c o m || possible ms c o

-- What is looked up is what is meant: a place that is found is that of a condition with the marks; where none is found, no condition has
-- them; and an operation passes as possible exactly where the port has a move of it.
pub record Lookups (M : Model) : Type 0 where
  pub found : (m c : ℕ) → place_of M.conditions m ≡ Some c → IsAt M c m
  pub missing : (m c : ℕ) → place_of M.conditions m ≡ None → IsAt M c m → ⊥
  pub passes : (c o : ℕ) → (possible M.moves c o ≡ true) ↔ Possible M.moves c o
