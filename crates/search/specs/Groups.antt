-- Moves in order of operation, and what each group of them comes to.
use Rattle.std.specs.Prelude.{◌≡◌, ℕ, ◌<◌, ◌≤◌, ◌⊎◌, List, length, take, Some, None, Option, ◌≢◌}
use Rattle.port.specs.Limits.{In, at}
use Rattle.port.specs.declared.Move.{Move}
use Rattle.costs.specs.Costs.{Model, Le}
use Rattle.search.specs.Labels.{After, By, Worst}

-- the first n moves are by the operation o, and the next is by another
pub record Same (ms : List Move) (o n : ℕ) : Type 0 where
  pub inside : n ≤ length ms
  pub same : (i : ℕ) → i < n → (at ms i).operation ≡ o
  pub other : n < length ms → (at ms n).operation ≢ o

-- the group has the moves by the lowest operation of the list, and the rest the others
pub record Splits (ms group rest : List Move) : Type 0 where
  pub shorter : length rest < length ms
  pub some : 0 < length group
  pub mine : (m : Move) → In m group → By ms (at group 0).operation m
  pub all : (m : Move) → By ms (at group 0).operation m → In m group
  pub others : (m : Move) → In m rest → In m ms × ((at group 0).operation < m.operation)
  pub left : (m : Move) → In m ms → In m group ⊎ In m rest

-- the lowest operation of the list that comes to f, or that none does
abbrev pub Lowest : Model → (ℕ → Option (List ℕ)) → List Move → List ℕ → Option ℕ → Type 0
Lowest k V ms f None = (p : ℕ) → Worst k (After V) (By ms p) f → ⊥
Lowest k V ms f (Some o) = Worst k (After V) (By ms o) f × ((p : ℕ) → Worst k (After V) (By ms p) f → o ≤ p)

-- ── what the loops keep ──

-- the greatest of the first i moves
abbrev pub Topped : Model → (ℕ → Option (List ℕ)) → List Move → ℕ → Option (List ℕ) → Type 0
Topped k V ms i None = i ≡ 0
Topped k V ms i (Some f) = Worst k (After V) (λ m. In m (take i ms)) f

-- the operation o is below each of the moves
abbrev pub Below : List Move → ℕ → Type 0
Below rest o = (m : Move) → In m rest → o < m.operation

-- of the moves ms those are left that are not by an operation below
pub record Left (ms rest : List Move) : Type 0 where
  pub among : (m : Move) → In m rest → In m ms
  pub gone : (m : Move) → In m ms → In m rest ⊎ Below rest m.operation

-- the least that an operation comes to which is below what is left
abbrev pub Lowered : Model → (ℕ → Option (List ℕ)) → List Move → List Move → Option (List ℕ) → Type 0
Lowered k V ms rest None = (o : ℕ) (g : List ℕ) → Below rest o → Worst k (After V) (By ms o) g → ⊥
Lowered k V ms rest (Some f) = ((o : ℕ) × Worst k (After V) (By ms o) f) × ((o : ℕ) (g : List ℕ) → Below rest o → Worst k (After V) (By ms o) g → Le k f g)

-- no operation below what is left comes to f
abbrev pub Unmet : Model → (ℕ → Option (List ℕ)) → List Move → List Move → List ℕ → Type 0
Unmet k V ms rest f = (o : ℕ) → Below rest o → Worst k (After V) (By ms o) f → ⊥
