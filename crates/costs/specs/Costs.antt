-- What a cost model is: exact costs are lists of whole numbers, one for each column.
use Rattle.std.specs.Prelude.{◌≡◌, ℕ, ◌-◌, ◌≤◌, Bool, T, ◌⊎◌, List, [], ◌∷◌, length}
use Rattle.port.specs.Limits.{Limited}
use Rattle.port.specs.declared.Move.{Move}

-- exact costs: how many columns, what no move costs, a move joined onto a cost, and the order
pub record Model : Type 0 where
  pub columns : ℕ
  pub zero : List ℕ
  pub join : Move → List ℕ → List ℕ
  -- the order: `within a b` where a is at most b
  pub within : List ℕ → List ℕ → Bool

-- a has a number for each column
abbrev pub Sized : Model → List ℕ → Type 0
Sized k a = length a ≡ k.columns

-- a is at most b
abbrev pub Le : Model → List ℕ → List ℕ → Type 0
Le k a b = T (k.within a b)

-- What a cost model must meet.
pub record Laws (k : Model) : Type 0 where
  pub zero_sized : Sized k k.zero
  pub join_sized : (m : Move) (a : List ℕ) → Sized k a → Sized k (k.join m a)
  pub total : (a b : List ℕ) → Sized k a → Sized k b → Le k a b ⊎ Le k b a
  pub chain : (a b c : List ℕ) → Sized k a → Sized k b → Sized k c → Le k a b → Le k b c → Le k a c
  pub tie : (a b : List ℕ) → Sized k a → Sized k b → Le k a b → Le k b a → a ≡ b
  pub least : (a : List ℕ) → Sized k a → Le k k.zero a
  pub keeps : (m : Move) (a b : List ℕ) → Sized k a → Sized k b → Le k a b → Le k (k.join m a) (k.join m b)
  -- a cost is below itself with a move joined
  pub grows : (m : Move) (a : List ℕ) → Sized k a → Le k (k.join m a) a → ⊥

-- The same, but only that a cost is never above itself with a move joined: this is enough for conditions to become final in order of cost.
pub record WeakLaws (k : Model) : Type 0 where
  pub zero_sized : Sized k k.zero
  pub join_sized : (m : Move) (a : List ℕ) → Sized k a → Sized k (k.join m a)
  pub total : (a b : List ℕ) → Sized k a → Sized k b → Le k a b ⊎ Le k b a
  pub chain : (a b c : List ℕ) → Sized k a → Sized k b → Sized k c → Le k a b → Le k b c → Le k a c
  pub tie : (a b : List ℕ) → Sized k a → Sized k b → Le k a b → Le k b a → a ≡ b
  pub least : (a : List ℕ) → Sized k a → Le k k.zero a
  pub keeps : (m : Move) (a b : List ℕ) → Sized k a → Sized k b → Le k a b → Le k (k.join m a) (k.join m b)
  pub rises : (m : Move) (a : List ℕ) → Sized k a → Le k a (k.join m a)

-- what a run costs: its moves joined onto zero, from the last to the first
abbrev pub cost : Model → List Move → List ℕ
cost k [] = k.zero
cost k (m ∷ ms) = k.join m (cost k ms)

-- the numbers of each move are within the limits of every port
abbrev pub Small : List Move → Type 0
Small [] = Unit {0}
Small (m ∷ ms) = Limited m × Small ms

-- so many moves may be joined, and a cost of the program is still the exact one
abbrev pub most_joined : ℕ
most_joined = 255

-- c is what some run of at most `steps` moves costs
pub record Reached (k : Model) (steps : ℕ) (c : List ℕ) : Type 0 where
  pub moves : List Move
  pub short : length moves ≤ steps
  pub small : Small moves
  pub same : c ≡ cost k moves

-- one move more may be joined onto c: some run of fewer than the most moves costs it
abbrev pub Joinable : Model → List ℕ → Type 0
Joinable k c = Reached k (most_joined - 1) c
