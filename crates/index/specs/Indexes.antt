-- Where the moves from a condition, and those into one, are found.
use Rattle.std.specs.Prelude.{◌≡◌, ℕ, ◌<◌, ◌≤◌, Bool, true, false, List, [], length, ◌≢◌, ◌==◌, filter, slice_index_or}
use Rattle.std.specs.Borrow.{Bor}
use Rattle.port.specs.Limits.{at, In}
use Rattle.port.specs.Numbers.{minutes_end}
use Rattle.port.specs.declared.Move.{Move}

-- the minutes of each move are as small as their type says
abbrev pub Timed : List Move → Type 0
Timed ms = (i : ℕ) → i < length ms → (at ms i).minutes < minutes_end

-- The place where the moves of condition c begin: it is one of the list, or its end; before it conditions are below c, and from there
-- on they are not.
pub record Start (ms : List Move) (c place : ℕ) : Type 0 where
  pub inside : place ≤ length ms
  pub behind : (i : ℕ) → i < place → (at ms i).condition < c
  pub ahead : (i : ℕ) → place ≤ i → i < length ms → c ≤ (at ms i).condition

-- the moves from condition c, as they stand
abbrev pub row : ℕ → List Move → List Move
row c = filter (λ m. m.condition == c)

-- a row for each of the first n conditions
abbrev pub Rows : ℕ → List Move → List (Bor (List Move)) → Type 0
Rows n ms rows = (c : ℕ) (r : Bor (List Move)) → c < n → (slice_index_or rows c r).now ≡ row c ms

-- whether a row for each outcome, of a flag for each condition, has the flag of a move set
abbrev pub flagged : List (List Bool) → ℕ → ℕ → Bool
flagged into c d = slice_index_or (slice_index_or into d []) c false

-- the flag of each of the first i moves is set
abbrev pub Flags : List Move → ℕ → List (List Bool) → Type 0
Flags ms i into = (j : ℕ) → j < i → flagged into (at ms j).condition (at ms j).outcome ≡ true

-- no other flag is set: not where none of the first i moves leads from a condition to an outcome
abbrev pub Bare : List Move → ℕ → List (List Bool) → Type 0
Bare ms i into = (c d : ℕ) → ((j : ℕ) → j < i → (at ms j).condition ≡ c → (at ms j).outcome ≢ d) → flagged into c d ≡ false

-- the moves stand in order of operation
abbrev pub Ordered : List Move → Type 0
Ordered ms = (i j : ℕ) → i ≤ j → j < length ms → (at ms i).operation ≤ (at ms j).operation

-- exactly the moves from c, in order of operation
pub record From (moves : List Move) (c : ℕ) (ms : List Move) : Type 0 where
  pub are : (m : Move) → In m ms → In m moves × (m.condition ≡ c)
  pub all : (m : Move) → In m moves → m.condition ≡ c → In m ms
  pub ordered : Ordered ms

-- no move leads from c to d
abbrev pub Apart : List Move → ℕ → ℕ → Type 0
Apart moves c d = (m : Move) → In m moves → m.condition ≡ c → m.outcome ≢ d
