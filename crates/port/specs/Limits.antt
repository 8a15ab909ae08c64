-- What every port keeps to, said of its parts.
use Rattle.std.specs.Prelude.{◌≡◌, ℕ, ◌+◌, ◌*◌, ◌^◌, ◌<◌, ◌≤◌, true, ◌⊎◌, List, [], ◌∷◌, length, vec_items, slice_index, slice_index_or}
use Rattle.formula.specs.Truth.{is_formula}
use Rattle.port.specs.Numbers.{byte_end, longest_text, minutes_end, most_conditions, most_operations}
use Rattle.port.specs.declared.Move.{Move}
use Rattle.port.specs.declared.Request.{Request}

-- a is a member of the list
abbrev pub In : {A : Type 0} → A → List A → Type 0
In a [] = ⊥
In a (x ∷ xs) = (a ≡ x) ⊎ In a xs

-- what is read past the end of a list of moves
abbrev pub no_move : Move
no_move = record { condition = 0; operation = 0; outcome = 0; minutes = 0 }

-- the move at a place
abbrev pub at : List Move → ℕ → Move
at ms i = slice_index_or ms i no_move

-- a condition is a set of the port's marks: a number below 2 ^ marks
abbrev pub Marked : ℕ → List ℕ → Type 0
Marked marks cs = (i : ℕ) → i < length cs → slice_index cs i < 2 ^ marks

-- conditions rise strictly by their marks
abbrev pub Rise : List ℕ → Type 0
Rise cs = (i j : ℕ) → i < j → j < length cs → slice_index cs i < slice_index cs j

-- a move's place in the order of moves, which is by condition, then operation, then outcome: each is a byte, and the three are its digits
abbrev pub key : Move → ℕ
key m = byte_end ^ 2 * m.condition + byte_end * m.operation + m.outcome

-- the condition, the operation and the outcome of each move exist
abbrev pub MovesExist : ℕ → ℕ → List Move → Type 0
MovesExist conditions operations ms =
    (i : ℕ) → i < length ms → ((at ms i).condition < conditions) × ((at ms i).operation < operations) × ((at ms i).outcome < conditions)

-- the numbers of a move are within the limits of every port
abbrev pub Limited : Move → Type 0
Limited m = (m.condition < most_conditions) × (m.operation < most_operations) × (m.outcome < most_conditions) × (m.minutes < minutes_end)

-- moves rise strictly in their order
abbrev pub MovesRise : List Move → Type 0
MovesRise ms = (i j : ℕ) → i < j → j < length ms → key (at ms i) < key (at ms j)

-- a text of a request: a formula over the port's marks, of 1 byte to the longest
abbrev pub TextOk : ℕ → List ℕ → Type 0
TextOk marks t = (0 < length t) × (length t ≤ longest_text) × (is_formula marks t ≡ true)

-- the stages of a request exist
abbrev pub Staged : ℕ → List Request → Type 0
Staged stages qs = (q : Request) → In q qs → (q.from < stages) × (q.to < stages)

-- its texts are formulas over the port's marks
abbrev pub KeepsWorded : ℕ → List Request → Type 0
KeepsWorded marks qs = (q : Request) → In q qs → is_formula marks (vec_items q.keep.bytes) ≡ true

abbrev pub ReachesWorded : ℕ → List Request → Type 0
ReachesWorded marks qs = (q : Request) → In q qs → is_formula marks (vec_items q.reach.bytes) ≡ true
