-- What ports keep to, of their parts.
use Rattle.std.specs.Prelude.{ℕ, zero, suc, Bool, true, false, List, [], ◌∷◌, codes}
use Rattle.port.specs.declared.Move.{Move}
use Rattle.port.specs.Limits.{In, no_move, at, Marked, Rise, key, MovesExist, MovesRise, TextOk}
use Rattle.cases_words.specs.Rows.{Said, Row, gives, Shown}

abbrev pub move : ℕ → ℕ → ℕ → ℕ → Move
move condition operation outcome minutes = record { condition = condition; operation = operation; outcome = outcome; minutes = minutes }

-- a member of a list
pub record InRow : Type 0 where
  pub member : ℕ
  pub list : List ℕ
  pub holds : Bool

abbrev pub members : List InRow
members =
    record { member = 5; list = 5 ∷ []; holds = true } ∷
    record { member = 7; list = 5 ∷ 6 ∷ 7 ∷ []; holds = true } ∷
    record { member = 6; list = 5 ∷ 7 ∷ []; holds = false } ∷
    record { member = 0; list = []; holds = false } ∷
    []

abbrev pub MembersHold : Type 0
MembersHold = (r : InRow) → In r members → Said r.holds (In r.member r.list)

-- the move at a place, and zeros past the end
abbrev pub moves_at : List (Row Move)
moves_at =
    gives no_move (move 0 0 0 0) (move 0 0 0 1) ∷
    gives (at (move 1 2 3 4 ∷ move 5 6 7 8 ∷ []) 0) (move 1 2 3 4) (move 5 6 7 8) ∷
    gives (at (move 1 2 3 4 ∷ move 5 6 7 8 ∷ []) 1) (move 5 6 7 8) (move 1 2 3 4) ∷
    gives (at (move 1 2 3 4 ∷ move 5 6 7 8 ∷ []) 2) (move 0 0 0 0) (move 5 6 7 8) ∷
    []

abbrev pub MovesAtShown : Type 0
MovesAtShown = Shown moves_at

-- the condition weighs most, then the operation, then the outcome; minutes do not count
abbrev pub keys : List (Row ℕ)
keys =
    gives (key (move 0 0 0 9)) 0 9 ∷
    gives (key (move 1 2 3 4)) 66051 66052 ∷
    gives (key (move 1 0 0 0)) 65536 256 ∷
    gives (key (move 0 1 0 0)) 256 1 ∷
    gives (key (move 255 31 255 65535)) 16719871 16719870 ∷
    -- an operation of more than a byte runs into the condition: where moves rise, what they name has to exist too
    gives (key (move 0 256 0 0)) (key (move 1 0 0 0)) 256 ∷
    []

abbrev pub KeysShown : Type 0
KeysShown = Shown keys

-- so many marks, and conditions
pub record MarkedRow : Type 0 where
  pub marks : ℕ
  pub conditions : List ℕ
  pub holds : Bool

abbrev pub marked : List MarkedRow
marked =
    record { marks = 2; conditions = 3 ∷ 0 ∷ []; holds = true } ∷
    record { marks = 16; conditions = 65535 ∷ []; holds = true } ∷
    record { marks = 0; conditions = 0 ∷ []; holds = true } ∷
    record { marks = 2; conditions = 0 ∷ 4 ∷ []; holds = false } ∷
    record { marks = 16; conditions = 65536 ∷ 0 ∷ []; holds = false } ∷
    record { marks = 0; conditions = 1 ∷ []; holds = false } ∷
    []

abbrev pub MarkedHold : Type 0
MarkedHold = (r : MarkedRow) → In r marked → Said r.holds (Marked r.marks r.conditions)

-- conditions that rise
pub record RiseRow : Type 0 where
  pub conditions : List ℕ
  pub holds : Bool

abbrev pub rising : List RiseRow
rising =
    record { conditions = []; holds = true } ∷
    record { conditions = 4 ∷ []; holds = true } ∷
    record { conditions = 0 ∷ 1 ∷ 5 ∷ []; holds = true } ∷
    record { conditions = 0 ∷ 1 ∷ 1 ∷ []; holds = false } ∷
    record { conditions = 3 ∷ 2 ∷ []; holds = false } ∷
    record { conditions = 0 ∷ 5 ∷ 1 ∷ 6 ∷ []; holds = false } ∷
    []

abbrev pub RisingHold : Type 0
RisingHold = (r : RiseRow) → In r rising → Said r.holds (Rise r.conditions)

-- with three conditions and two operations: whether what the moves name exists; and whether they rise
pub record MovesRow : Type 0 where
  pub moves : List Move
  pub holds : Bool

abbrev moves_row : Bool → List Move → MovesRow
moves_row holds moves = record { moves = moves; holds = holds }

abbrev pub existing : List MovesRow
existing =
    moves_row true [] ∷
    moves_row true (move 2 1 2 65535 ∷ move 0 0 0 0 ∷ []) ∷
    moves_row false (move 0 0 0 0 ∷ move 3 0 0 0 ∷ []) ∷
    moves_row false (move 0 2 0 0 ∷ []) ∷
    moves_row false (move 0 0 3 0 ∷ []) ∷
    []

abbrev pub ExistingHold : Type 0
ExistingHold = (r : MovesRow) → In r existing → Said r.holds (MovesExist 3 2 r.moves)

abbrev pub rising_moves : List MovesRow
rising_moves =
    moves_row true [] ∷
    moves_row true (move 0 0 1 9 ∷ move 0 0 2 1 ∷ move 0 1 0 5 ∷ move 1 0 0 0 ∷ []) ∷
    -- the same move with other minutes, and three that fall
    moves_row false (move 0 0 1 1 ∷ move 0 0 1 9 ∷ []) ∷
    moves_row false (move 0 0 2 0 ∷ move 0 0 1 0 ∷ []) ∷
    moves_row false (move 0 1 0 0 ∷ move 0 0 2 0 ∷ []) ∷
    moves_row false (move 1 0 0 0 ∷ move 0 1 2 0 ∷ []) ∷
    []

abbrev pub RisingMovesHold : Type 0
RisingMovesHold = (r : MovesRow) → In r rising_moves → Said r.holds (MovesRise r.moves)

-- twice as many bytes of negation in front of a text
abbrev pub not_not : ℕ → List ℕ → List ℕ
not_not zero text = text
not_not (suc n) text = 33 ∷ 33 ∷ not_not n text

-- a text of a request, over so many marks
pub record TextRow : Type 0 where
  pub marks : ℕ
  pub text : List ℕ
  pub holds : Bool

abbrev pub texts : List TextRow
texts =
    record { marks = 1; text = codes "1"; holds = true } ∷
    record { marks = 2; text = codes "a|!b"; holds = true } ∷
    -- 63 bytes, and 64
    record { marks = 1; text = not_not 31 (codes "a"); holds = true } ∷
    record { marks = 1; text = 33 ∷ not_not 31 (codes "a"); holds = false } ∷
    -- nothing, no formula, and a mark that there is not
    record { marks = 1; text = []; holds = false } ∷
    record { marks = 2; text = codes "a|"; holds = false } ∷
    record { marks = 1; text = codes "a|!b"; holds = false } ∷
    []

abbrev pub TextsHold : Type 0
TextsHold = (r : TextRow) → In r texts → Said r.holds (TextOk r.marks r.text)
