-- Examples of the index of moves, and of tables of costs.
use Rattle.std.specs.Prelude.{ℕ, Bool, true, false, List, [], ◌∷◌, Some, None, Option, map}
use Rattle.std.specs.Borrow.{Bor}
use Rattle.port.specs.declared.Move.{Move}
use Rattle.index.specs.Indexes.{Timed, Start, row, flagged, Flags, Bare, Ordered, From, Apart, Rows}
use Rattle.tables.specs.Tables.{looked, AllBelow, LeastOf}
use Rattle.tables.specs.declared.Label.{Label}
use Rattle.costs.specs.Models.{moves_model}
use Rattle.cases_plans.specs.Rows.{Row, holds, fails, AllSay}
use Rattle.cases_plans.specs.Values as values
use Rattle.cases_plans.specs.Values.{flag, price, transitions}
use Rattle.cases_plans.specs.Basin.{move}
use Rattle.cases_search.specs.Sluice.{moves, fill, lift, hoist, jam, heave, top, drop, draw, one, four}

-- ── what is computed ──

-- flags of which moves there are: a row for each outcome, a flag for each condition
abbrev into : List (List Bool)
into =
    four false true false false ∷
    four true false false false ∷
    four true true false false ∷
    []

abbrev pub known : List (Option ℕ)
known = Some 2 ∷ None ∷ Some 0 ∷ Some 1 ∷ []

abbrev pub computed : List (Row values.Claim)
computed =
    -- row: the moves from a condition, in the order of the list
    holds (transitions (row 1 moves) (top ∷ drop ∷ [])) ∷
    holds (transitions (row 0 moves) (fill ∷ lift ∷ hoist ∷ jam ∷ heave ∷ [])) ∷
    holds (transitions (row 3 moves) []) ∷
    fails (transitions (row 1 moves) (drop ∷ top ∷ [])) ∷
    fails (transitions (row 2 moves) []) ∷
    fails (transitions (row 2 moves) (lift ∷ hoist ∷ heave ∷ top ∷ [])) ∷
    -- flagged: the flag of the condition in the outcome's row, and past the rows none
    holds (flag (flagged into 1 0) true) ∷
    holds (flag (flagged into 0 2) true) ∷
    holds (flag (flagged into 0 3) false) ∷
    fails (flag (flagged into 0 0) true) ∷
    fails (flag (flagged into 2 0) true) ∷
    fails (flag (flagged into 2 1) true) ∷
    -- looked: what the table has for a condition, as an exact cost, and past its end nothing
    holds (price (looked one known 0) (Some (one 2))) ∷
    holds (price (looked one known 1) None) ∷
    holds (price (looked one known 4) None) ∷
    fails (price (looked one known 2) None) ∷
    fails (price (looked one known 3) (Some (one 0))) ∷
    []

abbrev pub ComputedSay : Type 0
ComputedSay = AllSay values.Means computed

-- ── what is said of lists of moves, and of tables ──

pub data Claim : Type 0 where
  timed : List Move → Claim
  -- the place where the moves of a condition begin
  start : List Move → (c place : ℕ) → Claim
  -- the first i moves have their flags
  flags : List Move → ℕ → List (List Bool) → Claim
  -- and there is no other flag
  bare : List Move → ℕ → List (List Bool) → Claim
  ordered : List Move → Claim
  -- the moves from a condition; no move leads from one condition to another
  from : ℕ → List Move → Claim
  apart : (c d : ℕ) → Claim
  -- rows for the first n conditions
  rows_for : ℕ → List (List Move) → Claim
  -- each move leads to what costs less, by the known costs
  below : List Move → ℕ → Claim
  -- the least of the first i offers of a table
  least : List (Option ℕ) → ℕ → Option (Label ℕ) → Claim

-- a list of moves that is lent
abbrev pub lent : List Move → Bor (List Move)
lent ms = record { ref_ptr = (0, 0); now = ms }

abbrev pub Means : Claim → Type 0
Means (timed ms) = Timed ms
Means (start ms c place) = Start ms c place
Means (flags ms i rows) = Flags ms i rows
Means (bare ms i rows) = Bare ms i rows
Means (ordered ms) = Ordered ms
Means (from c ms) = From moves c ms
Means (apart c d) = Apart moves c d
Means (rows_for n rs) = Rows n moves (map lent rs)
Means (below ms f) = AllBelow moves_model (looked one known) ms (one f)
Means (least t i b) = LeastOf moves_model one t i b

abbrev label : ℕ → ℕ → Option (Label ℕ)
label c x = Some (record { condition = c; cost = x })

abbrev offers : List (Option ℕ)
offers = None ∷ Some 4 ∷ Some 3 ∷ Some 3 ∷ Some 1 ∷ []

abbrev pub rows : List (Row Claim)
rows =
    -- Timed: the minutes of each move fit into 16 bits
    holds (timed moves) ∷
    holds (timed (move 0 0 0 65535 ∷ [])) ∷
    fails (timed (move 0 0 0 65536 ∷ [])) ∷
    fails (timed (fill ∷ move 0 0 0 70000 ∷ [])) ∷
    -- Start: all before are of lower conditions, and none from there on
    holds (start moves 0 0) ∷
    holds (start moves 1 5) ∷
    holds (start moves 2 7) ∷
    holds (start moves 3 8) ∷
    fails (start moves 1 4) ∷
    fails (start moves 1 6) ∷
    fails (start moves 3 7) ∷
    fails (start moves 3 9) ∷
    fails (start (top ∷ fill ∷ []) 1 1) ∷
    -- Flags: only what is there is asked, and only of the first moves
    holds (flags (fill ∷ top ∷ []) 2 into) ∷
    holds (flags (fill ∷ draw ∷ []) 1 into) ∷
    holds (flags moves 0 []) ∷
    fails (flags (fill ∷ draw ∷ []) 2 into) ∷
    fails (flags (jam ∷ []) 1 into) ∷
    -- Bare: no flag but those of the first moves
    holds (bare moves 8 into) ∷
    holds (bare (fill ∷ top ∷ []) 1 (four false false false false ∷ four true false false false ∷ [])) ∷
    holds (bare [] 0 []) ∷
    fails (bare (fill ∷ top ∷ []) 2 into) ∷
    fails (bare (fill ∷ top ∷ []) 1 (four false false false false ∷ four true false false false ∷ four false true false false ∷ [])) ∷
    fails (bare moves 0 into) ∷
    -- Ordered: by operation, and equal ones may follow one another
    holds (ordered (fill ∷ lift ∷ hoist ∷ jam ∷ heave ∷ [])) ∷
    holds (ordered []) ∷
    fails (ordered (lift ∷ fill ∷ [])) ∷
    fails (ordered (fill ∷ heave ∷ hoist ∷ [])) ∷
    -- From: all the moves from the condition, no others, and in order of operation
    holds (from 1 (top ∷ drop ∷ [])) ∷
    holds (from 0 (fill ∷ lift ∷ jam ∷ hoist ∷ heave ∷ [])) ∷
    holds (from 3 []) ∷
    fails (from 1 (top ∷ [])) ∷
    fails (from 1 (drop ∷ top ∷ [])) ∷
    fails (from 1 (top ∷ drop ∷ heave ∷ [])) ∷
    fails (from 2 (draw ∷ move 2 1 0 3 ∷ [])) ∷
    -- Apart: no move leads from the first to the second
    holds (apart 0 0) ∷
    holds (apart 1 3) ∷
    holds (apart 3 0) ∷
    fails (apart 0 3) ∷
    fails (apart 2 0) ∷
    -- Rows: for each of the first conditions its row
    holds (rows_for 2 ((fill ∷ lift ∷ hoist ∷ jam ∷ heave ∷ []) ∷ (top ∷ drop ∷ []) ∷ [])) ∷
    holds (rows_for 0 ([] ∷ [])) ∷
    fails (rows_for 1 ([] ∷ [])) ∷
    fails (rows_for 2 ((fill ∷ lift ∷ hoist ∷ jam ∷ heave ∷ []) ∷ (drop ∷ top ∷ []) ∷ [])) ∷
    -- AllBelow: each outcome has a cost, and it is less
    holds (below (lift ∷ jam ∷ []) 2) ∷
    holds (below [] 0) ∷
    fails (below (lift ∷ jam ∷ []) 1) ∷
    fails (below (lift ∷ fill ∷ []) 9) ∷
    fails (below (draw ∷ []) 2) ∷
    -- LeastOf: one of the first offers that is least, or none where they have none
    holds (least offers 0 None) ∷
    holds (least offers 1 None) ∷
    holds (least offers 4 (label 2 3)) ∷
    holds (least offers 4 (label 3 3)) ∷
    holds (least offers 5 (label 4 1)) ∷
    fails (least offers 2 None) ∷
    fails (least offers 3 (label 1 4)) ∷
    fails (least offers 4 (label 4 1)) ∷
    fails (least offers 4 (label 2 2)) ∷
    fails (least offers 1 (label 0 0)) ∷
    []

abbrev pub IndexesSay : Type 0
IndexesSay = AllSay Means rows
