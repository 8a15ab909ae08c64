-- What a lock tells, and what it does when it is worked.
use Rattle.std.specs.Prelude.{◌≡◌, ℕ, ◌%◌, ◌≤◌, Bool, true, false, cond, List, [], ◌∷◌, length, bit_xor, count_ones, slice_index}
use Rattle.port.specs.Limits.{In, Rise}
use Rattle.port.specs.Model.{Model}
use Rattle.port.specs.declared.Move.{Move}
use Rattle.plans.specs.Plans.{Possible}
use Rattle.locks.specs.Places.{IsAt, Leads, fits}

-- It is told truly whether the marks m are those of a condition of the port.
pub record TellsCondition (M : Model) (m : ℕ) (r : Bool) : Type 0 where
  pub yes : r ≡ true → (c : ℕ) × IsAt M c m
  pub not : r ≡ false → (c : ℕ) → IsAt M c m → ⊥

-- A lock with the marks m is worked with operation o: it accepts or not, and then has the marks m'. Where it accepts, these are the
-- marks of an outcome; it refuses where m is no condition, or o is not possible there, and nowhere else, and keeps its marks then.
pub record LockWorked (M : Model) (m o : ℕ) (accepted : Bool) (m' : ℕ) : Type 0 where
  pub accepts : accepted ≡ true → (c d : ℕ) × (IsAt M c m × Leads M c o d × IsAt M d m')
  pub refuses : accepted ≡ false → (m' ≡ m) × ((c : ℕ) → IsAt M c m → Possible M.moves c o → ⊥)

-- the outcomes of operation o in condition c, in the order of the moves (which is their rising order)
abbrev pub outcomes : List Move → ℕ → ℕ → List ℕ
outcomes [] c o = []
outcomes (m ∷ ms) c o = cond (fits c o m) (m.outcome ∷ outcomes ms c o) (outcomes ms c o)

-- The outcomes of operation o in condition c rise strictly by their numbers, and are the conditions to which it may lead, and no others.
pub record InOrder (M : Model) (c o : ℕ) : Type 0 where
  pub rise : Rise (outcomes M.moves c o)
  pub all : (d : ℕ) → Leads M c o d → In d (outcomes M.moves c o)
  pub only : (d : ℕ) → In d (outcomes M.moves c o) → Leads M c o d

-- The outcome is the one that a byte names: byte modulo the number of outcomes, counted from 0.
abbrev pub WorkedNth : Model → ℕ → ℕ → ℕ → ℕ → Type 0
WorkedNth M m o byte m' =
    (c : ℕ) × (IsAt M c m × IsAt M (slice_index (outcomes M.moves c o) (byte % length (outcomes M.moves c o))) m')

-- how many marks differ between condition c and condition d
abbrev pub change : Model → ℕ → ℕ → ℕ
change M c d = count_ones (bit_xor (slice_index M.conditions c) (slice_index M.conditions d))

-- x marks change towards d, y towards e: fewer, or as many and d is no higher a number
abbrev pub Before : ℕ → ℕ → ℕ → ℕ → Type 0
Before x d y e = (x ≤ y) × (y ≤ x → d ≤ e)

-- The outcome is the one that changes the fewest marks, the lowest-numbered among equals.
abbrev pub WorkedLeast : Model → ℕ → ℕ → ℕ → Type 0
WorkedLeast M m o m' =
    (c d : ℕ) × (IsAt M c m × Leads M c o d × IsAt M d m' × ((e : ℕ) → Leads M c o e → Before (change M c d) d (change M c e) e))
