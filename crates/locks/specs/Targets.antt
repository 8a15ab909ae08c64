-- Where an operation leads a lock, before the lock goes there.
use Rattle.std.specs.Prelude.{ℕ, ◌%◌, List, [], ◌∷◌, length, Some, None, Option, slice_index}
use Rattle.port.specs.Limits.{In}
use Rattle.port.specs.Model.{Model}
use Rattle.plans.specs.Plans.{Possible}
use Rattle.locks.specs.Places.{IsAt, Leads}
use Rattle.locks.specs.Works.{Before, WorkedNth, WorkedLeast}

-- From the marks m, operation o leads to the marks of an outcome; to none where m is no condition, or o is not possible there.
abbrev pub Goes : Model → ℕ → ℕ → Option ℕ → Type 0
Goes M m o None = (c : ℕ) → IsAt M c m → Possible M.moves c o → ⊥
Goes M m o (Some m') = (c d : ℕ) × (IsAt M c m × Leads M c o d × IsAt M d m')

-- where it leads to marks, the byte names their outcome
abbrev pub GoesNth : Model → ℕ → ℕ → ℕ → Option ℕ → Type 0
GoesNth M m o byte None = Unit {0}
GoesNth M m o byte (Some m') = WorkedNth M m o byte m'

-- where it leads to marks, their outcome changes the fewest marks
abbrev pub GoesLeast : Model → ℕ → ℕ → Option ℕ → Type 0
GoesLeast M m o None = Unit {0}
GoesLeast M m o (Some m') = WorkedLeast M m o m'

-- the one of the outcomes that a byte names, where there are any
abbrev pub named_by : ℕ → List ℕ → Option ℕ
named_by byte [] = None
named_by byte (d ∷ ds) = Some (slice_index (d ∷ ds) (byte % length (d ∷ ds)))

-- Of the outcomes, with how many marks each changes, the one before all others, where there are any.
abbrev pub Nearest : (ℕ → ℕ) → List ℕ → Option ℕ → Type 0
Nearest changes ds None = (e : ℕ) → In e ds → ⊥
Nearest changes ds (Some d) = In d ds × ((e : ℕ) → In e ds → Before (changes d) d (changes e) e)
