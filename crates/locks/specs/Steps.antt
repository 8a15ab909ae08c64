-- How a lock goes on when it is worked, whatever it has beside its marks.
use Rattle.std.specs.Prelude.{◌≡◌, ℕ, Bool, true, List, [], ◌∷◌}

-- A lock is worked with these operations, one after another, each once, and accepts them all: so it goes from s to s'. What one such working
-- does to it is the lock's own affair (`works`).
abbrev pub WorkedInTurn : {S : Type 0} → (S → ℕ → Bool → S → Type 0) → List ℕ → S → S → Type 0
WorkedInTurn {S} works [] s s' = s' ≡ s
WorkedInTurn {S} works (o ∷ os) s s' = (t : S) × (works s o true t × WorkedInTurn works os t s')
