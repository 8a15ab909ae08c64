-- The iteration that decides what is kept: sets of pairs that shrink from all pairs of the domain.
-- Outside the domain's range a set may hold what it likes.
use Rattle.std.specs.Prelude.{◌≡◌, ℕ, suc, Bool, ◌&&◌, ◌↔◌, nat_lt}
use Rattle.plans.specs.Simulation.{Domain, InRange, Holds, Serves}

-- W 0 has every pair of the domain, and W (k + 1) those that W k serves.
pub record Iterates (D : Domain) (W : ℕ → ℕ → ℕ → Bool) : Type 0 where
  pub start : (s c : ℕ) → InRange D s c → Holds (W 0) s c
  pub step : (k s c : ℕ) → InRange D s c → Holds (W (suc k)) s c ↔ Serves D (Holds (W k)) s c

-- Step k + 1 drops no pair.
abbrev pub Stable : Domain → (ℕ → ℕ → ℕ → Bool) → ℕ → Type 0
Stable D W k = (s c : ℕ) → InRange D s c → W (suc k) s c ≡ W k s c

-- R, and false outside the domain.
abbrev pub cut : Domain → (ℕ → ℕ → Bool) → ℕ → ℕ → Bool
cut D R s c = (nat_lt s D.stages && nat_lt c D.conditions) && R s c
