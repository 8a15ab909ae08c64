-- Rows of pairs, tests below a number, and counts of flags.
use Rattle.std.proofs.Common.{◌≡◌, ℕ, zero, suc, ◌+◌, ◌*◌, ◌<◌, ◌≤◌, Bool, true, false, List, [], ◌∷◌, length, refl, ap, mul-le-mul_right, suc-mul, arith}
use mathlib.Core.Bool.{and-eq-true_iff}
use Rattle.plans.specs.Flags.{raised, bit, every}
use Rattle.plans.proofs.Count.{below_suc}

-- The row of stage s lies within the flags of all pairs.
pub row_within : (s S n L : ℕ) → s < S → L ≡ S * n → s * n + n ≤ L
row_within s S n L l e = omega (arith, suc-mul s n, mul-le-mul_right n l)

-- ── tests below a number ──

pub every_at : (p : ℕ → Bool) (m : ℕ) → every p m ≡ true → (i : ℕ) → i < m → p i ≡ true
every_at p zero e i l = absurd (omega arith)
every_at p (suc m) e i l =
    let b = (and-eq-true_iff (every p m) (p m)).0 e in
    below_suc (λ i. p i ≡ true) m (every_at p m b.0) b.1 i l

pub at_every : (p : ℕ → Bool) (m : ℕ) → ((i : ℕ) → i < m → p i ≡ true) → every p m ≡ true
at_every p zero h = refl
at_every p (suc m) h = (and-eq-true_iff (every p m) (p m)).1 (at_every p m (λ i l. h i (omega arith)), h m (omega arith))

-- ── counts ──

pub raised_most : (flags : List Bool) → raised flags ≤ length flags
raised_most [] = omega arith
raised_most (true ∷ flags) = omega (arith, raised_most flags)
raised_most (false ∷ flags) = omega (arith, raised_most flags)

pub bit_true : (b : Bool) → b ≡ true → bit b ≡ 1
bit_true b e = ap bit e
