-- Sums of a function's values below a number, and sums of two functions of which one is below the other.
use Rattle.std.proofs.Common.{◌≡◌, ℕ, zero, suc, ◌+◌, ◌*◌, ◌<◌, ◌≤◌, Bool, true, false, ◌⊎◌, sym, refl, ap, subst, inl, inr, suc-mul, eq-or-lt_of_le, arith}
use Rattle.plans.specs.Flags.{bit}

abbrev pub sum : (ℕ → ℕ) → ℕ → ℕ
sum f zero = 0
sum f (suc n) = sum f n + f n

pub bit_most : (b : Bool) → bit b ≤ 1
bit_most true = omega arith
bit_most false = omega arith

pub bit_shrinks : (a b : Bool) → (a ≡ true → b ≡ true) → ((a ≡ b) × (bit a ≡ bit b)) ⊎ (bit a < bit b)
bit_shrinks true true h = inl (refl, refl)
bit_shrinks true false h = inl (sym (h refl), ap bit (sym (h refl)))
bit_shrinks false true h = inr (omega arith)
bit_shrinks false false h = inl (refl, refl)

-- What holds of each number below n and of n, holds of each below n + 1.
pub below_suc : (E : ℕ → Type 0) (n : ℕ) → ((i : ℕ) → i < n → E i) → E n → (i : ℕ) → i < suc n → E i
below_suc E n all here i l = go (eq-or-lt_of_le l)
  where
    go : (suc i ≡ suc n) ⊎ (suc i < suc n) → E i
    go (inl e) = let d : n ≡ i = omega arith in subst E d here
    go (inr m) = all i (omega arith)

pub same_or_less : (E : ℕ → Type 0) (f g : ℕ → ℕ) (n : ℕ) →
    ((i : ℕ) → i < n → (E i × (f i ≡ g i)) ⊎ (f i < g i)) →
    (((i : ℕ) → i < n → E i) × (sum f n ≡ sum g n)) ⊎ (sum f n < sum g n)
same_or_less E f g zero h = inl (λ i l. absurd (omega arith), refl)
same_or_less E f g (suc n) h = go (same_or_less E f g n (λ i l. h i (omega arith))) (h n (omega arith))
  where
    go : (((i : ℕ) → i < n → E i) × (sum f n ≡ sum g n)) ⊎ (sum f n < sum g n) →
        (E n × (f n ≡ g n)) ⊎ (f n < g n) →
        (((i : ℕ) → i < suc n → E i) × (sum f n + f n ≡ sum g n + g n)) ⊎ (sum f n + f n < sum g n + g n)
    go (inl a) (inl b) = inl (below_suc E n a.0 b.0, omega (arith, a.1, b.1))
    go (inl a) (inr l) = inr (omega (arith, a.1))
    go (inr l) (inl b) = inr (omega (arith, b.1))
    go (inr l) (inr m) = inr (omega arith)

pub sum_most : (f : ℕ → ℕ) (b n : ℕ) → ((i : ℕ) → f i ≤ b) → sum f n ≤ n * b
sum_most f b zero h = omega arith
sum_most f b (suc n) h = omega (arith, suc-mul n b, sum_most f b n h, h n)
