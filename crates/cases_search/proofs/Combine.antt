-- Tests of all numbers below one, and of all items of a list.
use Rattle.std.proofs.Common.{◌≡◌, ℕ, zero, suc, ◌<◌, ◌≤◌, Bool, true, false, not, ◌||◌, leb, ◌↔◌, List, refl, subst, ⊎_elim, true≢false, arith, leb-true, le-leb}
use mathlib.Core.Bool.{false≢true}
use Rattle.std.proofs.lemmas.Bool.{cases_lt}
use Rattle.port.specs.Limits.{In}
use Rattle.plans.specs.Flags.{every}
use Rattle.plans.specs.Reach.{each}
use Rattle.plans.proofs.Decide.{each_in, in_each, implies, or_cases, or_left, or_right}
use Rattle.plans.proofs.Flags.{every_at, at_every}

pub every_iff : {P : ℕ → Type 0} (p : ℕ → Bool) (n : ℕ) → ((i : ℕ) → i < n → (p i ≡ true) ↔ P i) → (every p n ≡ true) ↔ ((i : ℕ) → i < n → P i)
every_iff p n one = (λ e i l. (one i l).0 (every_at p n e i l), λ h. at_every p n (λ i l. (one i l).1 (h i l)))

pub each_iff : {A : Type 0} {P : A → Type 0} (p : A → Bool) (xs : List A) → ((x : A) → (p x ≡ true) ↔ P x) → (each p xs ≡ true) ↔ ((x : A) → In x xs → P x)
each_iff p xs one = (λ e x i. (one x).0 (each_in p xs e x i), λ h. in_each p xs (λ x i. (one x).1 (h x i)))

pub at_most : (a b : ℕ) → (leb a b ≡ true) ↔ (a ≤ b)
at_most a b = (leb-true a b, le-leb a b)

-- where one test passes, something is so
pub where_iff : {P Q : Type 0} (a b : Bool) → (a ≡ true) ↔ P → (b ≡ true) ↔ Q → ((not a || b) ≡ true) ↔ (P → Q)
where_iff a b p q = (λ e x. q.0 ((implies a b).0 e (p.1 x)), λ h. (implies a b).1 (λ e. q.1 (h (p.0 e))))

pub not_iff : {P : Type 0} (a : Bool) → (a ≡ true) ↔ P → (not a ≡ true) ↔ (P → ⊥)
not_iff true p = (λ e. absurd (false≢true e), λ h. absurd (h (p.0 refl)))
not_iff false p = (λ e x. false≢true (p.1 x), λ h. refl)

-- unless one test passes, something is so
pub unless_iff : {P : Type 0} (a b : Bool) → (b ≡ true) ↔ P → ((a || b) ≡ true) ↔ (a ≡ false → P)
unless_iff true b p = (λ e f. absurd (true≢false f), λ h. refl)
unless_iff false b p = (λ e f. p.0 e, λ h. p.1 (h refl))

-- some number below one passes
abbrev pub somewhere : (ℕ → Bool) → ℕ → Bool
somewhere p zero = false
somewhere p (suc n) = somewhere p n || p n

pub somewhere_iff : {P : ℕ → Type 0} (p : ℕ → Bool) (n : ℕ) → ((i : ℕ) → i < n → (p i ≡ true) ↔ P i) → (somewhere p n ≡ true) ↔ ((i : ℕ) × (i < n) × P i)
somewhere_iff p zero one = (λ e. absurd (false≢true e), λ t. let l = t.1 in absurd (omega arith))
somewhere_iff {P} p (suc n) one =
    let earlier = somewhere_iff p n (λ i l. one i (omega (arith, l))) in (
      λ e. ⊎_elim (λ x. let t = earlier.0 x in (t.0, let l = t.1 in omega arith, t.2)) (λ x. (n, omega arith, (one n (omega arith)).0 x)) (or_cases (somewhere p n) (p n) e),
      λ t. ⊎_elim
          (λ l. or_left (somewhere p n) (p n) (earlier.1 (t.0, l, t.2)))
          (λ g. let m = t.1 in let same : t.0 ≡ n = omega arith in or_right (somewhere p n) (p n) ((one n (omega arith)).1 (subst P same t.2)))
          (cases_lt t.0 n),
    )
