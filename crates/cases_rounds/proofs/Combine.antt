-- Tests of parts, of places of lists, and of pairs.
use Rattle.std.proofs.Common.{◌≡◌, ℕ, ◌<◌, ◌≤◌, Bool, true, false, not, ◌&&◌, ◌↔◌, List, length, get_or, sym, refl, subst, true≢false, arith}
use mathlib.Core.Bool.{and-eq-true_iff, false≢true}
use Rattle.std.proofs.Math.Logic.{∥∥₁_elim}
use Rattle.std.proofs.Props.{props}
use Rattle.std.proofs.lemmas.List.{get_or_default}
use Rattle.plans.specs.Flags.{every}
use Rattle.plans.specs.Simulation.{Domain, InRange}
use Rattle.cases_plans.proofs.Kept.{pairwise, pairwise_iff}
use Rattle.cases_plans.proofs.Rows.{alike}
use Rattle.cases_search.proofs.Combine.{every_iff}

-- the second part need be decided only where the first holds
pub then_iff : {P Q : Type 0} (a b : Bool) → (a ≡ true) ↔ P → (P → (b ≡ true) ↔ Q) → ((a && b) ≡ true) ↔ (P × Q)
then_iff a b p q = (
  λ e. let h = (and-eq-true_iff a b).0 e in (p.0 h.0, (q (p.0 h.0)).0 h.1),
  λ t. (and-eq-true_iff a b).1 (p.1 t.0, (q t.0).1 t.1),
)

-- a flag that is up where something is not so
pub change_iff : {Q : Type 0} (flag b : Bool) → (b ≡ true) ↔ Q → (alike flag (not b) ≡ true) ↔ ((flag ≡ false → Q) × (flag ≡ true → Q → ⊥))
change_iff true true q = (λ e. absurd (false≢true e), λ h. absurd (h.1 refl (q.0 refl)))
change_iff true false q = (λ e. (λ f. absurd (true≢false f), λ f x. false≢true (q.1 x)), λ h. refl)
change_iff false true q = (λ e. (λ f. q.0 refl, λ f. absurd (false≢true f)), λ h. refl)
change_iff false false q = (λ e. absurd (false≢true e), λ h. absurd (false≢true (q.1 (h.0 refl))))

-- that there is a proof, whichever
pub some_proof : {P : Type 0} (b : Bool) → (b ≡ true) ↔ P → (b ≡ true) ↔ ∥ P ∥₁
some_proof b p = (λ e. ∣ p.0 e ∣₁, λ t. ∥∥₁_elim t (search props) p.1)

pub down_iff : (b : Bool) → (not b ≡ true) ↔ (b ≡ false)
down_iff true = (λ e. absurd (false≢true e), λ e. absurd (true≢false e))
down_iff false = (λ e. refl, λ e. refl)

-- something of each place of a list, whatever is read past its end
pub places_iff : {A : Type 0} {P : ℕ → A → Type 0} (test : ℕ → A → Bool) (xs : List A) (none : A) (n : ℕ) → n ≤ length xs →
    ((i : ℕ) → i < n → (x : A) → (test i x ≡ true) ↔ P i x) → (every (λ i. test i (get_or xs i none)) n ≡ true) ↔ ((i : ℕ) (d : A) → i < n → P i (get_or xs i d))
places_iff {A} {P} test xs none n long one = (
  λ e i d l. subst (P i) (sym (get_or_default xs i d none (omega (arith, l, long)))) (all.0 e i l),
  λ h. all.1 (λ i l. h i none l),
)
  where
    all : (every (λ i. test i (get_or xs i none)) n ≡ true) ↔ ((i : ℕ) → i < n → P i (get_or xs i none))
    all = every_iff (λ i. test i (get_or xs i none)) n (λ i l. one i l (get_or xs i none))

-- something of each pair of a domain
pub pairs_iff : {P : ℕ → ℕ → Type 0} (D : Domain) (test : ℕ → ℕ → Bool) → ((s c : ℕ) → InRange D s c → (test s c ≡ true) ↔ P s c) →
    (pairwise D test ≡ true) ↔ ((s c : ℕ) → InRange D s c → P s c)
pairs_iff D test one = (
  λ e s c r. (one s c r).0 ((pairwise_iff D test).0 e s c r),
  λ h. (pairwise_iff D test).1 (λ s c r. (one s c r).1 (h s c r)),
)
