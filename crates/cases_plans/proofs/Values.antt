-- One test for claims of values.
use Rattle.std.proofs.Common.{◌≡◌, ℕ, Bool, true, false, ◌&&◌, eqb, ◌↔◌, List, [], ◌∷◌, Some, None, Option, sym, refl, ap, ap₂, arith}
use mathlib.Core.Bool.{and-eq-true_iff, false≢true}
use Rattle.plans.specs.Reach.{each}
use Rattle.cases_plans.specs.Rows.{Row, AllSay}
use Rattle.cases_plans.specs.Values.{Claim, number, flag, numbers, place, price, transitions, Means}
use Rattle.cases_plans.proofs.Rows.{alike, right, all_say}
use Rattle.cases_plans.proofs.Tests.{equal, same_move, same_moves}

pub alike_iff : (a b : Bool) → (alike a b ≡ true) ↔ (a ≡ b)
alike_iff true true = (λ e. refl, λ q. refl)
alike_iff true false = (λ e. absurd (false≢true e), λ q. sym q)
alike_iff false true = (λ e. absurd (false≢true e), λ q. absurd (false≢true q))
alike_iff false false = (λ e. refl, λ q. refl)

-- a test tells whether two things are the same
abbrev pub Tells : {A : Type 0} → (A → A → Bool) → Type 0
Tells {A} same = (a b : A) → (same a b ≡ true) ↔ (a ≡ b)

abbrev pub same_list : {A : Type 0} → (A → A → Bool) → List A → List A → Bool
same_list same [] [] = true
same_list same [] (y ∷ ys) = false
same_list same (x ∷ xs) [] = false
same_list same (x ∷ xs) (y ∷ ys) = same x y && same_list same xs ys

pub list_tells : {A : Type 0} (same : A → A → Bool) → Tells same → Tells (same_list same)
list_tells same tells [] [] = (λ e. refl, λ q. refl)
list_tells same tells [] (y ∷ ys) = (λ e. absurd (false≢true e), λ q. let z : ◌≡◌ {A = ℕ} 0 1 = cc in absurd (omega arith))
list_tells same tells (x ∷ xs) [] = (λ e. absurd (false≢true e), λ q. let z : ◌≡◌ {A = ℕ} 0 1 = cc in absurd (omega arith))
list_tells same tells (x ∷ xs) (y ∷ ys) = (
  λ e. let h = (and-eq-true_iff (same x y) (same_list same xs ys)).0 e in ap₂ ◌∷◌ ((tells x y).0 h.0) ((list_tells same tells xs ys).0 h.1),
  λ q.
      let head : x ≡ y = cc in
      let tail : xs ≡ ys = cc in
      (and-eq-true_iff (same x y) (same_list same xs ys)).1 ((tells x y).1 head, (list_tells same tells xs ys).1 tail),
)

abbrev pub same_option : {A : Type 0} → (A → A → Bool) → Option A → Option A → Bool
same_option same None None = true
same_option same None (Some b) = false
same_option same (Some a) None = false
same_option same (Some a) (Some b) = same a b

pub option_tells : {A : Type 0} (same : A → A → Bool) → Tells same → Tells (same_option same)
option_tells same tells None None = (λ e. refl, λ q. refl)
option_tells same tells None (Some b) = (λ e. absurd (false≢true e), λ q. let z : ◌≡◌ {A = ℕ} 0 1 = cc in absurd (omega arith))
option_tells same tells (Some a) None = (λ e. absurd (false≢true e), λ q. let z : ◌≡◌ {A = ℕ} 0 1 = cc in absurd (omega arith))
option_tells same tells (Some a) (Some b) = (λ e. ap Some ((tells a b).0 e), λ q. let h : a ≡ b = cc in (tells a b).1 h)

abbrev pub test : Claim → Bool
test (number a b) = eqb a b
test (flag a b) = alike a b
test (numbers a b) = same_list eqb a b
test (place a b) = same_option eqb a b
test (price a b) = same_option (same_list eqb) a b
test (transitions a b) = same_list same_move a b

decided : (x : Claim) → (test x ≡ true) ↔ Means x
decided (number a b) = equal a b
decided (flag a b) = alike_iff a b
decided (numbers a b) = list_tells eqb equal a b
decided (place a b) = option_tells eqb equal a b
decided (price a b) = option_tells (same_list eqb) (list_tells eqb equal) a b
decided (transitions a b) = list_tells same_move same_moves a b

-- the rows that the test passes
abbrev pub told : List (Row Claim) → Bool
told rows = each (right (λ x. true) test) rows

pub values_say : (rows : List (Row Claim)) → told rows ≡ true → AllSay Means rows
values_say rows e = all_say Means (λ x. true) test (λ x t. decided x) rows e
