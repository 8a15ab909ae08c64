-- From one test that is computed over all rows to what each of them says.
use Rattle.std.proofs.Common.{◌≡◌, Bool, true, false, cond, not, ◌&&◌, ◌↔◌, List, [], ◌∷◌, sym, refl, subst, inl, inr}
use mathlib.Core.Bool.{and-eq-true_iff, false≢true}
use Rattle.plans.specs.Reach.{each}
use Rattle.plans.proofs.Decide.{each_in}
use Rattle.cases_plans.specs.Rows.{Row, Says, AllSay}

-- two truth values are the same
abbrev pub alike : Bool → Bool → Bool
alike a b = cond a b (not b)

-- a test that decides a proposition says of it what it says
pub says : (P : Type 0) (test stands : Bool) → (test ≡ true) ↔ P → alike test stands ≡ true → Says stands P
says P true true d e = d.0 refl
says P true false d e = absurd (false≢true e)
says P false true d e = absurd (false≢true e)
says P false false d e = λ p. false≢true (d.1 p)

-- the row is one that the test decides, and the test says what the row says
abbrev pub right : {A : Type 0} → (A → Bool) → (A → Bool) → Row A → Bool
right decides test r = decides r.claim && alike (test r.claim) r.stands

pub all_say : {A : Type 0} (Means : A → Type 0) (decides test : A → Bool) →
    ((a : A) → decides a ≡ true → (test a ≡ true) ↔ Means a) →
    (rows : List (Row A)) → each (right decides test) rows ≡ true → AllSay Means rows
all_say Means decides test decided rows e r i =
    let h = (and-eq-true_iff (decides r.claim) (alike (test r.claim) r.stands)).0 (each_in (right decides test) rows e r i) in
    says (Means r.claim) (test r.claim) r.stands (decided r.claim h.0) h.1

-- the rows one by one, where no test decides them
abbrev pub Each : {A : Type 0} → (A → Type 0) → List (Row A) → Type 0
Each Means [] = Unit {0}
Each Means (x ∷ xs) = Says x.stands (Means x.claim) × Each Means xs

-- what a row says, and then what those after it say
infixr 5 ◌⨾◌
abbrev pub ◌⨾◌ : {P Q : Type 0} → P → Q → P × Q
p ⨾ q = (p, q)

pub each_says : {A : Type 0} (Means : A → Type 0) (rows : List (Row A)) → Each Means rows → AllSay Means rows
each_says Means [] h r i = absurd i
each_says {A} Means (x ∷ xs) h r (inl q) = subst (λ (y : Row A). Says y.stands (Means y.claim)) (sym q) h.0
each_says Means (x ∷ xs) h r (inr i) = each_says Means xs h.1 r i
