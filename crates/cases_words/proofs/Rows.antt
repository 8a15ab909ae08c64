-- From what is computed over all rows to what each of them says.
use Rattle.std.proofs.Common.{◌≡◌, ℕ, Bool, true, false, List, [], ◌∷◌, map, sym, ap, ◌∙◌, subst, inl, inr}
use mathlib.Core.Bool.{false≢true}
use Rattle.std.specs.Bool.{Decides}
use Rattle.port.specs.Limits.{In}
use Rattle.reading.specs.Reading.{same}
use Rattle.reading.proofs.Steps.{same_self}
use Rattle.cases_words.specs.Rows.{Said, Row, Shown}

-- where two lists of answers are the same, so are the answers for each row
pub same_answers : {A B : Type 0} (f g : A → B) (rows : List A) → map f rows ≡ map g rows → (r : A) → In r rows → f r ≡ g r
same_answers f g [] e r i = absurd i
same_answers f g (x ∷ xs) e r (inl q) = let h : f x ≡ g x = cc in ap f q ∙ h ∙ ap g (sym q)
same_answers f g (x ∷ xs) e r (inr i) = let h : map f xs ≡ map g xs = cc in same_answers f g xs h r i

pub said : {P : Type 0} (test holds : Bool) → test ≡ holds → Decides test P → Said holds P
said test true e d = d.0 e
said test false e d = λ p. false≢true (sym e ∙ d.1 p)

-- a test that decides what the rows say, and says of each what is told of it
pub all_said : {A : Type 0} (P : A → Type 0) (test holds : A → Bool) → ((r : A) → Decides (test r) (P r)) →
    (rows : List A) → map test rows ≡ map holds rows → (r : A) → In r rows → Said (holds r) (P r)
all_said P test holds decides rows e r i = said (test r) (holds r) (same_answers test holds rows e r i) (decides r)

-- what is told by two values with other codes is not the same
pub apart : {V : Type 0} (code : V → List ℕ) (a b : V) → same (code a) (code b) ≡ false → a ≡ b → ⊥
apart code a b e p = false≢true (sym e ∙ ap (λ x. same (code x) (code b)) p ∙ same_self (code b))

pub all_shown : {V : Type 0} (code : V → List ℕ) (rows : List (Row V)) → map (λ (r : Row V). r.given) rows ≡ map (λ (r : Row V). r.is) rows →
    map (λ (r : Row V). same (code r.given) (code r.is_not)) rows ≡ map (λ (r : Row V). false) rows → Shown rows
all_shown {V} code rows e f r i = (
  same_answers (λ (r : Row V). r.given) (λ (r : Row V). r.is) rows e r i,
  apart code r.given r.is_not (same_answers (λ (r : Row V). same (code r.given) (code r.is_not)) (λ (r : Row V). false) rows f r i),
)

-- rows that are shown one by one
abbrev pub Each : {A : Type 0} → (A → Type 0) → List A → Type 0
Each P [] = Unit {0}
Each P (x ∷ xs) = P x × Each P xs

pub each_in : {A : Type 0} (P : A → Type 0) (rows : List A) → Each P rows → (r : A) → In r rows → P r
each_in P [] h r i = absurd i
each_in P (x ∷ xs) h r (inl q) = subst P (sym q) h.0
each_in P (x ∷ xs) h r (inr i) = each_in P xs h.1 r i
