-- From a test that is computed over all rows to what each of them says.
use Rattle.std.proofs.Common.{◌≡◌, Bool, true, false, cond, not, List, [], ◌∷◌, map, sym, refl, ap, ◌∙◌, inl, inr}
use mathlib.Core.Bool.{false≢true}
use Rattle.port.specs.Limits.{In}
use Rattle.plans.specs.Reach.{each}
use Rattle.plans.proofs.Decide.{each_in}

pub all_hold : {A : Type 0} (Holds : A → Type 0) (test : A → Bool) → ((r : A) → test r ≡ true → Holds r) →
    (rows : List A) → each test rows ≡ true → (r : A) → In r rows → Holds r
all_hold Holds test means rows e r i = means r (each_in test rows e r i)

-- two truth values are the same
abbrev pub alike : Bool → Bool → Bool
alike a b = cond a b (not b)

pub alike_true : (a b : Bool) → alike a b ≡ true → a ≡ b
alike_true true b e = sym e
alike_true false true e = absurd (false≢true e)
alike_true false false e = refl

-- where two lists of answers are the same, so are the answers for each row
pub same_answers : {A B : Type 0} (f g : A → B) (rows : List A) → map f rows ≡ map g rows → (r : A) → In r rows → f r ≡ g r
same_answers f g [] e r i = absurd i
same_answers f g (x ∷ xs) e r (inl q) = let h : f x ≡ g x = cc in ap f q ∙ h ∙ ap g (sym q)
same_answers f g (x ∷ xs) e r (inr i) = let h : map f xs ≡ map g xs = cc in same_answers f g xs h r i
