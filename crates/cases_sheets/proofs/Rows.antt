-- From codes that are computed over all rows to whether two values are the same.
use Rattle.std.proofs.Common.{◌≡◌, ℕ, Bool, true, false, cond, List, map}
use Rattle.port.specs.Limits.{In}
use Rattle.reading.specs.Reading.{same}
use Rattle.cases_words.specs.Rows.{Said}
use Rattle.cases_words.proofs.Rows.{same_answers, apart}

same_said : {V : Type 0} (code : V → List ℕ) (a b : V) (holds : Bool) → cond holds a b ≡ b → cond holds false (same (code a) (code b)) ≡ false → Said holds (a ≡ b)
same_said code a b true e f = e
same_said code a b false e f = apart code a b f

-- where two values of a row are to be the same, they are; where not, their codes are others
pub all_same : {A V : Type 0} (code : V → List ℕ) (a b : A → V) (holds : A → Bool) (rows : List A) →
    map (λ r. cond (holds r) (a r) (b r)) rows ≡ map b rows → map (λ r. cond (holds r) false (same (code (a r)) (code (b r)))) rows ≡ map (λ r. false) rows →
    (r : A) → In r rows → Said (holds r) (a r ≡ b r)
all_same code a b holds rows e f r i =
    same_said code (a r) (b r) (holds r) (same_answers (λ r. cond (holds r) (a r) (b r)) b rows e r i)
    (same_answers (λ r. cond (holds r) false (same (code (a r)) (code (b r)))) (λ r. false) rows f r i)

-- what is said of a proposition is said of one that means the same
pub said_as : {P Q : Type 0} (holds : Bool) → (P → Q) → (Q → P) → Said holds P → Said holds Q
said_as true f g p = f p
said_as false f g n = λ q. n (g q)
