-- The rows of answers: what is told is the same by computing, or another in what it is made of.
use Rattle.std.proofs.Common.{◌≡◌, ℕ, false, List, [], ◌∷◌, Ok, Err, sym, refl, ap, ◌∙◌}
use mathlib.Core.Bool.{false≢true}
use Rattle.control.specs.declared.answer.Reply.TheVariants.{Quoted, Granted, Worked, Closed}
use Rattle.control.specs.Numbers.{refusal_number}
use Rattle.control.specs.States.{Answer}
use Rattle.cases_plans.proofs.Rows.{◌⨾◌, each_says}
use Rattle.cases_histories.specs.Answers.{Same, rows, AnswersSay}
use Rattle.cases_histories.proofs.Tests.{same_numbers, numbers_tell}

-- what an answer is made of
abbrev code : Answer (List ℕ) → List ℕ
code (Ok (Quoted x)) = 0 ∷ x
code (Ok (Granted x)) = 1 ∷ x
code (Ok (Worked o)) = 2 ∷ o ∷ []
code (Ok (Closed s)) = 3 ∷ s ∷ []
code (Err r) = 4 ∷ refusal_number r ∷ []

other : {a b : Answer (List ℕ)} → same_numbers (code a) (code b) ≡ false → a ≡ b → ⊥
other {a} {b} f q = false≢true (sym f ∙ (numbers_tell (code a) (code b)).1 (ap code q))

pub answers_say : AnswersSay
answers_say = each_says Same rows (
    refl ⨾ refl ⨾ other refl ⨾ other refl
    ⨾ refl ⨾ refl ⨾ other refl ⨾ other refl
    ⨾ refl ⨾ refl ⨾ other refl ⨾ other refl
    ⨾ refl ⨾ refl ⨾ other refl ⨾ other refl
    ⨾ refl ⨾ refl ⨾ other refl ⨾ other refl
    ⨾ refl ⨾ refl ⨾ other refl ⨾ other refl
    ⨾ refl ⨾ refl ⨾ other refl ⨾ other refl
    ⨾ tt
    )
