-- The rows of how a lock goes on.
use Rattle.std.proofs.Common.{◌≡◌, ℕ, sym, refl, ◌∙◌, arith, true≢false}
use Rattle.cases_plans.specs.Steps.{Means, rows, StepsSay}
use Rattle.cases_plans.proofs.Rows.{◌⨾◌, each_says}

pub steps_say : StepsSay
steps_say = each_says Means rows (
    (1, ((refl, refl), (12, ((refl, refl), refl))))
    ⨾ (73, ((refl, refl), refl))
    ⨾ refl
    ⨾ (λ h. let z : ◌≡◌ {A = ℕ} 6 5 = h in omega arith)
    ⨾ (λ h. let z : ◌≡◌ {A = ℕ} 0 1 = h.1.1 ∙ h.1.0.0 in omega arith)
    ⨾ (λ h. let z : ◌≡◌ {A = ℕ} 11 1 = h.1.1 ∙ h.1.0.0 in omega arith)
    ⨾ (λ h. let a = h.1.0.0 in let b = h.1.1.1.0.0 in let c = h.1.1.1.1 in omega (arith, a, b, c))
    ⨾ (λ h. true≢false h.1.0.1)
    ⨾ tt
    )
