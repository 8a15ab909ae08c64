-- The rows of histories, by one test.
use Rattle.std.proofs.Common.{◌≡◌, Bool, true, None, ◌↔◌, refl}
use Rattle.plans.specs.Reach.{each}
use Rattle.cases_plans.proofs.Rows.{right, all_say}
use Rattle.cases_histories.specs.Histories.{Claim, passes, took, history, opens, tells, Means, rows, HistoriesSay}
use Rattle.cases_histories.proofs.Takes.{first_test, first_decided, took_test, took_decided, history_test, history_decided, opens_test, opens_decided, tells_test, tells_decided}

abbrev test : Claim → Bool
test (passes v a k) = first_test v a k None
test (took v a k r b) = took_test v a k r b
test (history v a h b) = history_test v a h b
test (opens v s p) = opens_test v s p
test (tells r f) = tells_test r f

decided : (x : Claim) → (test x ≡ true) ↔ Means x
decided (passes v a k) = first_decided v a k None
decided (took v a k r b) = took_decided v a k r b
decided (history v a h b) = history_decided v a h b
decided (opens v s p) = opens_decided v s p
decided (tells r f) = tells_decided r f

all_right : each (right (λ x. true) test) rows ≡ true
all_right = refl

pub histories_say : HistoriesSay
histories_say = all_say Means (λ x. true) test (λ x e. decided x) rows all_right
