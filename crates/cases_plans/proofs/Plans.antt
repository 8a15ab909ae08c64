-- The rows of plans, by one test.
use Rattle.std.proofs.Common.{◌≡◌, Bool, true, eqb, ◌↔◌, refl}
use Rattle.plans.specs.Plans.{end}
use Rattle.plans.specs.Reach.{each}
use Rattle.locks.specs.Places as places
use Rattle.cases_plans.specs.Plans.{Claim, within, can, possible, run, ends, works, attains, Means, rows, PlansSay}
use Rattle.cases_plans.specs.Basin.{moves}
use Rattle.cases_plans.proofs.Rows.{right, all_say}
use Rattle.cases_plans.proofs.Tests.{equal, within_test, within_decided, can_test, can_decided, possible_decided, run_test, run_decided, works_test, works_decided, attains_test, attains_decided}

abbrev test : Claim → Bool
test (within n ms) = within_test n ms
test (can c o m) = can_test moves c o m
test (possible c o) = places.possible moves c o
test (run plan c ms) = run_test moves plan c ms
test (ends c ms d) = eqb (end c ms) d
test (works plan c) = works_test moves plan c
test (attains keep goal plan c) = attains_test moves keep goal plan c

decided : (x : Claim) → (test x ≡ true) ↔ Means x
decided (within n ms) = within_decided n ms
decided (can c o m) = can_decided moves c o m
decided (possible c o) = possible_decided moves c o
decided (run plan c ms) = run_decided moves plan c ms
decided (ends c ms d) = equal (end c ms) d
decided (works plan c) = works_decided moves plan c
decided (attains keep goal plan c) = attains_decided moves keep goal plan c

all_right : each (right (λ x. true) test) rows ≡ true
all_right = refl

pub plans_say : PlansSay
plans_say = all_say Means (λ x. true) test (λ x e. decided x) rows all_right
