-- The rows of locks.
use Rattle.std.proofs.Common.{◌≡◌, Bool, true, ◌↔◌, refl}
use lib.Count.{ones}
use Rattle.plans.specs.Reach.{each}
use Rattle.cases_plans.specs.Locks.{lookups, LookupsSay, Claim, is_at, leads, in_order, told, worked, worked_nth, worked_least, before, goes, goes_nth, goes_least, nearest, Means, rows, LocksSay}
use Rattle.cases_plans.proofs.Rows.{right, all_say}
use Rattle.cases_plans.proofs.Values as values
use Rattle.cases_plans.proofs.Values.{values_say}
use Rattle.cases_plans.proofs.Worked.{at_test, at_decided, leads_test, leads_decided, rise_test, order_decided, told_test, told_decided, worked_test, worked_decided, nth_test, nth_decided, before_test, before_decided, least_test, least_decided, goes_test, goes_decided, goes_nth_test, goes_nth_decided, goes_least_test, goes_least_decided, nearest_test, nearest_decided}
use Rattle.locks.specs.Works.{outcomes}

all_told : values.told lookups ≡ true
unfolding ones
all_told = refl

pub lookups_say : LookupsSay
lookups_say = values_say lookups all_told

abbrev test : Claim → Bool
test (is_at M c m) = at_test M c m
test (leads M c o d) = leads_test M c o d
test (in_order M c o) = rise_test (outcomes M.moves c o)
test (told M m r) = told_test M m r
test (worked M m o accepted m') = worked_test M m o accepted m'
test (worked_nth M m o byte m') = nth_test M m o byte m'
test (worked_least M m o m') = least_test M m o m'
test (before x d y e) = before_test x d y e
test (goes M m o target) = goes_test M m o target
test (goes_nth M m o byte target) = goes_nth_test M m o byte target
test (goes_least M m o target) = goes_least_test M m o target
test (nearest changes ds target) = nearest_test changes ds target

decided : (x : Claim) → (test x ≡ true) ↔ Means x
decided (is_at M c m) = at_decided M c m
decided (leads M c o d) = leads_decided M c o d
decided (in_order M c o) = order_decided M c o
decided (told M m r) = told_decided M m r
decided (worked M m o accepted m') = worked_decided M m o accepted m'
decided (worked_nth M m o byte m') = nth_decided M m o byte m'
decided (worked_least M m o m') = least_decided M m o m'
decided (before x d y e) = before_decided x d y e
decided (goes M m o target) = goes_decided M m o target
decided (goes_nth M m o byte target) = goes_nth_decided M m o byte target
decided (goes_least M m o target) = goes_least_decided M m o target
decided (nearest changes ds target) = nearest_decided changes ds target

all_right : each (right (λ x. true) test) rows ≡ true
unfolding ones
all_right = refl

pub locks_say : LocksSay
locks_say = all_say Means (λ x. true) test (λ x e. decided x) rows all_right
