-- The rows of controls, by one test.
use Rattle.std.proofs.Common.{◌≡◌, Bool, true, eqb, ◌↔◌, refl}
use Rattle.std.specs.Fmt.{digits}
use Rattle.plans.specs.Flags.{task_at}
use Rattle.plans.specs.Reach.{each}
use Rattle.histories.specs.Calls.{cost_at}
use Rattle.cases_plans.proofs.Rows.{right, all_say}
use Rattle.cases_plans.proofs.Tests.{equal}
use Rattle.cases_histories.specs.Sluice.{w}
use Rattle.cases_histories.specs.Controls.{marks, numbered, NumberedSay, Claim, spot, spotted, found, priced, next, target, ruled, balks, does, shows, did, Means, rows, ControlsSay}
use Rattle.cases_histories.proofs.Tests.{same_numbers, numbers_tell}
use Rattle.cases_histories.proofs.Values.{told, values_say}
use Rattle.cases_histories.proofs.Decisions.{spot_test, spot_decided, spotted_test, spotted_decided, found_test, found_decided, next_test, next_decided, ruled_test, ruled_decided, balks_test, balks_decided, does_test, does_decided, shows_test, shows_decided, did_test, did_decided}

all_told : told numbered ≡ true
unfolding digits
all_told = refl

pub numbered_say : NumberedSay
numbered_say = values_say numbered all_told

abbrev test : Claim → Bool
test (spot s p q c) = spot_test w s p q c
test (spotted s p q r) = spotted_test w s p q r
test (found rs n r) = found_test rs n r
test (priced p q x) = same_numbers x (cost_at w q p)
test (next p q o) = next_test w p q o
test (target p q s) = eqb s (task_at w.domain q).to
test (ruled a k r) = ruled_test w a k r
test (balks M a k r) = balks_test w marks M a k r
test (does M a k r b) = does_test w marks M a k r b
test (shows r t) = shows_test r t
test (did a k r b) = did_test w a k b r

decided : (x : Claim) → (test x ≡ true) ↔ Means x
decided (spot s p q c) = spot_decided w s p q c
decided (spotted s p q r) = spotted_decided w s p q r
decided (found rs n r) = found_decided rs n r
decided (priced p q x) = numbers_tell x (cost_at w q p)
decided (next p q o) = next_decided w p q o
decided (target p q s) = equal s (task_at w.domain q).to
decided (ruled a k r) = ruled_decided w a k r
decided (balks M a k r) = balks_decided w marks M a k r
decided (does M a k r b) = does_decided w marks M a k r b
decided (shows r t) = shows_decided r t
decided (did a k r b) = did_decided w a k b r

all_right : each (right (λ x. true) test) rows ≡ true
all_right = refl

pub controls_say : ControlsSay
controls_say = all_say Means (λ x. true) test (λ x e. decided x) rows all_right
