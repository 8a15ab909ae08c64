-- One test for claims of values.
use Rattle.std.proofs.Common.{◌≡◌, Bool, true, eqb, ◌↔◌, List}
use Rattle.plans.specs.Reach.{each}
use Rattle.cases_plans.specs.Rows.{Row, AllSay}
use Rattle.cases_plans.proofs.Rows.{alike, right, all_say}
use Rattle.cases_plans.proofs.Tests.{equal}
use Rattle.cases_plans.proofs.Values.{alike_iff, same_list, list_tells}
use Rattle.cases_histories.specs.Values.{Claim, number, flag, numbers, place, entry, standing, ruled, went, Means}
use Rattle.cases_histories.proofs.Tests.{same_numbers, numbers_tell, same_place, places_tell, same_entry, entries_tell, same_at, ats_tell, same_rule, rules_tell, same_errand, errands_tell}

abbrev pub test : Claim → Bool
test (number a b) = eqb a b
test (flag a b) = alike a b
test (numbers a b) = same_numbers a b
test (place a b) = same_place a b
test (entry a b) = same_entry a b
test (standing a b) = same_at a b
test (ruled a b) = same_list same_rule a b
test (went a b) = same_list same_errand a b

decided : (x : Claim) → (test x ≡ true) ↔ Means x
decided (number a b) = equal a b
decided (flag a b) = alike_iff a b
decided (numbers a b) = numbers_tell a b
decided (place a b) = places_tell a b
decided (entry a b) = entries_tell a b
decided (standing a b) = ats_tell a b
decided (ruled a b) = list_tells same_rule rules_tell a b
decided (went a b) = list_tells same_errand errands_tell a b

-- the rows that the test passes
abbrev pub told : List (Row Claim) → Bool
told rows = each (right (λ x. true) test) rows

pub values_say : (rows : List (Row Claim)) → told rows ≡ true → AllSay Means rows
values_say rows e = all_say Means (λ x. true) test (λ x t. decided x) rows e
