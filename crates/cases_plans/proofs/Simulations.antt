-- The rows of simulations and ranks, by one test.
use Rattle.std.proofs.Common.{◌≡◌, ℕ, Bool, true, ◌&&◌, ltb, ◌↔◌, refl, ltb-true}
use mathlib.Core.Bool.{and-eq-true_iff}
use Rattle.plans.specs.Reach.{each, left_after}
use Rattle.plans.specs.Reach as reach
use Rattle.plans.specs.Simulation.{Domain, WellFormed, InRange}
use Rattle.plans.proofs.Decide.{serves_decided}
use Rattle.plans.proofs.Ranks.{left_serves}
use Rattle.cases_plans.specs.Simulations.{Claim, well_formed, meets, ends_in, serves, in_range, has, simulates, kept, serves_row, rank, Means, rows, SimulationsSay}
use Rattle.cases_plans.proofs.Rows.{right, all_say}
use Rattle.cases_plans.proofs.Tests.{attains_test, attains_decided}
use Rattle.cases_plans.proofs.Kept.{range_test, range_decided, formed_test, formed_decided, ends_test, ends_decided, simulates_test, simulates_decided, kept_test, kept_decided, rank_test, rank_decided}

-- what the test decides: claims of domains that are well formed, and of pairs that there are
abbrev decides : Claim → Bool
decides (serves D R s c) = formed_test D && ltb c D.conditions
decides (simulates D ps) = formed_test D
decides (kept D s c) = formed_test D
decides (serves_row D k s c) = formed_test D && range_test D s c
decides (rank D s c k) = formed_test D && range_test D s c
decides x = true

abbrev test : Claim → Bool
test (well_formed D) = formed_test D
test (meets D q plan c) = attains_test D.moves q.keep q.reach plan c
test (ends_in D plan c X) = ends_test D.moves X plan c
test (serves D R s c) = reach.serves D R s c
test (in_range D s c) = range_test D s c
test (has R s c) = R s c
test (simulates D ps) = simulates_test D ps
test (kept D s c) = kept_test D s c
test (serves_row D k s c) = left_after D k s c
test (rank D s c k) = rank_test D s c k

formed_range : (D : Domain) (s c : ℕ) → (formed_test D && range_test D s c) ≡ true → WellFormed D × InRange D s c
formed_range D s c e =
    let h = (and-eq-true_iff (formed_test D) (range_test D s c)).0 e in
    ((formed_decided D).0 h.0, (range_decided D s c).0 h.1)

decided : (x : Claim) → decides x ≡ true → (test x ≡ true) ↔ Means x
decided (well_formed D) e = formed_decided D
decided (meets D q plan c) e = attains_decided D.moves q.keep q.reach plan c
decided (ends_in D plan c X) e = ends_decided D.moves X plan c
decided (serves D R s c) e =
    let h = (and-eq-true_iff (formed_test D) (ltb c D.conditions)).0 e in
    serves_decided D ((formed_decided D).0 h.0) R s c (ltb-true c D.conditions h.1)
decided (in_range D s c) e = range_decided D s c
decided (has R s c) e = (λ h. h, λ h. h)
decided (simulates D ps) e = simulates_decided D ((formed_decided D).0 e) ps
decided (kept D s c) e = kept_decided D ((formed_decided D).0 e) s c
decided (serves_row D k s c) e = let h = formed_range D s c e in left_serves D h.0 k s c h.1
decided (rank D s c k) e = let h = formed_range D s c e in rank_decided D h.0 s c k h.1

all_right : each (right decides test) rows ≡ true
all_right = refl

pub simulations_say : SimulationsSay
simulations_say = all_say Means decides test decided rows all_right
