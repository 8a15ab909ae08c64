-- The rows of domains.
use Rattle.std.proofs.Common.{◌≡◌, true, refl}
use Rattle.formula.specs.Truth.{read, truth}
use Rattle.cases_plans.specs.Domains.{rows, DomainsSay}
use Rattle.cases_plans.proofs.Values.{told, values_say}

all_told : told rows ≡ true
unfolding read truth
all_told = refl

pub domains_say : DomainsSay
domains_say = values_say rows all_told
