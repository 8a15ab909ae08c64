-- The rows of errands, by one test.
use Rattle.std.proofs.Common.{◌≡◌, true, refl}
use Rattle.cases_histories.specs.Errands.{rows, ErrandsSay}
use Rattle.cases_histories.proofs.Values.{told, values_say}

all_told : told rows ≡ true
all_told = refl

pub errands_say : ErrandsSay
errands_say = values_say rows all_told
