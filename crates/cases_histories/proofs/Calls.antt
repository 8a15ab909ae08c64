-- The rows of calls, by one test.
use Rattle.std.proofs.Common.{◌≡◌, true, refl}
use Rattle.cases_histories.specs.Calls.{rows, CallsSay}
use Rattle.cases_histories.proofs.Values.{told, values_say}

all_told : told rows ≡ true
all_told = refl

pub calls_say : CallsSay
calls_say = values_say rows all_told
