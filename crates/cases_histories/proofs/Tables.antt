-- The rows of tables, by one test.
use Rattle.std.proofs.Common.{◌≡◌, true, refl}
use Rattle.std.specs.Fmt.{digits}
use Rattle.cases_histories.specs.Tables.{rows, TablesSay}
use Rattle.cases_histories.proofs.Values.{told, values_say}

all_told : told rows ≡ true
unfolding digits
all_told = refl

pub tables_say : TablesSay
tables_say = values_say rows all_told
