-- The rows of flags.
use Rattle.std.proofs.Common.{◌≡◌, true, refl}
use Rattle.cases_plans.specs.Flags.{readings, ReadingsSay}
use Rattle.cases_plans.proofs.Values.{told, values_say}

all_told : told readings ≡ true
all_told = refl

pub readings_say : ReadingsSay
readings_say = values_say readings all_told
