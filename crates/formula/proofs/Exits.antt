-- What a function returns at the exit of a `?`.
use Rattle.std.proofs.Common.{◌≡◌, Ok, Err, Result, ap}
use Rattle.std.specs.Result.{IsErrAnd}

-- it is the error that was made there
pub exit : {T E : Type 0} {f : E} (r : Result T E) → IsErrAnd r (λ e. e ≡ f) → r ≡ Err f
exit (Ok x) h = absurd h
exit (Err e) h = ap Err h
